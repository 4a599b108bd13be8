-- What the walk reads: the task of each place of a chain, with its row of the table.
use Rattle.std.specs.Prelude.{◌≡◌, cond, Bool, List, [], ◌∷◌, ℕ, ◌+◌, ◌-◌, ◌*◌, ◌/◌, ◌%◌, ◌≤◌, ◌<◌, ltb, eqb, length, get_or}
use Rattle.theory.specs.declared.Task.{Task}
use Rattle.arith.specs.Whole.{up}
use Rattle.arith.specs.Ranges.{maximum, least}
use Rattle.theory.specs.Model.Schedule.{none}
use Rattle.theory.specs.Model.Responses.{response, jobs}
use Rattle.recurrence.specs.Calls.{pair_added}
use Rattle.chain.specs.declared.answer.Figure.{Figure}
use Rattle.chain.specs.declared.row.Row.{Row}
use Rattle.chain.specs.declared.row.HandOver.{HandOver}
use Rattle.chain.specs.Most.{most_wait}

-- The response of job k, "of the job released at its release modulo H".
abbrev pub response_in : Row → ℕ → ℕ
response_in row k = get_or row.responses.now (k % length row.responses.now) 0

-- "the greatest response of its jobs released in 0 to H − 1"
abbrev pub greatest_in : Row → ℕ
greatest_in row = maximum (length row.responses.now) (λ k. get_or row.responses.now k 0)

-- "c outranks p"
abbrev pub waits_in : Row → Row → Bool
waits_in p c = ltb p.task.rank c.task.rank

-- The next release of c after that of job k of p.
abbrev pub next_in : Row → Row → ℕ → ℕ
next_in p c k = up c.task.period (cond (waits_in p c) (k * p.task.period + response_in p k) (k * p.task.period))

-- From job k of p a path goes to the job of c at the next release.
pub record HandedOver (p c : Row) (k : ℕ) (next : HandOver) : Type 0 where
  pub job_is : next.job * c.task.period ≡ next_in p c k
  pub wait_is : next.wait ≡ next_in p c k - k * p.task.period

-- What a pair adds to the quick bound.
abbrev pub pair_in : Row → Row → ℕ
pair_in p c = pair_added p.task c.task (greatest_in p)

-- ---- along a path

-- T of its first task, and how many jobs that has before H.
abbrev pub period_in : List Row → ℕ
period_in [] = 0
period_in (p ∷ rest) = p.task.period

abbrev pub count_in : List Row → ℕ
count_in [] = 0
count_in (p ∷ rest) = length p.responses.now

-- The delay from job k of the first task on.
abbrev pub delay_in : List Row → ℕ → ℕ
delay_in [] k = 0
delay_in (p ∷ []) k = response_in p k
delay_in (p ∷ c ∷ rest) k = (next_in p c k - k * p.task.period) + delay_in (c ∷ rest) (next_in p c k / c.task.period)

abbrev pub bound_in : List Row → ℕ
bound_in [] = 0
bound_in (p ∷ []) = greatest_in p
bound_in (p ∷ c ∷ rest) = pair_in p c + bound_in (c ∷ rest)

-- What the first hand-over leaves.
abbrev pub ahead : List Row → List Row
ahead [] = []
ahead (p ∷ []) = p ∷ []
ahead (p ∷ c ∷ rest) = c ∷ rest

-- The first hand-over of the path from job k of its first task, after which `rest` is left.
pub record FirstHandedOver (path rest : List Row) (k : ℕ) (next : HandOver) : Type 0 where
  pub delay_is : delay_in path k ≡ next.wait + delay_in rest next.job
  pub meets : k * period_in path + next.wait ≡ next.job * period_in rest
  pub near : next.wait ≤ most_wait

-- The greatest of n delays, and the smallest release that gives it, where releases lie T apart.
pub record Greatest (n T : ℕ) (delays : ℕ → ℕ) (figure : Figure) : Type 0 where
  pub ticks_is : figure.ticks ≡ maximum n delays
  pub release_is : figure.release ≡ least n (λ k. eqb (delays k) (maximum n delays)) * T

-- ---- the rows of a sheet's tasks

-- This task is the list's task i, and these are the responses of its jobs before H.
pub record RowOf (ts : List Task) (i : ℕ) (task : Task) (responses : List ℕ) : Type 0 where
  pub task_is : task ≡ get_or ts i none
  pub count_is : length responses ≡ jobs ts i
  pub response_is : (k : ℕ) → k < jobs ts i → get_or responses k 0 ≡ response ts i k

abbrev pub IsRow : List Task → ℕ → Row → Type 0
IsRow ts i row = RowOf ts i row.task row.responses.now

-- The first n tasks of the list have their rows here, whatever is read past the last place;
abbrev pub RowsOf : List Task → ℕ → List Row → Type 0
RowsOf ts n rows = (i : ℕ) → i < n → (past : Row) → IsRow ts i (get_or rows i past)

-- and the first n places of a chain have them here, in its order.
abbrev pub PathOf : List Task → List ℕ → ℕ → List Row → Type 0
PathOf ts chain n path = (j : ℕ) → j < n → (past : Row) → IsRow ts (get_or chain j 0) (get_or path j past)

-- The first n places of a path are copies of the rows that a chain names.
abbrev pub Copied : List ℕ → List Row → ℕ → List Row → Type 0
Copied chain rows n path = (j : ℕ) → j < n → (past : Row) → get_or path j past ≡ get_or rows (get_or chain j 0) past
