-- The full-budget schedule, and what is read from it: responses, hyperperiod, idle ticks, lateness. Quotations are from document 01.
use Rattle.std.specs.Prelude.{List, [], ◌∷◌, ℕ, suc, ◌-◌, ◌/◌, ◌<◌, leb, length}
use Rattle.arith.specs.Whole.{lcm}
use Rattle.theory.specs.declared.Task.{Task}
use Rattle.arith.specs.Ranges.{sum, maximum, least}
use Rattle.theory.specs.Model.Schedule.{period, release, budget, Proper, Demands, need, Slot, idle, busy, Run, done}
use Rattle.theory.specs.Model.Simulate.{simulate}

-- "In the full-budget schedule every demand is C."
abbrev pub full : List Task → Demands
full ts i k = budget ts i

abbrev pub full_budget : List Task → Run
full_budget ts = simulate ts (full ts)

-- The finish of job k of task i in the full-budget schedule: the first tick by which its task has run for this job and all before it.
-- It is looked for up to the task's next release; the finish of a job that is late is given as one tick after that.
unfoldable pub finish : List Task → ℕ → ℕ → ℕ
finish ts i k = least (suc (release ts i (suc k))) (λ f. leb (need (full ts) i (suc k)) (done (full_budget ts) i f))

-- "The response of a job is its finish in the full-budget schedule less its release." (A late job's is T + 1.)
unfoldable pub response : List Task → ℕ → ℕ → ℕ
response ts i k = finish ts i k - release ts i k

-- "The hyperperiod H is the least common multiple of all periods on the sheet."
unfoldable pub hyperperiod : List Task → ℕ
unfolding lcm
hyperperiod [] = 1
hyperperiod (x ∷ ts) = lcm x.period (hyperperiod ts)

-- The jobs of task i "released in 0 to H − 1" are its first H/T.
abbrev pub jobs : List Task → ℕ → ℕ
jobs ts i = hyperperiod ts / period ts i

-- "J is the sum of H/T over all tasks."
unfoldable pub all_jobs : List Task → ℕ
all_jobs ts = sum (length ts) (jobs ts)

-- "The response of a task, R, is the greatest response of its jobs released in 0 to H − 1."
unfoldable pub task_response : List Task → ℕ → ℕ
task_response ts i = maximum (jobs ts i) (response ts i)

-- "Idle is the number of idle ticks from 0 to H − 1", "counted from the schedule".
abbrev pub rests : Slot → ℕ
rests idle = 1
rests (busy i) = 0

unfoldable pub idle_ticks : List Task → ℕ
idle_ticks ts = sum (hyperperiod ts) (λ t. rests (full_budget ts t))

-- A job is late when "in the full-budget schedule" it "is unfinished at its task's next release".
abbrev pub Late : List Task → ℕ → ℕ → Type 0
Late ts i k = done (full_budget ts) i (release ts i (suc k)) < need (full ts) i (suc k)

-- Refusal 15 names a task of which "a job released before H" is late.
abbrev pub LateTask : List Task → ℕ → Type 0
LateTask ts i = (k : ℕ) × (release ts i k < hyperperiod ts) × Late ts i k

-- The tasks of an accepted sheet: they are proper, and none is late.
pub record Accepted (ts : List Task) : Type 0 where
  pub proper : Proper ts
  pub none_late : (i : ℕ) → i < length ts → ¬ (LateTask ts i)
