-- What the functions under the call promise each other.
use Rattle.std.specs.Prelude.{◌≡◌, ◌⊎◌, List, [], ◌∷◌, ◌++◌, true, false, cond, ℕ, suc, ◌+◌, ◌-◌, ◌*◌, ◌%◌, ◌≤◌, ◌<◌, eqb, ltb, length, get_or, take, drop, sum_by, Option, Some, None, Result, Ok, Err}
use Rattle.std.proofs.Math.ListN.{set}
use Rattle.arith.specs.Whole.{up}
use Rattle.theory.specs.declared.Task.{Task}
use Rattle.arith.specs.Ranges.{sum}
use Rattle.theory.specs.Model.Schedule.{none, period, budget, rank, idle, busy}
use Rattle.theory.specs.Model.Responses.{full, hyperperiod}
use Rattle.theory.specs.Analysis.Backlog.{load, drain}
use Rattle.theory.specs.Analysis.Finish.{FirstZero}
use Rattle.answers.specs.declared.Refusal.{Refusal}
use Rattle.answers.specs.Answers.{told}
use Rattle.schedule.specs.declared.answer.Size.{Size}
use Rattle.schedule.specs.declared.answer.Totals.{Totals}
use Rattle.schedule.specs.declared.cycle.Lowest.{Lowest}
use Rattle.schedule.specs.declared.level.Place.{Place}
use Rattle.schedule.specs.declared.walk.Next.{Next}
use Rattle.schedule.specs.Calls.{most_ticks, late_task, late_greatest, filled_of, row, rows, table_after}

-- ---- work that comes in

-- What a task of period T and budget C brings at tick t.
abbrev pub brings : ℕ → ℕ → ℕ → ℕ
brings t T C = cond (eqb (t % T) 0) C 0

-- A place for one task, before its first release.
abbrev pub place_of : Task → Place
place_of task = record { period = task.period; budget = task.budget; next = 0 }

abbrev pub place_at : List Place → ℕ → Place
place_at places p = get_or places p (place_of none)

-- A sum over places, of a number of their periods and budgets.
abbrev pub over : (ℕ → ℕ → ℕ) → List Place → ℕ
over f places = sum_by (λ (place : Place). f place.period place.budget) places

-- What they bring at tick t,
unfoldable pub placed : List Place → ℕ → ℕ
placed places t = over (brings t) places

-- and a level, which is a row's own task and those in the places.
unfoldable pub coming : Place → List Place → ℕ → ℕ
unfolding placed
coming own others t = brings t own.period own.budget + placed others t

-- A place whose next release is its first at or after tick t.
pub record DueAt (t : ℕ) (place : Place) : Type 0 where
  pub period_positive : 0 < place.period
  pub period_most : place.period ≤ 100000
  pub next_is : place.next ≡ up place.period t

abbrev pub AllDueAt : ℕ → List Place → Type 0
AllDueAt t places = (p : ℕ) → p < length places → DueAt t (place_at places p)

-- Places with a task more: in that of its period, or in one of its own.
abbrev pub Adds : List Place → Task → List Place → Type 0
Adds places task more =
    ((p : ℕ) × (p < length places) × ((place_at places p).period ≡ task.period) × (more ≡ set places p (record (place_at places p) { budget = (place_at places p).budget + task.budget })))
    ⊎ (more ≡ places ++ place_of task ∷ [])

-- A number of a task that budgets of one period add up to.
abbrev pub Additive : (ℕ → ℕ → ℕ) → Type 0
Additive f = (T a b : ℕ) → f T (a + b) ≡ f T a + f T b

-- The places hold the tasks that outrank a rank, in any order and those of one period together: a sum over these is one over the tasks.
pub record Above (ts : List Task) (r : ℕ) (places : List Place) : Type 0 where
  pub due : AllDueAt 0 places
  pub sums : (f : ℕ → ℕ → ℕ) → Additive f → over f places ≡ sum (length ts) (λ j. cond (ltb r (rank ts j)) (f (period ts j) (budget ts j)) 0)

-- A walk starts before the first release of the row's own task and of each place.
pub record Starts (own : Place) (others : List Place) : Type 0 where
  pub own_due : DueAt 0 own
  pub others_due : AllDueAt 0 others

-- All work that a walk meets is done by this tick: it ends by tick 1,000,000, and sixteen tasks have at most 1,100,000 due each.
abbrev pub most_clear : ℕ
most_clear = 20000000

-- A level before the releases of tick t, with work that is done by tick `clear`.
pub record Ready (own : Place) (others : List Place) (t clear : ℕ) : Type 0 where
  pub own_due : DueAt t own
  pub others_due : AllDueAt t others
  pub fits : clear + coming own others t ≤ most_clear
  pub short : t ≤ most_ticks

-- And after them: by when the work is done with what they bring, and the next tick with releases. The work that comes in is as before.
pub record Turned (own : Place) (others : List Place) (t clear : ℕ) (own' : Place) (others' : List Place) (next : Next) : Type 0 where
  pub own_after : DueAt (suc t) own'
  pub others_after : AllDueAt (suc t) others'
  pub same_period : own'.period ≡ own.period
  pub same : (u : ℕ) → coming own' others' u ≡ coming own others u
  pub clear_is : next.clear ≡ clear + coming own others t
  pub later : t < next.soon
  pub before_own : next.soon ≤ own'.next
  pub before_others : (p : ℕ) → p < length others' → next.soon ≤ (place_at others' p).next

-- ---- a row, for a x of work that comes in at tick x and jobs released at the multiples of T

-- The ticks before t in which there is no work left and none comes in.
unfoldable pub rests_to : (ℕ → ℕ) → ℕ → ℕ
rests_to a t = sum t (λ x. 1 - (drain a x + a x))

-- Job k is done at the first tick after its release where nothing is left, and that is f ticks after it.
pub record Cleared (a : ℕ → ℕ) (T k f : ℕ) : Type 0 where
  pub soon : f ≤ T
  pub clears : FirstZero (drain a) (k * T) (k * T + f)

-- It is not, up to the next release.
abbrev pub Blocked : (ℕ → ℕ) → ℕ → ℕ → Type 0
Blocked a T k = (z : ℕ) → k * T < z → z ≤ suc k * T → 0 < drain a z

-- The walk of a row: every release of its jobs brings work, the last job is due at h, and the numbers fit.
pub record Walk (a : ℕ → ℕ) (T h n : ℕ) : Type 0 where
  pub period_positive : 0 < T
  pub period_most : T ≤ 100000
  pub ends : n * T ≡ h
  pub short : h ≤ most_ticks
  pub own : (k : ℕ) → 0 < a (k * T)
  pub bounded : (t : ℕ) → t ≤ h → t + drain a t + a t ≤ most_clear

-- What it tells: the ticks at rest, with each job's ticks in its entry, or none where a job is not done.
abbrev pub Walked : (ℕ → ℕ) → ℕ → ℕ → List ℕ → Option ℕ → Type 0
Walked a T h xs (Some rests) = ((k : ℕ) → k < length xs → Cleared a T k (get_or xs k 0)) × (rests ≡ rests_to a h)
Walked a T h xs None = (k : ℕ) × (k < length xs) × Blocked a T k

-- ---- the rows of a sheet

-- Whether task i is late; where it is not, the ticks in which its level rests.
abbrev pub Noted : List Task → ℕ → Option ℕ → Type 0
Noted ts i (Some rests) = (late_task ts i ≡ false) × (rests ≡ rests_to (load ts (full ts) i) (hyperperiod ts))
Noted ts i None = late_task ts i ≡ true

pub record RowFilled (ts : List Task) (i : ℕ) (xs : List ℕ) (r : Option ℕ) : Type 0 where
  pub noted : Noted ts i r
  pub filled : late_task ts i ≡ false → xs ≡ row ts i

-- What the rows of the first n tasks tell.
pub record LowestTo (ts : List Task) (n low rests : ℕ) : Type 0 where
  pub none_late : late_greatest ts n ≡ idle
  pub known : low ≤ n
  pub lowest : (j : ℕ) → j < n → rank ts low ≤ rank ts j
  pub rest : 0 < n → (low < n) × (rests ≡ rests_to (load ts (full ts) low) (hyperperiod ts))

pub record LateTo (ts : List Task) (n i : ℕ) : Type 0 where
  pub is_greatest : late_greatest ts n ≡ busy i
  pub known : i < n

abbrev pub FoundTo : List Task → ℕ → Result Lowest ℕ → Type 0
FoundTo ts n (Ok lowest) = LowestTo ts n lowest.task lowest.rests
FoundTo ts n (Err i) = LateTo ts n i

-- The table once the rows of the first n tasks are walked, which end at `end`: they stand there unless a task is late.
pub record Filled (ts : List Task) (n end : ℕ) (old table : List ℕ) (found : Result Lowest ℕ) : Type 0 where
  pub told : FoundTo ts n found
  pub same_length : length table ≡ length old
  pub untouched : drop end table ≡ drop end old
  pub filled : late_greatest ts n ≡ idle → take end table ≡ rows ts n

-- The answer and the table, for tasks of such H and J.
abbrev pub FilledAs : List Task → Size → List ℕ → Result Totals Refusal → List ℕ → Type 0
FilledAs ts size old r table = (told r ≡ filled_of ts (length old) size) × (table ≡ table_after (filled_of ts (length old) size) ts old)
