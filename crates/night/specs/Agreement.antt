-- When records of starts and finishes agree with the tasks, and what is followed in them. Quotations are from document 02, P6.
use Rattle.std.specs.Prelude.{◌≡◌, ◌⊎◌, ◌↔◌, List, [], ◌∷◌, ℕ, suc, ◌+◌, ◌*◌, ◌≤◌, ◌<◌, length, get_or, take, Option, Some, None}
use Rattle.theory.specs.declared.Task.{Task}
use Rattle.clocklog.specs.Events.{Event, start, finish}
use Rattle.theory.specs.Model.Schedule.{release, Demands, Within, Run, Schedule, Starts, Finishes}
use Rattle.theory.specs.Model.Chain.{PathEnds}
use Rattle.night.specs.declared.answer.Longest.{Longest}

-- Tick 0 is the origin, "where no job is in progress". "In tick order, a finish before a start on one tick": the place of an event in this order,
-- which no two events of a run share (`Results.one_event`).
abbrev pub instant : Event → ℕ
instant (start i t) = suc (2 * t)
instant (finish i t) = 2 * t

-- The event takes place in the run.
abbrev pub Happens : Demands → Run → Event → Type 0
Happens d run (start i t) = (k : ℕ) × Starts d run i k t
Happens d run (finish i t) = (k : ℕ) × Finishes d run i k t

-- It is the run's first from instant u on.
pub record Next (d : Demands) (run : Run) (u : ℕ) (e : Event) : Type 0 where
  pub happens : Happens d run e
  pub from_on : u ≤ instant e
  pub first : (x : Event) → Happens d run x → u ≤ instant x → instant e ≤ instant x

-- The records are the run's first from instant u on.
abbrev pub Begins : Demands → Run → ℕ → List Event → Type 0
Begins d run u [] = Unit {0}
Begins d run u (e ∷ es) = Next d run u e × Begins d run (suc (instant e)) es

-- "Records agree with the sheet when they are the first starts and finishes, in tick order, a finish before a start on one tick,
-- of some schedule in which each job's demand is 1 to C."
pub record Agrees (ts : List Task) (es : List Event) : Type 0 where
  pub demands : Demands
  pub run : Run
  pub within : Within ts demands
  pub schedule : Schedule ts demands run
  pub begins : Begins demands run 0 es

-- ---- what is followed

-- "Only those before it are followed": the records before the breaking one, all of them where none breaks.
abbrev pub before_break : List Event → Option ℕ → List Event
before_break es None = es
before_break es (Some r) = take r es

-- "The breaking record is the first that, with all before it, does not agree."
abbrev pub Breaks : List Task → List Event → Option ℕ → Type 0
Breaks ts es None = Agrees ts es
Breaks ts es (Some r) = (r < length es) × Agrees ts (take r es) × ¬ (Agrees ts (take (suc r) es))

-- The record is one of these.
abbrev pub Logged : Event → List Event → Type 0
Logged x [] = ⊥
Logged x (e ∷ es) = (x ≡ e) ⊎ Logged x es

-- The task at a place of the chain, whose first task is p.
abbrev pub place : ℕ → List ℕ → ℕ → ℕ
place p rest q = get_or (p ∷ rest) q 0

-- In a schedule that begins with the records the path from job k of the first task "is completed in the log": it ends with a finish at f,
-- and that is recorded.
abbrev pub Completed : (ts : List Task) (p : ℕ) (rest : List ℕ) (es : List Event) → Agrees ts es → ℕ → ℕ → Type 0
Completed ts p rest es a k f = PathEnds a.demands a.run p rest k f × Logged (finish (place p rest (length rest)) f) es

-- "the longest delay from release with its smallest job number, or none"
abbrev pub IsLongest : (ts : List Task) (p : ℕ) (rest : List ℕ) (es : List Event) → Agrees ts es → Option Longest → Type 0
IsLongest ts p rest es a None = (k f : ℕ) → ¬ (Completed ts p rest es a k f)
IsLongest ts p rest es a (Some x) =
    Completed ts p rest es a x.job (release ts p x.job + x.ticks)
    × ((k f : ℕ) → Completed ts p rest es a k f → (f ≤ release ts p k + x.ticks) × (f ≡ release ts p k + x.ticks → x.job ≤ k))

-- What is answered of the records es, for the tasks of a sheet and a chain: the break, and in every schedule that begins with the records before
-- it the paths followed and the longest of them. Paths are completed in the order of their jobs, so `paths` of them are those of the first jobs.
pub record Replays (ts : List Task) (p : ℕ) (rest : List ℕ) (es : List Event) (paths : ℕ) (longest : Option Longest) (breaking : Option ℕ) : Type 0 where
  pub breaks : Breaks ts es breaking
  pub counts : (a : Agrees ts (before_break es breaking)) (k : ℕ) → (k < paths) ↔ ((f : ℕ) × Completed ts p rest (before_break es breaking) a k f)
  pub longest_is : (a : Agrees ts (before_break es breaking)) → IsLongest ts p rest (before_break es breaking) a longest
