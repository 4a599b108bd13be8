-- A clock that watches its own paths: a run of calls that begin at releases of the chain's first task and stamp where its last task finishes.
use Rattle.std.specs.Prelude.{ℕ, ◌%◌, ◌^◌, ◌≤◌, List, [], ◌∷◌, ◌++◌, map}
use Rattle.theory.specs.declared.Task.{Task}
use Rattle.theory.specs.Model.Schedule.{release, Demands, Run}
use Rattle.theory.specs.Model.Chain.{PathEnds}
use Rattle.telltale.specs.Runs.{Call, begin, stamp}

-- "The counter rolls over past its top value and carries on from zero" (P6): what it shows at a tick.
abbrev pub counter_at : ℕ → ℕ
counter_at tick = tick % 2 ^ 32

module _ (ts : List Task) (d : Demands) (ran : Run) (p : ℕ) (rest : List ℕ) where
  -- One reading that the clock watches: of the job of p that begins it, stamped no later than where the path of that job ends. Stamps may come
  -- early, before it begins, and other begins while it is under way, at any counters.
  pub record Reading : Type 0 where
    pub early : List ℕ
    pub job : ℕ
    pub others : List ℕ
    pub stamped : ℕ
    pub after_release : release ts p job ≤ stamped
    pub path_end : ℕ
    pub path : PathEnds d ran p rest job path_end
    pub by_its_end : stamped ≤ path_end

  -- The calls of some readings, one after the other.
  abbrev pub watched : List Reading → List Call
  watched [] = []
  watched (x ∷ xs) = map stamp x.early ++ (begin (counter_at (release ts p x.job)) ∷ (map begin x.others ++ (stamp (counter_at x.stamped) ∷ watched xs)))
