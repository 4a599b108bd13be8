-- Demand 3 from a release: no schedule exceeds the sampling figure, the figure never exceeds the quick bound, and where ranks rise along the chain it is reached.
-- The theorems follow paths; 2 says what the end of a path carries.
use Rattle.std.specs.Prelude.{List, ℕ}
use Rattle.theory.specs.declared.Task.{Task}
use Rattle.theory.specs.Model.Schedule.{period}
use Rattle.theory.specs.Model.Responses.{response, hyperperiod}
use Rattle.theory.specs.Model.Chain.{delay, GreatestOf}

-- A figure is the greatest delay of the chain over all releases of its first task, and a release the smallest that gives it; it is before H.
abbrev pub GreatestDelay : List Task → ℕ → List ℕ → ℕ → ℕ → Type 0
GreatestDelay ts p rest = GreatestOf (period ts p) (hyperperiod ts) (delay ts (response ts) p rest)
