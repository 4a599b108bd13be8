-- The paths of a run: from each job there is one, it is no longer than the delay of its chain, and where ranks rise it is as long at full budgets.
-- A run has at most one path from a job
use Rattle.std.specs.Prelude.{ℕ, ◌/◌}
use mathlib.Core.List.{List}
use Rattle.theory.specs.declared.Task.{Task}
use Rattle.theory.specs.Model.Schedule.{period, release}
use Rattle.theory.specs.Model.Responses.{response}
use Rattle.theory.specs.Model.Chain.{next_release}

-- The job of c that the walk goes on with from job k of p.
abbrev pub next_job : List Task → ℕ → ℕ → ℕ → ℕ
next_job ts p c k = next_release ts (response ts) p c (release ts p k) / period ts c
