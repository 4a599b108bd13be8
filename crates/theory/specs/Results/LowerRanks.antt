-- Lower ranks do not reach a chain (document 02, P10): its figures do not know the tasks that are ranked below all of its own.
use Rattle.std.specs.Prelude.{◌≡◌, List, ℕ, ◌<◌, length}
use Rattle.theory.specs.declared.Task.{Task}
use Rattle.theory.specs.Model.Schedule.{rank}
use Rattle.theory.specs.Model.Responses.{response, task_response}
use Rattle.theory.specs.Model.Chain.{sampling, sampling_release, bound}
use Rattle.theory.specs.Analysis.LowerLaws.{SameFrom}

-- A chain's figures are the same on two lists of tasks.
pub record SameFigures (ts us : List Task) (p : ℕ) (rest : List ℕ) : Type 0 where
  pub same_sampling : sampling ts (response ts) p rest ≡ sampling us (response us) p rest
  pub same_release : sampling_release ts (response ts) p rest ≡ sampling_release us (response us) p rest
  pub same_bound : bound ts (task_response ts) p rest ≡ bound us (task_response us) p rest

-- Task i is apart from what differs on two lists: whatever either has at its rank or above it, both have.
pub record Apart (ts us : List Task) (i : ℕ) : Type 0 where
  pub known : i < length ts
  pub same : SameFrom (rank ts i) ts us
