-- What a list of tasks and a chain come to, by evaluation of the backlog: whether it is accepted, its rows of responses, the chain's figures.
use Rattle.std.specs.Prelude.{◌≡◌, List, ℕ, ◌<◌, length, get_or}
use Rattle.theory.specs.declared.Task.{Task}
use Rattle.theory.specs.Model.Responses.{response, jobs}

-- The row of task i: its responses, in release order, of the jobs released before H.
pub record Row (ts : List Task) (i : ℕ) (row : List ℕ) : Type 0 where
  pub whole : length row ≡ jobs ts i
  pub each : (k : ℕ) → k < jobs ts i → response ts i k ≡ get_or row k 0
