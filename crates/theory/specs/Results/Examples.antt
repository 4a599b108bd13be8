-- Sheets of document 01, by evaluation of the backlog: Trio, Radio and Quartet with their figures and rows of responses, and one that is late.
use Rattle.std.specs.Prelude.{◌≡◌, List, [], ◌∷◌, ℕ}
use Rattle.theory.specs.declared.Task.{Task}
use Rattle.theory.specs.Model.Responses.{response, task_response}
use Rattle.theory.specs.Model.Chain.{delay, sampling, sampling_release, bound}

-- A task (T, C, rank).
abbrev pub task : ℕ → ℕ → ℕ → Task
task period budget rank = record { period = period; budget = budget; rank = rank }

abbrev pub trio : List Task
trio = task 8 1 1 ∷ task 2 1 3 ∷ task 4 1 2 ∷ []

abbrev pub radio : List Task
radio = task 20 5 1 ∷ task 6 1 3 ∷ task 12 3 2 ∷ []

abbrev pub quartet : List Task
quartet = task 6 1 4 ∷ task 6 1 3 ∷ task 3 1 2 ∷ task 6 1 1 ∷ []

-- The seventh sheet, which is refused: its first task takes every other tick, so the second is not done with its 2 ticks by 3.
abbrev pub crowded : List Task
crowded = task 2 1 2 ∷ task 3 2 1 ∷ []

pub record Figures (ts : List Task) (p : ℕ) (rest : List ℕ) (figure release quick : ℕ) : Type 0 where
  pub is_sampling : sampling ts (response ts) p rest ≡ figure
  pub is_release : sampling_release ts (response ts) p rest ≡ release
  pub is_bound : bound ts (task_response ts) p rest ≡ quick

-- "Delays 16 at 0, 20 at 20, 12 at 40."
abbrev pub radio_delay : ℕ → ℕ
radio_delay = delay radio (response radio) 0 (1 ∷ 2 ∷ [])
