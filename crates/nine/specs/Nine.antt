-- The nine sheets of document 01, as one table (its theorem stands in proofs/Nine.antt): sheets 1 to 7, and the refused halves of sheets 8 and 9.
use Rattle.std.specs.Prelude.{List, [], ◌∷◌, ℕ, length, get_or}
use Rattle.theory.specs.declared.Task.{Task}
use Rattle.theory.specs.Model.Schedule.{none}
use Rattle.sheet.specs.declared.Sheet.{Sheet}
use Rattle.answers.specs.Answers.{Answer, given, refused}
use Rattle.sheet.specs.Calls.{places, unused}
use Rattle.nine.specs.Outcome.{Figures}

-- A task (T, C, rank), and the old sheet in memory with these tasks and this chain.
abbrev task : ℕ → ℕ → ℕ → Task
task period budget rank = record { period = period; budget = budget; rank = rank }

abbrev sheet : List Task → List ℕ → Sheet
sheet ts chain = record {
  tasks = places 16 none (length ts) (λ i. get_or ts i none);
  chains = places 8 unused 1 (λ c. record { entries = places 16 0 (length chain) (λ i. get_or chain i 0); length = length chain; limit = 0 });
  edition = 1;
  count = length ts;
  suite = 0;
}

-- A sheet, and what document 01 says of it.
pub record Sample : Type 0 where
  pub on : Sheet
  pub says : Answer Figures

abbrev taken : List Task → List ℕ → List ℕ → ℕ → ℕ → ℕ → Sample
taken ts chain table figure release quick = record {
  on = sheet ts chain;
  says = given (record { table = table; sampling = figure; release = release; bound = quick });
}

abbrev not_taken : List Task → ℕ → List ℕ → Sample
not_taken ts number values = record { on = sheet ts (0 ∷ []); says = refused number values }

abbrev radio : List Task
radio = task 20 5 1 ∷ task 6 1 3 ∷ task 12 3 2 ∷ []

abbrev radio_table : List ℕ
radio_table = 10 ∷ 9 ∷ 6 ∷ 1 ∷ 1 ∷ 1 ∷ 1 ∷ 1 ∷ 1 ∷ 1 ∷ 1 ∷ 1 ∷ 1 ∷ 4 ∷ 4 ∷ 4 ∷ 4 ∷ 4 ∷ []

abbrev pub nine_sheets : List Sample
nine_sheets =
    taken (task 8 1 1 ∷ task 2 1 3 ∷ task 4 1 2 ∷ []) (0 ∷ 1 ∷ 2 ∷ []) (4 ∷ 1 ∷ 1 ∷ 1 ∷ 1 ∷ 2 ∷ 2 ∷ []) 6 0 8
    ∷ taken radio (0 ∷ 1 ∷ 2 ∷ []) radio_table 20 20 24
    ∷ taken radio (0 ∷ 1 ∷ []) radio_table 13 0 15
    ∷ taken (task 6 1 4 ∷ task 6 1 3 ∷ task 3 1 2 ∷ task 6 1 1 ∷ []) (2 ∷ 3 ∷ []) (1 ∷ 2 ∷ 3 ∷ 1 ∷ 5 ∷ []) 8 3 8
    ∷ taken (task 5 5 1 ∷ []) (0 ∷ []) (5 ∷ []) 5 0 5
    ∷ not_taken (task 5 6 1 ∷ []) 4 (22 ∷ [])
    ∷ not_taken (task 2 1 2 ∷ task 3 2 1 ∷ []) 15 (1 ∷ [])
    ∷ not_taken (task 1000 1 2 ∷ task 1001 1 1 ∷ []) 10 []
    ∷ not_taken (task 2 1 2 ∷ task 16384 1 1 ∷ []) 11 []
    ∷ []

abbrev pub Every : (Sample → Type 0) → List Sample → Type 0
Every P [] = Unit {0}
Every P (r ∷ rs) = P r × Every P rs
