-- The fields of a sheet, place by place, and the sheet that fields make. Quotations are from document 01.
use Rattle.std.specs.Prelude.{cond, List, ℕ, ◌+◌, ◌*◌, ◌/◌, ◌%◌, min, eqb, length, get_or}
use Rattle.std.proofs.lemmas.List.Edits.{sets}
use Rattle.bits.specs.Bits.{list_of}
use Rattle.theory.specs.declared.Task.{Task}
use Rattle.theory.specs.Model.Schedule.{none}
use Rattle.sheet.specs.declared.Chain.{Chain}
use Rattle.sheet.specs.declared.Sheet.{Sheet}
use Rattle.sheet.specs.Fields.{idle}

-- T, C and rank of each task; limit and length of each chain, and its entries, for which it has sixteen places: those of chain c from 16 · c on.
abbrev pub periods_in : Sheet → ℕ → ℕ
periods_in s i = (get_or s.tasks i none).period

abbrev pub budgets_in : Sheet → ℕ → ℕ
budgets_in s i = (get_or s.tasks i none).budget

abbrev pub ranks_in : Sheet → ℕ → ℕ
ranks_in s i = (get_or s.tasks i none).rank

abbrev pub limits_in : Sheet → ℕ → ℕ
limits_in s c = (get_or s.chains c idle).limit

abbrev pub lengths_in : Sheet → ℕ → ℕ
lengths_in s c = (get_or s.chains c idle).length

abbrev pub entries_in : Sheet → ℕ → ℕ
entries_in s i = get_or (get_or s.chains (i / 16) idle).entries (i % 16) 0

-- All n places, as many as the lent slice has.
abbrev pub spread : ℕ → (ℕ → ℕ) → List ℕ → List ℕ
spread n field old = sets old 0 (list_of n field)

-- A sheet from the fields of its tasks and its chains. n is how many periods, budgets and ranks there are, and 0 where they are not
-- as many; over sixteen are too many, however many they are. The chains are counted by limits and lengths in the same way.
abbrev pub counted : ℕ → ℕ
counted k = min k 17

abbrev pub tasks_counted : List ℕ → List ℕ → List ℕ → ℕ
tasks_counted periods budgets ranks =
    cond (eqb (length budgets) (length periods)) (cond (eqb (length ranks) (length periods)) (counted (length periods)) 0) 0

abbrev pub chains_counted : List ℕ → List ℕ → ℕ
chains_counted limits lengths = cond (eqb (length limits) (length lengths)) (counted (length lengths)) 0

abbrev pub task_from : List ℕ → List ℕ → List ℕ → ℕ → Task
task_from periods budgets ranks i = record { period = get_or periods i 0; budget = get_or budgets i 0; rank = get_or ranks i 0 }

abbrev pub chain_from : List ℕ → List ℕ → List ℕ → ℕ → Chain
chain_from limits lengths entries c = record { entries = list_of 16 (λ i. get_or entries (16 * c + i) 0); length = get_or lengths c 0; limit = get_or limits c 0 }

abbrev pub sheet_from : ℕ → List ℕ → List ℕ → List ℕ → List ℕ → List ℕ → List ℕ → Sheet
sheet_from edition periods budgets ranks limits lengths entries =
    record {
      tasks = list_of 16 (task_from periods budgets ranks);
      chains = list_of 8 (chain_from limits lengths entries);
      edition = edition;
      count = tasks_counted periods budgets ranks;
      suite = chains_counted limits lengths;
    }
