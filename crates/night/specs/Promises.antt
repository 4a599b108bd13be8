-- What the call promises: of its inputs, its answer, and the table lent to it as it was and as it is left.
use Rattle.std.specs.Prelude.{◌≡◌, List, ℕ, length, Result}
use Rattle.answers.specs.declared.Refusal.{Refusal}
use Rattle.answers.specs.Answers.{told}
use Rattle.sheet.specs.declared.Sheet.{Sheet}
use Rattle.sheet.specs.Tasks.{tasks_of}
use Rattle.schedule.specs.Calls.{table_after}
use Rattle.night.specs.declared.answer.Replayed.{Replayed}
use Rattle.night.specs.Calls.{figures_after, AnswersFor}

abbrev pub ReplayPromise : Sheet → List ℕ → List ℕ → Result Replayed Refusal → List ℕ → Type 0
ReplayPromise s bytes old r table =
    let figures = figures_after s bytes (length old) in
    AnswersFor s bytes figures (told r) × (table ≡ table_after figures (tasks_of s) old)
