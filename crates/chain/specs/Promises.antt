-- What each call promises: of its inputs, its answer, and the table lent to it as it was and as it is left.
use Rattle.std.specs.Prelude.{List, ℕ, ℤ, length, Result}
use Rattle.answers.specs.declared.Refusal.{Refusal}
use Rattle.answers.specs.Answers.{told}
use Rattle.sheet.specs.declared.Sheet.{Sheet}
use Rattle.schedule.specs.Promises.{AnswersAs}
use Rattle.chain.specs.declared.answer.TaskFigures.{TaskFigures}
use Rattle.chain.specs.declared.answer.Suite.{Suite}
use Rattle.chain.specs.Calls.{default_limit, delay_of, margin_of, task_figures_of, suite_of}

abbrev pub DelayPromise : Sheet → ℕ → ℕ → List ℕ → Result ℕ Refusal → List ℕ → Type 0
DelayPromise s number release old r table = AnswersAs (delay_of s number release (length old)) s old (told r) table

abbrev pub MarginPromise : Sheet → ℕ → ℕ → List ℕ → Result ℤ Refusal → List ℕ → Type 0
MarginPromise s number limit old r table = AnswersAs (margin_of s number limit (length old)) s old (told r) table

-- "The margin call without a limit" (document 02, P7).
abbrev pub DefaultMarginPromise : Sheet → ℕ → List ℕ → Result ℤ Refusal → List ℕ → Type 0
DefaultMarginPromise s number old r table = MarginPromise s number default_limit old r table

abbrev pub FiguresPromise : Sheet → ℕ → List ℕ → Result TaskFigures Refusal → List ℕ → Type 0
FiguresPromise s number old r table = AnswersAs (task_figures_of s number (length old)) s old (told r) table

-- One filling of the table, however many chains there are.
abbrev pub SuitePromise : Sheet → List ℕ → Result Suite Refusal → List ℕ → Type 0
SuitePromise s old r table = AnswersAs (suite_of s (length old)) s old (told r) table
