-- What each call promises: of its inputs, its answer, and the table lent to it as it was and as it is left.
use Rattle.std.specs.Prelude.{◌≡◌, List, ℕ, length, Result}
use Rattle.answers.specs.declared.Refusal.{Refusal}
use Rattle.answers.specs.Answers.{Answer, told}
use Rattle.sheet.specs.declared.Sheet.{Sheet}
use Rattle.sheet.specs.Tasks.{tasks_of}
use Rattle.schedule.specs.declared.answer.Size.{Size}
use Rattle.schedule.specs.declared.answer.TaskResponses.{TaskResponses}
use Rattle.schedule.specs.declared.answer.Totals.{Totals}
use Rattle.schedule.specs.Calls.{sizes_of, responses_of, task_responses_of, table_after}

abbrev pub SizesPromise : Sheet → Result Size Refusal → Type 0
SizesPromise s r = told r ≡ sizes_of s

-- The answer is as defined, and the table is left as that answer leaves it.
abbrev pub AnswersAs : {A : Type 0} → Answer A → Sheet → List ℕ → Answer A → List ℕ → Type 0
AnswersAs definition s old answer table = (answer ≡ definition) × (table ≡ table_after definition (tasks_of s) old)

abbrev pub ResponsesPromise : Sheet → List ℕ → Result Totals Refusal → List ℕ → Type 0
ResponsesPromise s old r table = AnswersAs (responses_of s (length old)) s old (told r) table

abbrev pub TaskResponsesPromise : Sheet → List ℕ → Result TaskResponses Refusal → List ℕ → Type 0
TaskResponsesPromise s old r table = AnswersAs (task_responses_of s (length old)) s old (told r) table
