-- One input, one answer and one content of the table: two that meet a call's promise are equal.
use Rattle.std.specs.Prelude.{◌≡◌, List, ℕ, Result}
use Rattle.std.proofs.Common.{sym, ◌∙◌}
use Rattle.answers.specs.declared.Refusal.{Refusal}
use Rattle.answers.specs.AnswerLaws.{told_unique}
use Rattle.sheet.specs.declared.Sheet.{Sheet}
use Rattle.schedule.specs.declared.answer.Size.{Size}
use Rattle.schedule.specs.declared.answer.TaskResponses.{TaskResponses}
use Rattle.schedule.specs.declared.answer.Totals.{Totals}
use Rattle.schedule.specs.Promises.{SizesPromise, ResponsesPromise, TaskResponsesPromise}

pub sizes_unique : (s : Sheet) (x y : Result Size Refusal) → SizesPromise s x → SizesPromise s y → x ≡ y
sizes_unique s x y p q = told_unique x y (p ∙ sym q)

pub responses_unique : (s : Sheet) (old : List ℕ) (x y : Result Totals Refusal) (table table' : List ℕ)
    → ResponsesPromise s old x table → ResponsesPromise s old y table' → (x ≡ y) × (table ≡ table')
responses_unique s old x y table table' p q = (told_unique x y (p.0 ∙ sym q.0), p.1 ∙ sym q.1)

pub task_responses_unique : (s : Sheet) (old : List ℕ) (x y : Result TaskResponses Refusal) (table table' : List ℕ)
    → TaskResponsesPromise s old x table → TaskResponsesPromise s old y table' → (x ≡ y) × (table ≡ table')
task_responses_unique s old x y table table' p q = (told_unique x y (p.0 ∙ sym q.0), p.1 ∙ sym q.1)
