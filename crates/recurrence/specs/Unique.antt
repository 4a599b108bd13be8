-- One input, one answer: two answers that meet a call's promise are equal.
use Rattle.std.specs.Prelude.{◌≡◌, ℕ, Result}
use Rattle.std.proofs.Common.{sym, ◌∙◌}
use Rattle.theory.specs.declared.Task.{Task}
use Rattle.answers.specs.declared.Refusal.{Refusal}
use Rattle.answers.specs.AnswerLaws.{told_unique}
use Rattle.sheet.specs.declared.Sheet.{Sheet}
use Rattle.recurrence.specs.declared.answer.QuickBound.{QuickBound}
use Rattle.recurrence.specs.declared.answer.QuickSuite.{QuickSuite}
use Rattle.recurrence.specs.Promises.{PairBoundPromise, BoundPromise, SuitePromise}

pub pair_bound_unique : (producer consumer : Task) (response m n : ℕ) → PairBoundPromise producer consumer response m
    → PairBoundPromise producer consumer response n → m ≡ n
pair_bound_unique producer consumer response m n p q = p ∙ sym q

pub bound_unique : (s : Sheet) (number : ℕ) (x y : Result QuickBound Refusal) → BoundPromise s number x → BoundPromise s number y → x ≡ y
bound_unique s number x y p q = told_unique x y (p ∙ sym q)

pub suite_unique : (s : Sheet) (x y : Result QuickSuite Refusal) → SuitePromise s x → SuitePromise s y → x ≡ y
suite_unique s x y p q = told_unique x y (p ∙ sym q)
