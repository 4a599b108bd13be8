-- One input, one answer and one content of the table: two that meet a call's promise are equal.
use Rattle.std.specs.Prelude.{◌≡◌, List, ℕ, ℤ, Result}
use Rattle.std.proofs.Common.{sym, ◌∙◌}
use Rattle.sheet.specs.declared.Sheet.{Sheet}
use Rattle.answers.specs.declared.Refusal.{Refusal}
use Rattle.answers.specs.AnswerLaws.{told_unique}
use Rattle.chain.specs.declared.answer.TaskFigures.{TaskFigures}
use Rattle.chain.specs.declared.answer.Suite.{Suite}
use Rattle.chain.specs.Calls.{default_limit}
use Rattle.chain.specs.Promises.{DelayPromise, MarginPromise, DefaultMarginPromise, FiguresPromise, SuitePromise}

module _ (s : Sheet) (old table table' : List ℕ) where
  pub delay_unique : (number release : ℕ) (x y : Result ℕ Refusal) → DelayPromise s number release old x table → DelayPromise s number release old y table' → (x ≡ y) × (table ≡ table')
  delay_unique number release x y p q = (told_unique x y (p.0 ∙ sym q.0), p.1 ∙ sym q.1)

  pub margin_unique : (number limit : ℕ) (x y : Result ℤ Refusal) → MarginPromise s number limit old x table → MarginPromise s number limit old y table' → (x ≡ y) × (table ≡ table')
  margin_unique number limit x y p q = (told_unique x y (p.0 ∙ sym q.0), p.1 ∙ sym q.1)

  pub default_margin_unique : (number : ℕ) (x y : Result ℤ Refusal) → DefaultMarginPromise s number old x table → DefaultMarginPromise s number old y table' → (x ≡ y) × (table ≡ table')
  default_margin_unique number = margin_unique number default_limit

  pub figures_unique : (number : ℕ) (x y : Result TaskFigures Refusal) → FiguresPromise s number old x table → FiguresPromise s number old y table' → (x ≡ y) × (table ≡ table')
  figures_unique number x y p q = (told_unique x y (p.0 ∙ sym q.0), p.1 ∙ sym q.1)

  pub suite_unique : (x y : Result Suite Refusal) → SuitePromise s old x table → SuitePromise s old y table' → (x ≡ y) × (table ≡ table')
  suite_unique x y p q = (told_unique x y (p.0 ∙ sym q.0), p.1 ∙ sym q.1)
