-- One input, one answer and one record: two ends that meet a call's promise are equal.
use Rattle.std.specs.Prelude.{◌≡◌, ℕ, Result}
use Rattle.std.proofs.Common.{sym, ◌∙◌}
use Rattle.answers.specs.declared.Refusal.{Refusal}
use Rattle.answers.specs.AnswerLaws.{told_unique}
use Rattle.telltale.specs.declared.Record.{Record}
use Rattle.telltale.specs.Promises.{FreshPromise, BeginPromise, StampPromise}

pub fresh_unique : (x y : Record) → FreshPromise x → FreshPromise y → x ≡ y
fresh_unique x y p q = p ∙ sym q

pub begin_unique : (was : Record) (counter : ℕ) (x y : Record) → BeginPromise was counter x → BeginPromise was counter y → x ≡ y
begin_unique was counter x y p q = p ∙ sym q

pub stamp_unique : (was : Record) (counter : ℕ) (a b : Result ℕ Refusal) (x y : Record) → StampPromise was counter a x → StampPromise was counter b y → (a ≡ b) × (x ≡ y)
stamp_unique was counter a b x y p q = (told_unique a b (p.0 ∙ sym q.0), p.1 ∙ sym q.1)
