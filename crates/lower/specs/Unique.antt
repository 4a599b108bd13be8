-- One input, one answer: two answers that meet the call's promise are equal.
use Rattle.std.specs.Prelude.{◌≡◌, refl, Result, Ok, Err}
use Rattle.std.proofs.Common.{sym, ap, ap₂, ◌∙◌}
use Rattle.answers.specs.declared.Refusal.{Refusal}
use Rattle.answers.specs.declared.Refusal.TheVariants.{NoReading}
use Rattle.answers.specs.Answers.{Judgement, fine, refused, told}
use Rattle.answers.specs.AnswerLaws.{told_unique}
use Rattle.sheet.specs.declared.Sheet.{Sheet}
use Rattle.lower.specs.declared.answer.Obstacle.{Obstacle}
use Rattle.lower.specs.declared.answer.Obstacle.TheVariants.{Refused, Edition, Chain, Task}
use Rattle.lower.specs.Calls.{Finding, nothing, refused_of, edition, chain, task, told_comparison}
use Rattle.lower.specs.Promises.{ComparePromise}

-- The finding tells the refusal, if there is one,
abbrev refusal_of : Result Unit Obstacle → Result Unit Refusal
refusal_of (Ok u) = Ok u
refusal_of (Err (Refused which r)) = Err r
refusal_of (Err (Edition which)) = Ok tt
refusal_of (Err Chain) = Ok tt
refusal_of (Err (Task index difference)) = Ok tt

abbrev judgement_in : Finding → Judgement
judgement_in nothing = fine
judgement_in (refused_of which number values) = refused number values
judgement_in (edition which) = fine
judgement_in chain = fine
judgement_in (task index difference) = fine

judgement_told : (x : Result Unit Obstacle) → judgement_in (told_comparison x) ≡ told (refusal_of x)
judgement_told (Ok u) = refl
judgement_told (Err (Refused which r)) = refl
judgement_told (Err (Edition which)) = refl
judgement_told (Err Chain) = refl
judgement_told (Err (Task index difference)) = refl

-- and with it the case of the enum.
abbrev refused_with : Result Unit Refusal → Refusal
refused_with (Ok u) = NoReading
refused_with (Err r) = r

abbrev case_of : Finding → Result Unit Refusal → Result Unit Obstacle
case_of nothing v = Ok tt
case_of (refused_of which number values) v = Err (Refused which (refused_with v))
case_of (edition which) v = Err (Edition which)
case_of chain v = Err Chain
case_of (task index difference) v = Err (Task index difference)

case_told : (x : Result Unit Obstacle) → case_of (told_comparison x) (refusal_of x) ≡ x
case_told (Ok u) = refl
case_told (Err (Refused which r)) = refl
case_told (Err (Edition which)) = refl
case_told (Err Chain) = refl
case_told (Err (Task index difference)) = refl

pub compare_unique : (old new : Sheet) (x y : Result Unit Obstacle) → ComparePromise old new x → ComparePromise old new y → x ≡ y
compare_unique old new x y p q =
    let same = p ∙ sym q in
    let refusals = told_unique (refusal_of x) (refusal_of y) (sym (judgement_told x) ∙ (ap judgement_in same ∙ judgement_told y)) in
    sym (case_told x) ∙ (ap₂ case_of same refusals ∙ case_told y)
