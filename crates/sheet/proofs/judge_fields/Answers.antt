-- The fields that are left decide what all of them would, and the next begins where the last ended.
use Rattle.std.specs.Prelude.{Some}
use mathlib.Core.Path.{refl, sym, ap, ap₂, ◌∙◌, subst}
use Prim.Native.Nat.{ℕ, ◌+◌, ◌*◌}
use native.Mathlib.Omega.{arith}
use Rattle.std.proofs.lemmas.Result.{err_from_is_err_and}
use Rattle.answers.specs.Answers.{given, also}
use Rattle.answers.specs.AnswerLaws.{also_no, also_fine}
use Rattle.sheet.specs.Fields.{kind_of, fields, width, widths, value, in_order}
use Rattle.sheet.specs.Calls.{judged_in}
use Rattle.sheet.specs.Order.{after}
use Rattle.sheet.specs.InOrderLaws.{in_order_step, in_order_none, judged_short, judged_whole_lem}
use Rattle.sheet.specs.FieldLaws.{width_small}
use Rattle.sheet.specs.SizeLaws.{ends_by}
use Rattle.sheet.specs.StepLaws.{Left, left_all, left_none, left_step}
use Rattle.sheet.proofs.judge_fields.Goals as goal

pub loop-next-init : goal.loop-next-init
loop-next-init c =
    let v = value c.args.s.now in
    (fields v, subst (λ f. Left v f 0 (fields v)) (ap Some (sym c.opening_of.ensures)) (left_all v), refl)

pub overflow_add-end : goal.overflow_add-end
overflow_add-end c =
    let v = value c.args.s.now in
    let l = c.loop-next in
    let step = left_step v l.at l.invariant.0 l.invariant.1 c.in-Some.is in
    omega (arith, c.width_of.ensures, step.room, ends_by v)

pub returns-then-len-div_ceil : goal.returns-then-len-div_ceil
returns-then-len-div_ceil c =
    let v = value c.args.s.now in
    let room : ℕ = c.args.len * 8 in
    let judge = judged_in room v in
    let l = c.loop-next in
    let f = c.in-Some.f in
    let step = left_step v l.at l.invariant.0 l.invariant.1 c.in-Some.is in
    let left = in_order judge (l.at + width f) step.rest in
    sym (ap (λ j. also j (given (widths (fields v))))
    (l.invariant.2 ∙ in_order_step step.is judge l.at ∙ ap (λ j. also j left) (judged_short room v l.at f (omega (arith, c.width_of.ensures, c.div_ceil.ensures)))))

pub judge_field-requires : goal.judge_field-requires
judge_field-requires c =
    let v = value c.args.s.now in
    let l = c.loop-next in
    (left_step v l.at l.invariant.0 l.invariant.1 c.in-Some.is).place

pub returns-in_err-judge_field : goal.returns-in_err-judge_field
returns-in_err-judge_field c =
    let v = value c.args.s.now in
    let room : ℕ = c.args.len * 8 in
    let judge = judged_in room v in
    let l = c.loop-next in
    let f = c.in-Some.f in
    let step = left_step v l.at l.invariant.0 l.invariant.1 c.in-Some.is in
    let left = in_order judge (l.at + width f) step.rest in
    let p = err_from_is_err_and c.from_residual.result c.from_residual.ensures.1 in
    rw (p.1, p.2) (sym (ap (λ j. also j (given (widths (fields v))))
    (l.invariant.2 ∙ in_order_step step.is judge l.at
    ∙ ap (λ j. also j left) (judged_whole_lem room v l.at f (omega (arith, c.if-len-div_ceil.false, c.width_of.ensures, c.div_ceil.ensures)))
    ∙ also_no left c.judge_field.ensures c.in_err-judge_field.was)))

pub next_of-next-requires : goal.next_of-next-requires
next_of-next-requires c =
    let v = value c.args.s.now in
    let l = c.loop-next in
    (left_step v l.at l.invariant.0 l.invariant.1 c.in-Some.is).place

pub loop-next-smaller : goal.loop-next-smaller
loop-next-smaller c =
    let v = value c.args.s.now in
    let l = c.loop-next in
    let step = left_step v l.at l.invariant.0 l.invariant.1 c.in-Some.is in
    omega (arith, c.width_of.ensures, width_small c.in-Some.f, step.room, ends_by v)

pub loop-next-preserved : goal.loop-next-preserved
loop-next-preserved c =
    let v = value c.args.s.now in
    let room : ℕ = c.args.len * 8 in
    let judge = judged_in room v in
    let l = c.loop-next in
    let f = c.in-Some.f in
    let step = left_step v l.at l.invariant.0 l.invariant.1 c.in-Some.is in
    let left = in_order judge (l.at + width f) step.rest in
    let w = c.width_of.ensures in (
      step.rest,
      subst (λ n. Left v n (l.at + c.width_of.result) step.rest) (sym c.next_of-next.ensures)
          (subst (λ k. Left v (after (kind_of v) v f) (l.at + k) step.rest) (sym w) step.later),
      l.invariant.2 ∙ in_order_step step.is judge l.at
          ∙ ap (λ j. also j left) (judged_whole_lem room v l.at f (omega (arith, c.if-len-div_ceil.false, w, c.div_ceil.ensures)))
          ∙ also_fine left c.judge_field.ensures c.in_ok-judge_field.was
          ∙ ap (λ k. in_order judge (l.at + k) step.rest) (sym w),
    )

pub returns : goal.returns
returns c =
    let v = value c.args.s.now in
    let l = c.loop-next in
    let none = left_none v l.at l.invariant.0 l.invariant.1 c.in_default.is in
    sym (ap₂ (λ j k. also j (given k)) (l.invariant.2 ∙ in_order_none none.0 (judged_in (c.args.len * 8) v) l.at) (sym none.1))
