-- Putting the fields that are left gives what putting them all at the start would have given.
use Rattle.std.specs.Prelude.{Some}
use mathlib.Core.Path.{◌≡◌, refl, sym, ap, ap₂, ◌∙◌, subst}
use Prim.Native.Nat.{ℕ, ◌+◌, min}
use native.Mathlib.Omega.{arith}
use lib.ListN.{length}
use lib.Seq.{sets, length-sets}
use Rattle.bits.specs.Bits.{bits, unpack}
use Rattle.bits.specs.Laws.{length_bits}
use Rattle.bits.specs.Lists.{sets_append}
use Rattle.bits.specs.Bytes.{length_unpack}
use Rattle.sheet.specs.Fields.{kind_of, fields, width, value}
use Rattle.sheet.specs.Calls.{bits_of}
use Rattle.sheet.specs.Order.{after}
use Rattle.sheet.specs.FormatLaws.{bits_step, bits_none}
use Rattle.sheet.specs.FieldLaws.{width_small}
use Rattle.sheet.specs.SizeLaws.{ends_by}
use Rattle.sheet.specs.StepLaws.{Left, left_all, left_none, left_step}
use Rattle.sheet.proofs.put_fields.Goals as goal

pub loop-next-init : goal.loop-next-init
loop-next-init c =
    let v = value c.args.s.now in
    (refl, fields v, subst (λ f. Left v f 0 (fields v)) (ap Some (sym c.opening_of.ensures)) (left_all v), refl)

pub value_of-requires : goal.value_of-requires
value_of-requires c =
    let v = value c.args.s.now in
    let l = c.loop-next in
    (left_step v l.at l.invariant.1 l.invariant.2 c.in-Some.is).place

pub next_of-next-requires : goal.next_of-next-requires
next_of-next-requires c =
    let v = value c.args.s.now in
    let l = c.loop-next in
    (left_step v l.at l.invariant.1 l.invariant.2 c.in-Some.is).place

pub overflow_add-at : goal.overflow_add-at
overflow_add-at c =
    let v = value c.args.s.now in
    let l = c.loop-next in
    let step = left_step v l.at l.invariant.1 l.invariant.2 c.in-Some.is in
    omega (arith, c.width_of-width.ensures, step.room, ends_by v)

pub loop-next-smaller : goal.loop-next-smaller
loop-next-smaller c =
    let v = value c.args.s.now in
    let l = c.loop-next in
    let step = left_step v l.at l.invariant.1 l.invariant.2 c.in-Some.is in
    omega (arith, c.width_of-width.ensures, width_small c.in-Some.f, step.room, ends_by v)

pub loop-next-preserved : goal.loop-next-preserved
loop-next-preserved c =
    let v = value c.args.s.now in
    let l = c.loop-next in
    let f = c.in-Some.f in
    let step = left_step v l.at l.invariant.1 l.invariant.2 c.in-Some.is in
    let w : ℕ = c.width_of-width.result in
    let w-is : w ≡ width f = c.width_of-width.ensures in
    let field = bits (width f) (v f) in
    let left = bits_of v step.rest in
    let put : unpack c.put.new.out ≡ sets (unpack l.out) l.at field =
    c.put.ensures
    ∙ ap₂ (λ x y. sets (unpack l.out) l.at (bits x y)) (ap (λ x. min x 32) w-is ∙ omega (arith, width_small f)) c.value_of.ensures in (
      omega (arith, ap length put, length-sets (unpack l.out) l.at field, length_unpack c.put.new.out, length_unpack l.out, l.invariant.0),
      step.rest,
      subst (λ n. Left v n (l.at + w) step.rest) (sym c.next_of-next.ensures) (subst (λ k. Left v (after (kind_of v) v f) (l.at + k) step.rest) (sym w-is) step.later),
      ap (λ x. sets x (l.at + w) left) put
          ∙ ap (λ k. sets (sets (unpack l.out) l.at field) (l.at + k) left) (w-is ∙ sym (length_bits (width f) (v f)))
          ∙ sym (sets_append field left (unpack l.out) l.at)
          ∙ ap (λ x. sets (unpack l.out) l.at x) (sym (bits_step step.is v))
          ∙ l.invariant.3,
    )

pub returns : goal.returns
returns c =
    let v = value c.args.s.now in
    let l = c.loop-next in
    let none = left_none v l.at l.invariant.1 l.invariant.2 c.in_default.is in
    sym (ap (λ x. sets (unpack l.out) l.at x) (bits_none none.0 v)) ∙ l.invariant.3
