-- The first bit that is 1 from a bit on, with those that are 0 passed, is the first of all.
use Rattle.std.proofs.Common.{◌≡◌, sym, ap, ◌∙◌, arith, ℕ, ◌+◌, ◌-◌, ◌*◌, ◌/◌, ◌%◌, ◌≤◌, ◌<◌, suc, true, false, List, length, ltb, get_or, Some}
use Rattle.std.specs.Bool.{then_some}
use Rattle.bits.specs.Bits.{unpack, bytes_for, first_one, wrong_bit, surplus_of}
use Rattle.bits.specs.Laws.{number_lt}
use Rattle.bits.specs.SurplusLaws.{bit_one, bit_zero, first_one_here, first_one_past, first_one_end, surplus_one, surplus_byte}
use Rattle.bits.proofs.surplus.Goals as goal

-- the end of a bit's byte
byte_end : (at end : ℕ) → at ≤ end → end < at + 8 → end % 8 ≡ 0 → end ≡ bytes_for at * 8
byte_end at end l m n = omega arith

module _ (bytes : List ℕ) (at end bit : ℕ) (ends : end ≡ bytes_for at * 8) (is : first_one (unpack bytes) bit (end - bit) ≡ first_one (unpack bytes) at (end - at)) where
  wrong : first_one (unpack bytes) bit (end - bit) ≡ wrong_bit (unpack bytes) at
  wrong = is ∙ ap (λ e. first_one (unpack bytes) at (e - at)) ends

  found : bit < end → get_or (unpack bytes) bit false ≡ true → Some bit ≡ surplus_of bytes at
  found h one =
      let here = sym (first_one_here (unpack bytes) bit (end - bit) (omega arith) one) ∙ wrong in
      ap Some here ∙ sym (surplus_one bytes at (omega arith))

  passed : bit < end → get_or (unpack bytes) bit false ≡ false → first_one (unpack bytes) (bit + 1) (end - (bit + 1)) ≡ first_one (unpack bytes) at (end - at)
  passed h zero =
      sym (ap (first_one (unpack bytes) bit) {x = end - bit} {y = suc (end - (bit + 1))} (omega arith)
      ∙ first_one_past (unpack bytes) bit (end - (bit + 1)) zero
      ∙ ap (λ k. first_one (unpack bytes) k (end - (bit + 1))) {x = suc bit} {y = bit + 1} (omega arith))
      ∙ is

  all_passed : bit ≡ end → then_some (ltb (end / 8) (length bytes)) end ≡ surplus_of bytes at
  all_passed h =
      let here = sym (first_one_end (unpack bytes) bit (end - bit) (omega arith)) ∙ wrong in
      ap (λ e. then_some (ltb (end / 8) (length bytes)) e) ends
      ∙ ap (λ n. then_some (ltb n (length bytes)) (bytes_for at * 8)) {x = end / 8} {y = bytes_for at} (omega arith)
      ∙ sym (surplus_byte bytes at (omega arith))

pub returns-then-number-eq1 : goal.returns-then-number-eq1
returns-then-number-eq1 c =
    let e = rw c.from.ensures at c.next_multiple_of-end.ensures in
    let bs = unpack c.args.bytes.now in
    found c.args.bytes.now c.args.at c.next_multiple_of-end.result c.loop-bit.bit (byte_end _ _ e.lower_bound e.upper_bound e.multiple) c.loop-bit.invariant
    c.loop-bit-test.true (bit_one bs c.loop-bit.bit (omega (arith, c.number.ensures)))

pub loop-bit-preserved : goal.loop-bit-preserved
loop-bit-preserved c =
    let e = rw c.from.ensures at c.next_multiple_of-end.ensures in
    let bs = unpack c.args.bytes.now in
    passed c.args.bytes.now c.args.at c.next_multiple_of-end.result c.loop-bit.bit (byte_end _ _ e.lower_bound e.upper_bound e.multiple) c.loop-bit.invariant
    c.loop-bit-test.true (bit_zero bs c.loop-bit.bit (omega (arith, c.number.ensures, number_lt bs c.loop-bit.bit 1)))

pub returns : goal.returns
returns c =
    let e = rw c.from.ensures at c.next_multiple_of-end.ensures in
    c.then_some.ensures
    ∙ all_passed c.args.bytes.now c.args.at c.next_multiple_of-end.result c.loop-bit.bit (byte_end _ _ e.lower_bound e.upper_bound e.multiple) c.loop-bit.invariant (omega (arith, e.lower_bound))
