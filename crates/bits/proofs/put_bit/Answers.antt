-- The bit lies in byte at / 8, and a byte that differs in one bit changes that bit of the whole.
use Rattle.std.proofs.Common.{sym, ap, ◌∙◌, arith, ◌+◌, ◌-◌, ◌*◌, ◌/◌, ◌%◌, get_or, set}
use lib.Seq.{set_out}
use Rattle.bits.specs.Bits.{bits, unpack}
use Rattle.bits.specs.Bytes.{length_unpack, unpack_set}
use Rattle.bits.proofs.put_bit.Goals as goal

pub returns-then-i-out : goal.returns-then-i-out
returns-then-i-out c =
    let a = c.args in
    let s = a.out.now in
    unpack_set s (a.at / 8) (a.at % 8) c.with_bit.result a.b (omega arith) (omega arith)
    (c.with_bit.ensures ∙ ap (λ k. set (bits 8 (get_or s (a.at / 8) 0)) k a.b) {x = 7 - (7 - a.at % 8)} {y = a.at % 8} (omega arith))
    ∙ ap (λ p. set (unpack s) p a.b) {x = a.at / 8 * 8 + a.at % 8} {y = a.at} (omega arith)

pub returns-else-i-out : goal.returns-else-i-out
returns-else-i-out c =
    let a = c.args in
    sym (set_out (unpack a.out.now) a.at a.b (omega (arith, length_unpack a.out.now)))
