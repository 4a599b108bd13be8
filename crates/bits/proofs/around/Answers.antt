-- After k turns the value is the number of the first k bytes, which is below 2 ^ (8 k).
use Rattle.std.proofs.Common.{refl, sym, ap, ap₂, ◌∙◌, ℕ, ◌+◌, ◌*◌, ◌/◌, arith, pow_mono}
use Rattle.bits.specs.Bits.{unpack, number}
use Rattle.bits.specs.Laws.{number_lt, number_append}
use Rattle.bits.proofs.around.Goals as goal

pub loop-k-init : goal.loop-k-init
unfolding number
loop-k-init c = refl

pub overflow_mul-value : goal.overflow_mul-value
overflow_mul-value c =
    let l = c.loop-k in
    omega (arith, number_lt (unpack c.args.bytes.now) (c.args.at / 8 * 8) (l.k * 8), pow_mono {i = l.k * 8} {j = 32} (omega arith))

pub overflow_add-value : goal.overflow_add-value
overflow_add-value c =
    let l = c.loop-k in
    omega (arith, number_lt (unpack c.args.bytes.now) (c.args.at / 8 * 8) (l.k * 8), pow_mono {i = l.k * 8} {j = 32} (omega arith), c.byte.ensures, number_lt)

pub loop-k-preserved : goal.loop-k-preserved
loop-k-preserved c =
    let l = c.loop-k in
    let bs = unpack c.args.bytes.now in
    let start : ℕ = c.args.at / 8 * 8 in
    ap₂ (λ x y. x * 256 + y) l.invariant (c.byte.ensures ∙ ap (λ p. number bs p 8) {x = (c.args.at / 8 + l.k) * 8} {y = start + l.k * 8} (omega arith))
    ∙ sym (ap (number bs start) {x = (l.k + 1) * 8} {y = l.k * 8 + 8} (omega arith) ∙ number_append bs start (l.k * 8) 8)
