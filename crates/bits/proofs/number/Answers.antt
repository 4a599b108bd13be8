-- The bits lie within the forty that begin with their first byte.
use Rattle.std.proofs.Common.{ap, ap₂, ◌∙◌, ℕ, ◌+◌, ◌-◌, ◌*◌, ◌/◌, ◌%◌, ◌^◌, arith, mod-lt, pow_pos, pow_mono}
use Rattle.std.proofs.lemmas.Nat.{one_shl}
use Rattle.bits.specs.Bits.{unpack, number}
use Rattle.bits.specs.Laws.{number_within}
use Rattle.bits.proofs.number.Goals as goal

pub overflow_cast-result-3 : goal.overflow_cast-result-3
overflow_cast-result-3 c =
    let held : ℕ = c.min-held.result in
    let rest : ℕ = 40 - c.args.at % 8 - held in
    rw (one_shl held 64 (omega arith)) (omega (arith, mod-lt (c.around.result / 2 ^ rest) (pow_pos held), pow_mono {i = held} {j = 32} (omega arith)))

pub returns : goal.returns
returns c =
    let at = c.args.at in
    let bs = unpack c.args.bytes.now in
    let held : ℕ = c.min-held.result in
    let rest : ℕ = 40 - at % 8 - held in
    ap₂ (λ x w. x / 2 ^ rest % w) (c.around.ensures ∙ ap (number bs (at / 8 * 8)) {x = 40} {y = at % 8 + held + rest} (omega arith)) (one_shl held 64 (omega arith))
    ∙ number_within bs (at / 8 * 8) (at % 8) held rest
    ∙ ap₂ (number bs) {x = at / 8 * 8 + at % 8} {y = at} (omega arith) c.min-held.ensures
