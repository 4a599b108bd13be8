-- A byte is the number of its bits, and past the last byte there is none.
use Rattle.std.proofs.Common.{sym, ap, ◌∙◌, arith, le_refl}
use Rattle.std.specs.Option.{unwrap_or}
use Rattle.bits.specs.Bytes.{byte_read}
use Rattle.bits.proofs.byte.Goals as goal

pub returns : goal.returns
returns c =
    c.from.ensures ∙ c.unwrap_or.ensures ∙ ap (λ o. unwrap_or o 0) c.copied.ensures ∙ c.get.ensures.lookup.4 (le_refl _) 0
    ∙ sym (byte_read c.args.bytes.now c.args.i (λ i. omega (arith, c.type_inv.bytes i)))
