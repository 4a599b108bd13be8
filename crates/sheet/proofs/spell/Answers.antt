-- The mark decides.
use mathlib.Core.Path.{sym, ap, ◌∙◌}
use mathlib.Core.Bool.{cond}
use native.Mathlib.Omega.{arith}
use borrow.Author.Tests.{eq-eqb, ne_eqb}
use Rattle.bits.specs.Bits.{unpack, number}
use Rattle.sheet.specs.Fields.{old, new}
use Rattle.sheet.specs.Calls.{spelt}
use Rattle.sheet.specs.Order.{sheet_spelt}
use Rattle.sheet.proofs.spell.Goals as goal

pub returns-then-small-eq31 : goal.returns-then-small-eq31
unfolding spelt
returns-then-small-eq31 c =
    let bs = unpack c.args.bytes.now in
    c.spell_new.ensures ∙ sym (ap (λ b. sheet_spelt bs (cond b new old)) (eq-eqb (number bs 0 5) 31 (omega (arith, c.small.ensures))))

pub returns : goal.returns
unfolding spelt
returns c =
    let bs = unpack c.args.bytes.now in
    c.spell_old.ensures ∙ sym (ap (λ b. sheet_spelt bs (cond b new old)) (ne_eqb (number bs 0 5) 31 (λ q. omega (arith, c.small.ensures))))
