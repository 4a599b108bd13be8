-- A multiple that is at least x and less than a period past it is the least one.
use Rattle.std.proofs.Common.{sym}
use Rattle.std.proofs.lemmas.Nat.Gcd.{dvd_of_mod-eq-zero}
use Rattle.arith.specs.WholeLaws.{up_zero, up_is}
use Rattle.arith.proofs.up.Goals as goal

pub returns-then-period-eq0 : goal.returns-then-period-eq0
returns-then-period-eq0 c = rw c.if-period-eq0.true (sym (up_zero _))

pub returns : goal.returns
returns c =
    let n = rw (c.from-step.ensures, c.from.ensures) at c.next_multiple_of.ensures in
    sym (up_is _ (dvd_of_mod-eq-zero _ n.multiple) n.lower_bound n.upper_bound)
