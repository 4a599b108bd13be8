-- Each turn keeps the greatest common divisor of the two numbers, and with 0 it is the first.
use Rattle.std.proofs.Common.{sym, ap, ◌∙◌, arith}
use Rattle.arith.specs.Whole.{gcd}
use Rattle.arith.specs.WholeLaws.{gcd_zero, gcd_step}
use Rattle.arith.proofs.gcd.Goals as goal

pub loop-rest-preserved : goal.loop-rest-preserved
loop-rest-preserved c = sym (gcd_step _ _) ∙ c.loop-rest.invariant

pub returns : goal.returns
returns c = let l = c.loop-rest in sym (gcd_zero l.divisor) ∙ ap (gcd l.divisor) {x = 0} {y = l.rest} (omega arith) ∙ l.invariant
