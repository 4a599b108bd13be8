use mathlib.Core.Path.{◌≡◌}
use Rattle.arith.specs.Whole.{gcd}
use Rattle.arith.proofs.gcd.Given as goal

abbrev pub invariant-loop-rest : goal.invariant-loop-rest
invariant-loop-rest l = gcd l.divisor l.rest ≡ gcd l.a l.b

abbrev pub decreases-loop-rest : goal.decreases-loop-rest
decreases-loop-rest l = l.rest
