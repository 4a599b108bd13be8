-- The code is the definition itself; what 32 bits have no room for is over every limit.
use Rattle.std.proofs.Common.{sym, arith}
use Rattle.arith.specs.Whole.{lcm}
use Rattle.arith.specs.WholeLaws.{gcd_pos, lcm_zero}
use Rattle.arith.specs.Limit.{within, within_fits, within_over}
use Rattle.arith.proofs.lcm.Goals as goal

pub returns-then-a-eq0 : goal.returns-then-a-eq0
returns-then-a-eq0 c = rw (c.if-a-eq0.true, lcm_zero) (sym (within_fits _ 0 (omega arith)))

pub nonzero_div-a : goal.nonzero_div-a
nonzero_div-a c = rw c.gcd.ensures (gcd_pos _ _ (omega arith))

pub returns-in_err-multiple : goal.returns-in_err-multiple
unfolding lcm
returns-in_err-multiple c =
    let over = rw c.gcd.ensures at c.in_err-multiple.ensures in
    rw c.from_residual.ensures (sym (within_over _ _ (omega (arith, over))))

pub returns : goal.returns
unfolding lcm within
returns c =
    let is = rw c.gcd.ensures at c.in_ok-multiple.ensures.1 in
    rw is at c.then_some.ensures
