-- Each of the three ways out is a case of the definition.
use Rattle.std.proofs.Common.{refl, arith}
use Rattle.telltale.specs.Calls.{elapsed}
use Rattle.telltale.specs.CallLaws.{stamp_none, stamp_long, stamp_taken}
use Rattle.telltale.proofs.stamp.Goals as goal

pub returns-then-not-kept : goal.returns-then-not-kept
returns-then-not-kept c = rw (stamp_none c.args.kept.now c.args.counter c.if-not-kept.true) (refl, refl)

pub returns-then-ticks-ge-TOO_LONG : goal.returns-then-ticks-ge-TOO_LONG
unfolding elapsed
returns-then-ticks-ge-TOO_LONG c = rw (stamp_long c.args.kept.now c.args.counter c.if-not-kept.false (omega arith)) (refl, refl)

pub returns : goal.returns
unfolding elapsed
returns c = rw (stamp_taken c.args.kept.now c.args.counter c.if-not-kept.false (omega arith), c.max.ensures, c.saturating_add.ensures) (refl, refl)
