-- The greatest of the entries so far grows entry by entry.
use Rattle.std.proofs.Common.{add-one}
use Rattle.arith.specs.Ranges.{maximum}
use Rattle.arith.proofs.greatest.Goals as goal

pub loop-entry-preserved : goal.loop-entry-preserved
unfolding maximum
loop-entry-preserved c = rw add-one (cc (c.max-most.ensures, c.loop-entry.invariant))

pub loop-entry-init : goal.loop-entry-init
unfolding maximum
loop-entry-init c = cc
