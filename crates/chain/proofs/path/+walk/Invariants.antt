-- The rest of the path is a shorter one.
use Rattle.std.proofs.Common.{length}
use Rattle.chain.proofs.path.+walk.Given as goal

abbrev pub decreases-walk : goal.decreases-walk
decreases-walk l = length l.path.now
