-- The rest of the path is a shorter one.
use Rattle.std.proofs.Common.{length}
use Rattle.chain.proofs.path.+bound.Given as goal

abbrev pub decreases-bound : goal.decreases-bound
decreases-bound l = length l.path.now
