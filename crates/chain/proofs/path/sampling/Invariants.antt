-- Of the jobs so far the longest delay is kept with its first job.
use Rattle.chain.specs.Paths.{ahead}
use Rattle.chain.specs.FollowLaws.{Followed}
use Rattle.chain.proofs.path.sampling.Given as goal

abbrev pub invariant-loop-k : goal.invariant-loop-k
invariant-loop-k l = Followed l.path (ahead l.path) l.k l.ticks l.at l.followed
