use Rattle.std.proofs.Common.{◌≡◌, get_or}
use Rattle.arith.specs.Ranges.{maximum}
use Rattle.arith.proofs.greatest.Given as goal

abbrev pub invariant-loop-entry : goal.invariant-loop-entry
invariant-loop-entry l = l.most ≡ maximum l.entry-index (λ k. get_or l.row k 0)
