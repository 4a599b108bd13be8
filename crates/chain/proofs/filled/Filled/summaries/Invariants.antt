-- Every turn fills one place more.
use Rattle.std.proofs.Common.{◌≡◌}
use Rattle.chain.specs.Calls.{summaries_to}
use Rattle.chain.proofs.filled.Filled.summaries.Given as goal

abbrev pub invariant-loop-c : goal.invariant-loop-c
invariant-loop-c l = l.chains ≡ summaries_to l.self.judged.sheet l.totals l.c
