use Rattle.std.proofs.Common.{◌≡◌}
use Rattle.recurrence.specs.Calls.{bounds_to}
use Rattle.recurrence.proofs.Responses.each_bounds.Given as goal

abbrev pub invariant-loop-c : goal.invariant-loop-c
invariant-loop-c l = l.chains ≡ bounds_to l.self.judged.sheet l.c
