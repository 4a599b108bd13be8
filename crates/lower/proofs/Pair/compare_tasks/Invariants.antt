use Rattle.std.proofs.Common.{◌≡◌, ℕ, ◌<◌, None}
use Rattle.lower.specs.Calls.{way_at}
use Rattle.lower.proofs.Pair.compare_tasks.Given as goal

abbrev pub invariant-loop-i : goal.invariant-loop-i
invariant-loop-i l = (j : ℕ) → j < l.i → way_at l.self.old.sheet l.self.new.sheet j ≡ None
