use Rattle.recurrence.specs.CallLaws.{FoundTo}
use Rattle.recurrence.proofs.passing.Given as goal

abbrev pub invariant-loop-i : goal.invariant-loop-i
invariant-loop-i l = FoundTo l.s.sheet l.i l.late
