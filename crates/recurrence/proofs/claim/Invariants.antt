use Rattle.std.proofs.Common.{◌≡◌, take}
use Rattle.recurrence.specs.Conditions.{claim_in}
use Rattle.recurrence.proofs.claim.Given as goal

abbrev pub invariant-loop-task : goal.invariant-loop-task
invariant-loop-task l = l.ticks ≡ claim_in (take l.task-index l.outranking) l.own l.candidate
