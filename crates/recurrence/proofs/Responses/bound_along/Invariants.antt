use Rattle.std.proofs.Common.{◌≡◌, ◌+◌, get_or}
use Rattle.sheet.specs.Tasks.{tasks_of}
use Rattle.recurrence.specs.Calls.{bound_by}
use Rattle.recurrence.specs.BoundLaws.{bound_from}
use Rattle.recurrence.proofs.Responses.bound_along.Given as goal

abbrev pub invariant-loop-entry : goal.invariant-loop-entry
invariant-loop-entry l = record {
  so_far : l.ticks + bound_from l.self.judged.sheet l.chain l.entry-index ≡ bound_by (tasks_of l.self.judged.sheet) l.chain;
  at : l.p ≡ get_or l.chain l.entry-index 0;
}
