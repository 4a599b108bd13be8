use Rattle.std.proofs.Common.{◌≡◌}
use Rattle.theory.specs.Model.Recurrence.{quick_response}
use Rattle.sheet.specs.Calls.{places}
use Rattle.sheet.specs.Tasks.{tasks_of}
use Rattle.recurrence.proofs.each_response.Given as goal

abbrev pub invariant-loop-i : goal.invariant-loop-i
invariant-loop-i l = l.each ≡ places 16 0 l.i (quick_response (tasks_of l.s.sheet))
