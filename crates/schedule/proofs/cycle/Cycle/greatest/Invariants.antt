use Rattle.std.proofs.Common.{◌≡◌, drop}
use Rattle.arith.specs.Ranges.{sum}
use Rattle.theory.specs.Model.Responses.{jobs, task_response}
use Rattle.sheet.specs.Calls.{places}
use Rattle.schedule.proofs.cycle.Cycle.greatest.Given as goal

abbrev pub invariant-loop-i : goal.invariant-loop-i
invariant-loop-i l =
    let ts = l.self.tasks.now in
    (l.left ≡ drop (sum l.i (jobs ts)) l.table) × (l.each ≡ places 16 0 l.i (task_response ts))
