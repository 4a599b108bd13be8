use Rattle.std.proofs.Common.{◌≡◌}
use Rattle.arith.specs.Ranges.{sum}
use Rattle.theory.specs.Model.Responses.{jobs}
use Rattle.schedule.specs.Conditions.{Filled}
use Rattle.schedule.proofs.cycle.Cycle.fill_rows.Given as goal

abbrev pub invariant-loop-i : goal.invariant-loop-i
invariant-loop-i l =
    let ts = l.self.tasks.now in
    (l.from ≡ sum l.i (jobs ts)) × Filled ts l.i l.from l.initial.table l.table l.found
