use Rattle.std.proofs.Common.{◌≡◌, ◌-◌, ◌≤◌, length}
use Rattle.std.proofs.Math.ListN.{drop}
use Rattle.theory.specs.Model.Responses.{hyperperiod}
use Rattle.schedule.specs.Calls.{most_ticks}
use Rattle.schedule.proofs.cycle.hyperperiod.Given as goal

abbrev pub invariant-loop-task : goal.invariant-loop-task
invariant-loop-task l =
    (length l.yielded ≤ length l.tasks) × (l.multiple ≤ most_ticks) × (l.multiple ≡ hyperperiod (drop (length l.tasks - length l.yielded) l.tasks))
