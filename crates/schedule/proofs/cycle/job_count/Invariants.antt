use Rattle.std.proofs.Common.{◌≡◌}
use Rattle.arith.specs.Ranges.{sum}
use Rattle.theory.specs.Model.Responses.{jobs as jobs_in}
use Rattle.schedule.proofs.cycle.job_count.Given as goal

abbrev pub invariant-loop-task : goal.invariant-loop-task
invariant-loop-task l = l.jobs ≡ sum l.task-index (jobs_in l.tasks)
