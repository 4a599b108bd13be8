use Rattle.schedule.proofs.Gathered.{GatheredTo}
use Rattle.schedule.proofs.cycle.Cycle.level.Given as goal

abbrev pub invariant-loop-task : goal.invariant-loop-task
invariant-loop-task l = GatheredTo l.self.tasks.now l.own l.level l.task-index
