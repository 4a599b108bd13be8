-- All tasks are looked at.
use Rattle.std.proofs.Common.{◌∙◌, ap, length, refl, arith}
use Rattle.sheet.specs.TaskLaws.{tasks_length}
use Rattle.recurrence.specs.ClaimLaws.{higher_is}
use Rattle.recurrence.proofs.gather.Goals as goal

pub loop-task-init : goal.loop-task-init
loop-task-init c = record {
  are = refl;
  room = omega arith;
  few = omega arith;
  items = omega (arith, ap length c.tasks-task-items.ensures, tasks_length _ c.args.s.sound, c.args.s.sound.count_most);
}

pub returns : goal.returns
returns c = record {
  are = c.loop-task.invariant.are ∙ higher_is c.args.s.sheet c.args.rank c.tasks-task-items.ensures c.loop-task.task-index c.loop-task-test.false;
  room = c.loop-task.invariant.room;
  few = omega (arith, c.loop-task.invariant.items);
}
