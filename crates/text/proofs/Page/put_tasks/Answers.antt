-- After i turns the first i tasks' lines stand on the page.
use Rattle.std.proofs.Common.{get_or, ap}
use Rattle.theory.specs.Model.Schedule.{none}
use Rattle.text.specs.Shown.{joined, task_line}
use Rattle.text.specs.ShownLaws.{puts_none, puts_is, puts_on}
use Rattle.text.proofs.Page.put_tasks.Goals as goal

pub loop-i-init : goal.loop-i-init
unfolding joined
loop-i-init c =
    puts_none

pub loop-i-preserved : goal.loop-i-preserved
loop-i-preserved c =
    let l = c.loop-i in
    let tasks = c.args.s.tasks in
    puts_on (λ j. task_line j (get_or tasks j none)) l.i l.invariant (puts_is (ap (λ k. task_line l.i (get_or tasks k none)) c.from.ensures) c.put_task.ensures)
