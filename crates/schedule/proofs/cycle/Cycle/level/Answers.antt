-- Each task that outranks the rank adds its budget to the place of its period, or takes the next place, so what the places bring is what these tasks bring.
use Rattle.std.proofs.Common.{arith}
use Rattle.schedule.proofs.Gathered.{gather_start, gather_more, gather_out}
use Rattle.schedule.proofs.cycle.Cycle.level.Goals.{then-own-task, else-own-task}
use Rattle.schedule.proofs.cycle.Cycle.level.Goals as goal

pub loop-task-init : goal.loop-task-init
loop-task-init c = rw c.default-level.ensures gather_start

pub add-requires-clause-room : goal.add-requires-clause-room
add-requires-clause-room c =
    let l = c.loop-task in
    omega (arith, l.invariant.within, c.args.self.now.fine.few)

pub add-requires-clause-fits : goal.add-requires-clause-fits
add-requires-clause-fits c = λ p k.
    let l = c.loop-task in
    omega (
      arith,
      l.invariant.budgets_most p k,
      c.args.self.now.fine.allowed l.task-index (omega arith),
      c.args.self.now.fine.few,
    )

pub loop-task-preserved : goal.loop-task-preserved
loop-task-preserved c =
    let l = c.loop-task in
    elim c.if-own-task.branch [
      | then-own-task w ↦ rw w.level-is (gather_more l.invariant (c.args.self.now.fine.allowed l.task-index (omega arith)) w.if-own-task.true w.add.ensures)
      | else-own-task w ↦ rw w.level-is (gather_out l.invariant w.if-own-task.false)
    ]
