-- The rows stand in the table unless a task is late, and then zeros do.
use Rattle.std.proofs.Common.{length, subst, arith}
use Rattle.theory.specs.Model.Responses.{all_jobs}
use Rattle.schedule.specs.Conditions.{Filled}
use Rattle.schedule.proofs.Endings.{filled_full}
use Rattle.schedule.proofs.cycle.Cycle.fill.Goals as goal

pub returns-in-Ok : goal.returns-in-Ok
returns-in-Ok c =
    let self = c.args.self.now in
    let ts = self.tasks.now in
    filled_full self.fine self.sized c.args.table.now (omega arith) (subst (Filled ts (length ts) (all_jobs ts) c.args.table.now c.fill_rows.new.table) c.in-Ok.is c.fill_rows.ensures)
