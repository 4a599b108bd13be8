-- The table is filled for the sheet's own tasks, H and J.
use Rattle.std.proofs.Common.{sym, subst}
use Rattle.std.proofs.lemmas.Result.{err_from_is_err_and}
use Rattle.schedule.specs.Conditions.{FilledAs}
use Rattle.schedule.proofs.Endings.{answers_refused, answers_filled}
use Rattle.schedule.proofs.responses.Goals as goal

pub returns-in_err-cycle : goal.returns-in_err-cycle
returns-in_err-cycle c =
    let p = err_from_is_err_and c.from_residual.result c.from_residual.ensures.1 in
    rw (p.1, p.2) (answers_refused c.args.s c.args.table.now _ (sym c.in_err-cycle.ensures.sizes))

pub returns : goal.returns
returns c =
    answers_filled c.args.s c.args.table.now c.fill.result (sym c.in_ok-cycle.ensures.sizes)
    (subst (λ ts. FilledAs ts c.in_ok-cycle.cycle.size c.args.table.now c.fill.result c.fill.new.table) c.in_ok-cycle.ensures.tasks c.fill.ensures)
