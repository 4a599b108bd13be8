-- The lent tasks are the sheet's, and the lent entries are chain one.
use Rattle.std.proofs.Common.{sym, ap, ◌∙◌, subst, refl, length}
use Rattle.theory.specs.declared.Task.{Task}
use Rattle.sheet.specs.TaskLaws.{tasks_length}
use Rattle.night.specs.Conditions.{Sane}
use Rattle.night.proofs.Findings.{log_sane, lent_few, lent_first, lent_replays}
use Rattle.night.proofs.replayed.Goals as goal

pub run_log-found-requires-clause-few : goal.run_log-found-requires-clause-few
run_log-found-requires-clause-few c = lent_few _ c.args.s.sound _ _ c.tasks-tasks.ensures c.tasks-chain.ensures

pub run_log-found-requires-clause-first_known : goal.run_log-found-requires-clause-first_known
run_log-found-requires-clause-first_known c = lent_first _ c.args.s.sound _ _ c.tasks-tasks.ensures c.tasks-chain.ensures

pub run_log-found-requires-clause-sane_log : goal.run_log-found-requires-clause-sane_log
run_log-found-requires-clause-sane_log c =
    let s = c.args.s in
    subst (λ k. Sane c.args.log.now k c.count-n.result) (sym (ap (length {A = Task}) c.tasks-tasks.ensures ∙ tasks_length _ s.sound))
    (log_sane c.args.log.now s.sheet.count c.count-n.result c.requires.log_fine c.count-n.ensures)

pub returns : goal.returns
returns c =
    let s = c.args.s in (
      c.count-n.ensures,
      refl,
      lent_replays _ s.sound _ _ c.tasks-tasks.ensures c.tasks-chain.ensures c.requires.accepted_sheet c.args.log.now c.count-n.result c.run_log-found.result c.count-n.ensures
          c.run_log-found.ensures,
    )
