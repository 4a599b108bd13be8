-- The table is filled once, and the figures of every chain are read from its rows.
use Rattle.std.proofs.Common.{◌≡◌, sym, ap, ◌∙◌, length}
use Rattle.std.proofs.lemmas.Result.{err_from_is_err_and}
use Rattle.theory.specs.Model.Responses.{hyperperiod}
use Rattle.answers.specs.Answers.{given, told}
use Rattle.sheet.specs.Sound.{Sound}
use Rattle.sheet.specs.declared.sound.Judged.{Judged}
use Rattle.sheet.specs.Tasks.{tasks_of, chain_count}
use Rattle.schedule.specs.Taken.{Taken, Holds}
use Rattle.chain.specs.Calls.{summaries_to}
use Rattle.chain.specs.CallLaws.{answers_no, answers_given, suite_known, tasks_ready}
use Rattle.chain.proofs.suite.Goals.{In_ok-totals}
use Rattle.chain.proofs.suite.Goals as goal

pub returns-in_err-totals : goal.returns-in_err-totals
returns-in_err-totals c =
    let s = c.args.s in
    let old = c.args.table.now in
    let p = err_from_is_err_and c.from_residual.result c.from_residual.ensures.1 in
    rw (p.1, p.2, suite_known s (length old))
    (answers_no s old _ c.in_err-totals.field-0.0 (sym c.task_responses.ensures.0 ∙ ap told c.in_err-totals.was) c.task_responses.ensures.1)

-- The table is filled.
ready : (c : In_ok-totals) → (Sound c.args.s × Taken (tasks_of c.args.s)) × ((c.in_ok-totals.field-0.totals.hyperperiod ≡ hyperperiod (tasks_of c.args.s)) × Holds (tasks_of c.args.s) c.task_responses.new.table)
ready c = tasks_ready c.args.s c.args.table.now (sym c.task_responses.ensures.0 ∙ ap told c.in_ok-totals.was) c.task_responses.ensures.1

pub invariant_of-judged : goal.invariant_of-judged
invariant_of-judged c = record { sound = (ready (goal.at.invariant_of-judged c).In_ok-totals).0.0 }

pub new-filled-requires : goal.new-filled-requires
new-filled-requires c = let r = ready (goal.at.new-filled-requires c).In_ok-totals in record { taken = r.0.1; h_value = r.1.0; holds = r.1.1 }

pub returns : goal.returns
returns c =
    let s = c.args.s in
    let old = c.args.table.now in
    rw (suite_known s (length old))
    (answers_given s old _ (sym c.task_responses.ensures.0 ∙ ap told c.in_ok-totals.was)
    (ap (λ x. given (record { totals = c.in_ok-totals.field-0.totals; greatest = c.in_ok-totals.field-0.greatest; chains = x })) (sym (c.summaries-chains.ensures ∙ ap (λ (j : Judged). summaries_to j.sheet c.in_ok-totals.field-0.totals (chain_count j.sheet)) c.new-filled.ensures))) c.task_responses.ensures.1)
