-- The table is filled once, and the chain's figures are read from its rows; a refusal on the way is handed up.
use Rattle.std.proofs.Common.{◌≡◌, sym, ap, ◌∙◌, length}
use Rattle.std.proofs.lemmas.Result.{err_from_is_err_and}
use Rattle.answers.specs.Answers.{given, refusal, told}
use Rattle.theory.specs.Model.Responses.{hyperperiod}
use Rattle.sheet.specs.Sound.{Sound}
use Rattle.sheet.specs.Tasks.{tasks_of}
use Rattle.schedule.specs.Taken.{Taken, Holds}
use Rattle.chain.specs.Calls.{with_tasks, named, figures_of, task_figures_of}
use Rattle.chain.specs.CallLaws.{answers_no, answers_given, named_untouched, lacking_no, lacking_fine, task_figures_known, tasks_ready}
use Rattle.chain.proofs.figures.Goals.{In_ok-totals}
use Rattle.chain.proofs.figures.Goals as goal

pub returns-in_err-lacking : goal.returns-in_err-lacking
unfolding figures_of task_figures_of
returns-in_err-lacking c =
    let s = c.args.s in
    let old = c.args.table.now in
    let r = c.in_err-lacking.field-0.0 in
    let p = err_from_is_err_and c.from_residual.result c.from_residual.ensures.1 in
    let e : named s c.args.number ≡ refusal r = lacking_no s c.args.number c.lacking.ensures r c.in_err-lacking.was in
    let lack = answers_no s old _ r e (named_untouched s old r c.args.number e) in
    rw (p.1, p.2) (answers_no s old (λ x. given (with_tasks s x)) r (sym lack.0) lack.1)

pub returns-in_err-totals : goal.returns-in_err-totals
returns-in_err-totals c =
    let s = c.args.s in
    let old = c.args.table.now in
    let p = err_from_is_err_and c.from_residual-in_err-totals.result c.from_residual-in_err-totals.ensures.1 in
    let has = lacking_fine s c.args.number c.lacking.ensures c.in_ok-lacking.was in
    rw (p.1, p.2, task_figures_known s c.args.number has (length old))
    (answers_no s old _ c.in_err-totals.field-0.0 (sym c.task_responses.ensures.0 ∙ ap told c.in_err-totals.was) c.task_responses.ensures.1)

-- The table is filled.
ready : (c : In_ok-totals) → (Sound c.args.s × Taken (tasks_of c.args.s)) × ((c.in_ok-totals.field-0.totals.hyperperiod ≡ hyperperiod (tasks_of c.args.s)) × Holds (tasks_of c.args.s) c.task_responses.new.table)
ready c = tasks_ready c.args.s c.args.table.now (sym c.task_responses.ensures.0 ∙ ap told c.in_ok-totals.was) c.task_responses.ensures.1

pub invariant_of-judged : goal.invariant_of-judged
invariant_of-judged c = record { sound = (ready (goal.at.invariant_of-judged c).In_ok-totals).0.0 }

pub new-filled-requires : goal.new-filled-requires
new-filled-requires c = let r = ready (goal.at.new-filled-requires c).In_ok-totals in record { taken = r.0.1; h_value = r.1.0; holds = r.1.1 }

pub returns : goal.returns
returns c =
    let s = c.args.s in
    let old = c.args.table.now in
    let has = lacking_fine s c.args.number c.lacking.ensures c.in_ok-lacking.was in
    rw (task_figures_known s c.args.number has (length old))
    (answers_given s old _ (sym c.task_responses.ensures.0 ∙ ap told c.in_ok-totals.was)
    (ap (λ x. given (record { summary = x; greatest = c.in_ok-totals.field-0.greatest })) (sym c.summary-summary.ensures)) c.task_responses.ensures.1)
