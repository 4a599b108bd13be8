-- The rows that are left in the table hold each task's responses, so the greatest entry of a row is R of its task.
use Rattle.std.proofs.Common.{sym, ap, ◌∙◌, subst, length}
use Rattle.std.proofs.lemmas.Result.{err_from_is_err_and}
use Rattle.theory.specs.Model.Responses.{task_response}
use Rattle.answers.specs.Answers.{given, told}
use Rattle.sheet.specs.Calls.{places}
use Rattle.sheet.specs.SoundLaws.{judged_sound}
use Rattle.sheet.specs.Tasks.{tasks_of}
use Rattle.sheet.specs.TaskLaws.{tasks_length}
use Rattle.schedule.specs.Calls.{responses_of}
use Rattle.schedule.specs.CallLaws.{task_responses_refused, task_responses_full, task_table}
use Rattle.schedule.specs.Conditions.{FilledAs}
use Rattle.schedule.specs.Promises.{AnswersAs}
use Rattle.schedule.specs.Results.{responses_given}
use Rattle.schedule.specs.RowLaws.{filled_holds}
use Rattle.schedule.specs.Taken.{Holds}
use Rattle.schedule.proofs.Endings.{answers_refused, answers_filled}
use Rattle.schedule.proofs.task_responses.Goals.{After-fill}
use Rattle.schedule.proofs.task_responses.Goals as goal

-- The table is filled as `responses` fills it.
filled : (c : After-fill) → let x = c.before.args in AnswersAs (responses_of x.s (length x.table.now)) x.s x.table.now (told c.fill.result) c.fill.new.table
filled c =
    let x = c.before.args in
    answers_filled x.s x.table.now c.fill.result (sym c.in_ok-cycle.ensures.sizes)
    (subst (λ ts. FilledAs ts c.in_ok-cycle.cycle.size x.table.now c.fill.result c.fill.new.table) c.in_ok-cycle.ensures.tasks c.fill.ensures)

pub returns-in_err-cycle : goal.returns-in_err-cycle
returns-in_err-cycle c =
    let p = err_from_is_err_and c.from_residual.result c.from_residual.ensures.1 in
    let s = c.args.s in
    let old = c.args.table.now in
    let a = answers_refused s old c.in_err-cycle.field-0.0 (sym c.in_err-cycle.ensures.sizes) in
    (rw (p.1, p.2) (sym (task_responses_refused s (length old) _ (sym a.0))), a.1 ∙ task_table s (length old) old)

pub returns-in_err-totals : goal.returns-in_err-totals
returns-in_err-totals c =
    let p = err_from_is_err_and c.from_residual-in_err-totals.result c.from_residual-in_err-totals.ensures.1 in
    let s = c.args.s in
    let old = c.args.table.now in
    let a = filled (goal.at.returns-in_err-totals c).After-fill in
    (rw (p.1, p.2) (sym (task_responses_refused s (length old) _ (sym a.0 ∙ ap told c.in_err-totals.was))), a.1 ∙ task_table s (length old) old)

pub greatest-greatest-requires : goal.greatest-greatest-requires
greatest-greatest-requires c =
    let s = c.args.s in
    let old = c.args.table.now in
    let a = filled (goal.at.greatest-greatest-requires c).After-fill in
    subst (λ ts. Holds ts c.fill.new.table) (sym c.in_ok-cycle.ensures.tasks) (filled_holds s old (sym a.0 ∙ ap told c.in_ok-totals.was) a.1)

pub returns : goal.returns
returns c =
    let s = c.args.s in
    let old = c.args.table.now in
    let a = filled (goal.at.returns c).After-fill in
    let e = sym a.0 ∙ ap told c.in_ok-totals.was in
    let count = tasks_length s (judged_sound s (responses_given s (length old) e).judged_fine) in (
      ap (λ g. given (record { totals = c.in_ok-totals.totals; greatest = g }))
          (c.greatest-greatest.ensures ∙ ap (λ ts. places 16 0 (length ts) (task_response ts)) c.in_ok-cycle.ensures.tasks ∙ ap (λ n. places 16 0 n (task_response (tasks_of s))) count)
          ∙ sym (task_responses_full s (length old) e),
      a.1 ∙ task_table s (length old) old,
    )
