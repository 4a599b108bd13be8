-- The fields are judged, then the values against their periods; after that the bounds of each chain are added up from the same values.
use Rattle.std.proofs.Common.{◌≡◌, ap, ◌∙◌, subst}
use Rattle.std.proofs.lemmas.Result.{err_from_is_err_and}
use Rattle.answers.specs.Answers.{given, refusal}
use Rattle.sheet.specs.Calls.{judge_of}
use Rattle.sheet.specs.Tasks.{chain_count}
use Rattle.sheet.specs.declared.sound.Judged.{Judged}
use Rattle.recurrence.specs.Calls.{bounds_to, quick_suite_of}
use Rattle.recurrence.specs.CallLaws.{judged_refused, sheet_judged, suite_refused, suite_judged, suite_alone, suite_given}
use Rattle.recurrence.proofs.suite.Goals as goal

pub returns-in_err-judged : goal.returns-in_err-judged
returns-in_err-judged c =
    let r = c.in_err-judged.field-0.0 in
    let p = err_from_is_err_and c.from_residual.result c.from_residual.ensures.1 in
    rw (p.1, p.2) (suite_alone c.args.s r (suite_refused c.args.s r (judged_refused (judge_of c.args.s) c.args.s r c.in_err-judged.ensures)))

pub returns-in_err-responses : goal.returns-in_err-responses
returns-in_err-responses c =
    let x = c.in_ok-judged.judged in
    let r = c.in_err-responses.field-0.0 in
    let j = sheet_judged c.args.s x c.in_ok-judged.ensures in
    let p = err_from_is_err_and c.from_residual-in_err-responses.result c.from_residual-in_err-responses.ensures.1 in
    rw (p.1, p.2) (subst (λ s. refusal r ≡ quick_suite_of s) j.1 (suite_alone x.sheet r (suite_judged x.sheet j.0 ∙ c.in_err-responses.ensures.err)))

pub returns : goal.returns
returns c =
    let x = c.in_ok-judged.judged in
    let j = sheet_judged c.args.s x c.in_ok-judged.ensures in
    let timely = c.in_ok-responses.ensures.ok in
    let chains = c.each_bounds-chains.ensures ∙ ap (λ (t : Judged). bounds_to t.sheet (chain_count t.sheet)) timely.same in
    subst (λ s. given (record { responses = c.in_ok-responses.responses.each; chains = c.each_bounds-chains.result }) ≡ quick_suite_of s) j.1
    (suite_given x.sheet (suite_judged x.sheet j.0 ∙ timely.none_late) timely.each_is chains)
