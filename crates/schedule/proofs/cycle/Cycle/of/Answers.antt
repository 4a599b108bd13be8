-- Each judgement is made in its turn, on the numbers that the definition names.
use Rattle.std.proofs.Common.{◌≡◌, sym, ap, ap₂, refl, ◌∙◌, arith}
use Rattle.std.specs.Option.{ok_or}
use Rattle.std.specs.Result.{result_ok}
use Rattle.std.proofs.lemmas.Result.{err_from_is_err_and}
use Rattle.arith.specs.Limit.{within_some, within_none}
use Rattle.answers.specs.declared.Refusal.TheVariants.{Hyperperiod}
use Rattle.answers.specs.Answers.{given, told}
use Rattle.sheet.specs.SoundLaws.{judged_sound}
use Rattle.sheet.specs.Tasks.{tasks_of}
use Rattle.schedule.specs.CallLaws.{sizes_refused, sizes_over, sizes_many, sizes_fit}
use Rattle.schedule.specs.Calls.{most_ticks}
use Rattle.schedule.proofs.Tasks.{sound_fine}
use Rattle.schedule.proofs.cycle.Cycle.of.Goals as goal

pub returns-in_err-judge-clause-sizes : goal.returns-in_err-judge-clause-sizes
returns-in_err-judge-clause-sizes c =
    let p = err_from_is_err_and c.from_residual.result c.from_residual.ensures.1 in
    rw (p.1, p.2) (sym (sizes_refused _ _ (sym c.in_err-judge.ensures)))

pub shared_ref_as_front-tasks : goal.shared_ref_as_front-tasks
shared_ref_as_front-tasks c = (judged_sound _ (sym c.judge.ensures ∙ ap told c.in_ok-judge.was)).count_most

pub hyperperiod-requires : goal.hyperperiod-requires
unfolding tasks_of
hyperperiod-requires c = sound_fine _ (judged_sound _ (sym c.judge.ensures ∙ ap told c.in_ok-judge.was))

pub returns-in_err-hyperperiod-clause-sizes : goal.returns-in_err-hyperperiod-clause-sizes
unfolding tasks_of
returns-in_err-hyperperiod-clause-sizes c =
    let p = err_from_is_err_and c.from_residual-in_err-hyperperiod.result c.from_residual-in_err-hyperperiod.ensures.1 in
    let none = c.ok_or.ensures.ok_part ∙ ap result_ok c.in_err-hyperperiod.was in
    let is = sym c.in_err-hyperperiod.was ∙ c.ok_or.ensures.value ∙ ap (λ h. ok_or h Hyperperiod) none in
    let e : c.in_err-hyperperiod.field-0.0 ≡ Hyperperiod = cc in
    rw (p.1, p.2, e) (sym (sizes_over _ (sym c.judge.ensures ∙ ap told c.in_ok-judge.was) (within_none most_ticks _ (sym c.hyperperiod.ensures ∙ none))))

pub job_count-jobs-requires : goal.job_count-jobs-requires
unfolding tasks_of
job_count-jobs-requires c =
    let is = within_some most_ticks _ (sym c.hyperperiod.ensures ∙ c.ok_or.ensures.ok_part ∙ ap result_ok c.in_ok-hyperperiod.was) in
    record { fine = sound_fine _ (judged_sound _ (sym c.judge.ensures ∙ ap told c.in_ok-judge.was)); hyperperiod = is.0; within_limit = omega (arith, is) }

pub returns-then-jobs-gt-MOST_JOBS-clause-sizes : goal.returns-then-jobs-gt-MOST_JOBS-clause-sizes
unfolding tasks_of
returns-then-jobs-gt-MOST_JOBS-clause-sizes c =
    let is = within_some most_ticks _ (sym c.hyperperiod.ensures ∙ c.ok_or.ensures.ok_part ∙ ap result_ok c.in_ok-hyperperiod.was) in
    sym (sizes_many _ (sym c.judge.ensures ∙ ap told c.in_ok-judge.was) is.1 (omega (arith, c.if-jobs-gt-MOST_JOBS.true, c.job_count-jobs.ensures)))

pub invariant_of-result : goal.invariant_of-result
unfolding tasks_of
invariant_of-result c =
    let is = within_some most_ticks _ (sym c.hyperperiod.ensures ∙ c.ok_or.ensures.ok_part ∙ ap result_ok c.in_ok-hyperperiod.was) in
    record { fine = sound_fine _ (judged_sound _ (sym c.judge.ensures ∙ ap told c.in_ok-judge.was)); sized = record { hyperperiod_is = is.0; hyperperiod_most = omega (arith, is); jobs_are = c.job_count-jobs.ensures } }

pub returns-clause-sizes : goal.returns-clause-sizes
unfolding tasks_of
returns-clause-sizes c =
    let is = within_some most_ticks _ (sym c.hyperperiod.ensures ∙ c.ok_or.ensures.ok_part ∙ ap result_ok c.in_ok-hyperperiod.was) in
    ap₂ (λ x y. given (record { hyperperiod = x; jobs = y })) is.0 c.job_count-jobs.ensures
    ∙ sym (sizes_fit _ (sym c.judge.ensures ∙ ap told c.in_ok-judge.was) is.1 (omega (arith, c.if-jobs-gt-MOST_JOBS.false, c.job_count-jobs.ensures)))

pub returns-clause-tasks : goal.returns-clause-tasks
unfolding tasks_of
returns-clause-tasks c = refl
