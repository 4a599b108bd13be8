-- The release is judged after H and J and before the table; then the rows are worked out and the chain is walked from that release's job.
use Rattle.std.proofs.Common.{◌≡◌, ◌*◌, ◌/◌, ◌%◌, ◌<◌, ◌≤◌, sym, ap, ◌∙◌, length, arith}
use Rattle.std.proofs.lemmas.Result.{err_from_is_err_and}
use Rattle.theory.specs.Model.Schedule.{period}
use Rattle.theory.specs.Model.Responses.{hyperperiod}
use Rattle.theory.proofs.Analysis.ChainLaws.{chain_head}
use Rattle.answers.specs.Answers.{fine, given, after, refusal, told}
use Rattle.sheet.specs.Sound.{Sound}
use Rattle.sheet.specs.SoundLaws.{judged_sound}
use Rattle.sheet.specs.Tasks.{tasks_of, lacks, chain_of, first_of, rest_of}
use Rattle.sheet.specs.TaskLaws.{chain_known}
use Rattle.schedule.specs.Calls.{sizes_of, responses_of}
use Rattle.schedule.specs.CallLaws.{sizes_given}
use Rattle.schedule.specs.Taken.{Taken, Holds}
use Rattle.chain.specs.Calls.{delay_at, delay_of}
use Rattle.chain.specs.CallLaws.{filled_ready, answers_no, answers_given, answers_number, named_untouched, sizes_untouched, lacking_no, lacking_fine, delay_known, delay_beyond, delay_between, delay_asked}
use Rattle.chain.specs.ReleaseLaws.{job_early, job_release}
use Rattle.chain.proofs.delay.Goals.{Else-release-period-gt0, In_ok-totals}
use Rattle.chain.proofs.delay.Goals as goal

-- The release is asked for: it is before H, and one of the first task's.
module _ (c : Else-release-period-gt0) where
  has : lacks c.args.s c.args.number ≡ fine
  has = lacking_fine c.args.s c.args.number c.lacking.ensures c.in_ok-lacking.was

  fits : sizes_of c.args.s ≡ given c.in_ok-size.size
  fits = sym c.sizes.ensures ∙ ap told c.in_ok-size.was

  early : c.args.release < hyperperiod (tasks_of c.args.s)
  early = omega (arith, c.if-size-release.false, (sizes_given c.args.s fits).hyperperiod_is)

  whole : c.args.release % period (tasks_of c.args.s) (first_of (chain_of c.args.s c.args.number)) ≤ 0
  whole = rw (← c.first_period-period.ensures.0) c.if-release-period-gt0.false

  asked : delay_of c.args.s c.args.number c.args.release (length c.args.table.now)
      ≡ after (responses_of c.args.s (length c.args.table.now)) (λ totals. given (delay_at (tasks_of c.args.s) (chain_of c.args.s c.args.number) c.args.release))
  asked = delay_asked c.args.s c.args.number has (length c.args.table.now) fits c.args.release early whole

pub returns-in_err-lacking : goal.returns-in_err-lacking
unfolding delay_of
returns-in_err-lacking c =
    let s = c.args.s in
    let old = c.args.table.now in
    let r = c.in_err-lacking.field-0.0 in
    let p = err_from_is_err_and c.from_residual.result c.from_residual.ensures.1 in
    let e = lacking_no s c.args.number c.lacking.ensures r c.in_err-lacking.was in
    rw (p.1, p.2) (answers_no s old _ r e (named_untouched s old r c.args.number e))

pub returns-in_err-size : goal.returns-in_err-size
returns-in_err-size c =
    let s = c.args.s in
    let old = c.args.table.now in
    let r = c.in_err-size.field-0.0 in
    let p = err_from_is_err_and c.from_residual-in_err-size.result c.from_residual-in_err-size.ensures.1 in
    let has = lacking_fine s c.args.number c.lacking.ensures c.in_ok-lacking.was in
    let e : sizes_of s ≡ refusal r = sym c.sizes.ensures ∙ ap told c.in_err-size.was in
    rw (p.1, p.2, delay_known s c.args.number has (length old) c.args.release) (answers_no s old _ r e (sizes_untouched s old r e))

pub returns-then-size-release : goal.returns-then-size-release
returns-then-size-release c =
    let s = c.args.s in
    let has = lacking_fine s c.args.number c.lacking.ensures c.in_ok-lacking.was in
    let fits = sym c.sizes.ensures ∙ ap told c.in_ok-size.was in
    answers_number 12 s c.args.table.now (omega arith)
    (delay_beyond s c.args.number has (length c.args.table.now) fits c.args.release (omega (arith, c.if-size-release.true, (sizes_given s fits).hyperperiod_is)))

pub invariant_of-judged : goal.invariant_of-judged
invariant_of-judged c = record { sound = judged_sound c.args.s (sizes_given c.args.s (sym c.sizes.ensures ∙ ap told c.in_ok-size.was)).judged_fine }

pub returns-then-release-period-gt0 : goal.returns-then-release-period-gt0
returns-then-release-period-gt0 c =
    let s = c.args.s in
    let has = lacking_fine s c.args.number c.lacking.ensures c.in_ok-lacking.was in
    let fits = sym c.sizes.ensures ∙ ap told c.in_ok-size.was in
    answers_number 12 s c.args.table.now (omega arith)
    (delay_between s c.args.number has (length c.args.table.now) fits c.args.release (omega (arith, c.if-size-release.false, (sizes_given s fits).hyperperiod_is))
    (rw (← c.first_period-period.ensures.0) c.if-release-period-gt0.true))

pub returns-in_err-totals : goal.returns-in_err-totals
returns-in_err-totals c =
    let s = c.args.s in
    let old = c.args.table.now in
    let p = err_from_is_err_and c.from_residual-in_err-totals.result c.from_residual-in_err-totals.ensures.1 in
    rw (p.1, p.2, asked (goal.at.returns-in_err-totals c).Else-release-period-gt0)
    (answers_no s old _ c.in_err-totals.field-0.0 (sym c.responses.ensures.0 ∙ ap told c.in_err-totals.was) c.responses.ensures.1)

-- The table is filled.
ready : (c : In_ok-totals) → (Sound c.args.s × Taken (tasks_of c.args.s)) × ((c.in_ok-totals.totals.hyperperiod ≡ hyperperiod (tasks_of c.args.s)) × Holds (tasks_of c.args.s) c.responses.new.table)
ready c = filled_ready c.args.s c.args.table.now (sym c.responses.ensures.0 ∙ ap told c.in_ok-totals.was) c.responses.ensures.1

pub new-filled-requires : goal.new-filled-requires
new-filled-requires c = let r = ready (goal.at.new-filled-requires c).In_ok-totals in record { taken = r.0.1; h_value = r.1.0; holds = r.1.1 }

pub delay-requires-clause-k_bound : goal.delay-requires-clause-k_bound
delay-requires-clause-k_bound c =
    let s = c.args.s in
    let at = (goal.at.delay-requires-clause-k_bound c).Else-release-period-gt0 in
    let r = ready (goal.at.delay-requires-clause-k_bound c).In_ok-totals in
    let first = chain_head (tasks_of s) (first_of (chain_of s c.args.number)) (rest_of (chain_of s c.args.number)) (chain_known _ r.0.0 c.args.number (has at)) in
    rw c.first_period-period.ensures.0 (job_early r.0.1.accepted.proper (first_of (chain_of s c.args.number)) first c.args.release (early at))

pub returns : goal.returns
returns c =
    let s = c.args.s in
    let at = (goal.at.returns c).Else-release-period-gt0 in
    let first = first_of (chain_of s c.args.number) in
    let job : c.args.release / c.first_period-period.result * period (tasks_of s) first ≡ c.args.release =
    ap (λ x. c.args.release / x * period (tasks_of s) first) c.first_period-period.ensures.0 ∙ job_release (tasks_of s) first c.args.release (whole at) in
    rw (asked at)
    (answers_given s c.args.table.now _ (sym c.responses.ensures.0 ∙ ap told c.in_ok-totals.was)
    (ap given (sym (c.delay.ensures ∙ ap (delay_at (tasks_of s) (chain_of s c.args.number)) job))) c.responses.ensures.1)
