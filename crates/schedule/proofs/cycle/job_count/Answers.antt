-- Task by task H/T is added.
use Rattle.std.proofs.Common.{◌≡◌, ◌+◌, ◌/◌, length, ℕ, refl, ap, ◌∙◌, arith}
use Rattle.arith.specs.Ranges.{sum}
use Rattle.theory.specs.Model.Schedule.{period}
use Rattle.theory.specs.Model.Responses.{all_jobs, jobs as jobs_in}
use Rattle.schedule.proofs.Tasks.{jobs_next, jobs_most}
use Rattle.schedule.proofs.cycle.job_count.Goals as goal

pub loop-task-init : goal.loop-task-init
unfolding sum
loop-task-init c = refl

pub overflow_add-jobs : goal.overflow_add-jobs
overflow_add-jobs c =
    let l = c.loop-task in
    let ts = c.args.tasks.now in
    let own = ap (λ (h : ℕ). h / period ts l.task-index) c.requires.hyperperiod in
    omega (arith, l.invariant, own, jobs_next ts l.task-index, jobs_most ts (l.task-index + 1) (omega (arith, c.requires)), c.requires.fine.few)

pub loop-task-preserved : goal.loop-task-preserved
loop-task-preserved c =
    let l = c.loop-task in
    let ts = c.args.tasks.now in
    let own = ap (λ (h : ℕ). h / period ts l.task-index) c.requires.hyperperiod in
    omega (arith, l.invariant, own, jobs_next ts l.task-index)

pub returns : goal.returns
unfolding all_jobs
returns c =
    let l = c.loop-task in
    let ts = c.args.tasks.now in
    let all : l.task-index ≡ length ts = omega arith in
    l.invariant ∙ ap (λ n. sum n (jobs_in ts)) all
