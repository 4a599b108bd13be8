-- After p turns the claim is that of the first p tasks.
use Rattle.std.proofs.Common.{◌+◌, arith}
use Rattle.theory.specs.Model.Recurrence.{quotient}
use Rattle.recurrence.specs.Conditions.{claim_in}
use Rattle.recurrence.specs.ClaimLaws.{claim_more, claim_small}
use Rattle.recurrence.proofs.claim.Goals as goal

pub loop-task-init : goal.loop-task-init
unfolding claim_in
loop-task-init c = omega arith

pub overflow_add-ticks-in-loop-task : goal.overflow_add-ticks-in-loop-task
unfolding quotient
overflow_add-ticks-in-loop-task c =
    let a = c.args in
    let l = c.loop-task in
    let r = c.requires in
    omega (
      arith,
      claim_more a.outranking.now a.own a.candidate l.task-index c.loop-task-test.true l.invariant,
      claim_small a.outranking.now a.own a.candidate (l.task-index + 1) r.outranking_are.0 r.outranking_are.1 r.own_le_most_period.0 r.own_le_most_period.1,
    )

pub loop-task-preserved : goal.loop-task-preserved
unfolding quotient
loop-task-preserved c =
    let a = c.args in
    let l = c.loop-task in
    claim_more a.outranking.now a.own a.candidate l.task-index c.loop-task-test.true l.invariant
