-- The candidates climb and pass no fixed point, so the first that repeats is the least, and once the period is passed there is none up to it.
use Rattle.std.proofs.Common.{sym, ◌∙◌, subst, arith}
use Rattle.theory.specs.Model.Schedule.{budget, rank}
use Rattle.theory.proofs.Analysis.RecurrenceLaws.{Climbs, climb_start, climb_step, climb_fixed, climb_over}
use Rattle.sheet.specs.Tasks.{tasks_of}
use Rattle.sheet.specs.TaskLaws.{sound_proper, period_at, budget_at}
use Rattle.recurrence.specs.ClaimLaws.{higher_allowed, claim_at}
use Rattle.recurrence.proofs.climb.Goals as goal

pub loop-candidate-init : goal.loop-candidate-init
loop-candidate-init c =
    let ts = tasks_of c.args.s.sheet in
    subst (Climbs ts (budget ts) c.args.i) (budget_at _ c.args.s.sound c.args.i c.requires.0) (climb_start ts (budget ts) c.args.i)

pub claim-next-requires-clause-outranking_are : goal.claim-next-requires-clause-outranking_are
claim-next-requires-clause-outranking_are c = higher_allowed c.args.s.sheet c.args.s.sound (rank c.args.s.sheet.tasks c.args.i) c.requires.1

-- The next candidate is the claim at this one.
pub loop-candidate-smaller : goal.loop-candidate-smaller
loop-candidate-smaller c =
    omega (
      arith,
      c.if-next-candidate.false,
      c.claim-next.ensures,
      claim_at c.args.s.sheet c.args.s.sound c.args.i c.requires.0 c.loop-candidate.candidate c.requires.1,
      c.loop-candidate.invariant.rises,
    )

pub loop-candidate-preserved : goal.loop-candidate-preserved
loop-candidate-preserved c =
    let ts = tasks_of c.args.s.sheet in
    subst (Climbs ts (budget ts) c.args.i)
    (sym (c.claim-next.ensures ∙ claim_at c.args.s.sheet c.args.s.sound c.args.i c.requires.0 c.loop-candidate.candidate c.requires.1))
    (climb_step c.loop-candidate.invariant (sound_proper _ c.args.s.sound))

pub returns-then-task-candidate : goal.returns-then-task-candidate
returns-then-task-candidate c =
    let T = period_at _ c.args.s.sound c.args.i c.requires.0 in
    omega (arith, T, climb_over c.loop-candidate.invariant (omega (arith, T, c.if-task-candidate.true)))

pub returns-then-next-candidate : goal.returns-then-next-candidate
returns-then-next-candidate c =
    let T = period_at _ c.args.s.sound c.args.i c.requires.0 in
    climb_fixed c.loop-candidate.invariant (omega (arith, T, c.if-task-candidate.false))
    (sym (c.claim-next.ensures ∙ claim_at c.args.s.sheet c.args.s.sound c.args.i c.requires.0 c.loop-candidate.candidate c.requires.1) ∙ c.if-next-candidate.true)
