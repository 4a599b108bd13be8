-- Each turn takes one task more into account, where its next job is released.
use Rattle.std.proofs.Common.{arith, ◌∙◌}
use Rattle.night.specs.Conditions.{ended_in}
use Rattle.night.proofs.Laws.{best_none, best_taken, best_passed, best_turn}
use Rattle.night.proofs.state.State.turn.Goals.{then-release-at, else-release-at}
use Rattle.night.proofs.state.State.turn.Goals as goal

pub loop-i-init : goal.loop-i-init
loop-i-init c = record { is_greatest = best_none c.args.self.now.tasks.now (ended_in c.args.self.now.jobs) c.args.at; best_known = tt }

pub loop-i-preserved : goal.loop-i-preserved
loop-i-preserved c =
    let l = c.loop-i in
    let ended = ended_in c.args.self.now.jobs in
    elim c.if-release-at.branch [
      | then-release-at w ↦ rw w.best-is (record {
        is_greatest = best_taken c.args.self.now.tasks.now ended c.args.at l.i l.best l.invariant.is_greatest _ (omega (arith, c.release.ensures, w.if-release-at.true)) w.greater-best.ensures.0;
        best_known = w.greater-best.ensures.1;
      })
      | else-release-at w ↦ rw w.best-is (record {
        is_greatest = best_passed c.args.self.now.tasks.now ended c.args.at l.i l.best l.invariant.is_greatest (omega (arith, c.release.ensures, w.if-release-at.false));
        best_known = l.invariant.best_known;
      })
    ]

pub returns : goal.returns
returns c =
    let l = c.loop-i in
    (l.invariant.is_greatest ∙ best_turn c.args.self.now.tasks.now (ended_in c.args.self.now.jobs) c.args.at l.i (omega arith) (omega arith), l.invariant.best_known)
