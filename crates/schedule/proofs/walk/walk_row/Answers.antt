-- From release to release of the level one unit of its work is done in each tick; a job of the row is done where that ends, and late where it does not by the next release.
use Rattle.std.proofs.Common.{◌≡◌, ◌*◌, length, refl, ap, ◌∙◌, arith}
use Rattle.schedule.specs.Conditions.{coming}
use Rattle.schedule.proofs.Draining.{rests_most, Gap, start, finished, waited, blocked, rested_on, job_done}
use Rattle.schedule.proofs.Releases.{turned_gap, walk_start, walk_on}
use Rattle.schedule.proofs.walk.walk_row.Goals.{then-release-at, else-release-at, After-turn-now}
use Rattle.schedule.proofs.walk.walk_row.Goals as goal

-- After the releases of a tick: the gap up to the next ones.
gap : (c : After-turn-now) → Gap (coming c.args.own c.args.others.now) c.loop-at.at c.turn-now.result.soon c.args.h c.turn-now.result.clear
gap c =
    let w = c.loop-at.invariant.1 in
    let n = length c.args.row.now in
    turned_gap c.turn-now.ensures n w.same (omega arith) (ap (λ T. n * T) w.same_period ∙ c.requires.walk_fits.ends) c.loop-at.invariant.0.clear_is

-- The own period is that of the start.
own_period : (c : After-turn-now) → c.turn-now.new.own.period ≡ c.args.own.period
own_period c = c.turn-now.ensures.same_period ∙ c.loop-at.invariant.1.same_period

pub loop-at-init : goal.loop-at-init
loop-at-init c = (start c.requires.walk_fits c.args.row.now refl, walk_start c.requires.starts)

pub returns-then-release-own : goal.returns-then-release-own
returns-then-release-own c =
    let turn = (goal.at.returns-then-release-own c).After-turn-now in
    blocked c.requires.walk_fits c.loop-at.invariant.0 (gap turn) c.if-now-clear.true (omega (arith, own_period turn, c.if-release-own.true))

pub overflow_add-rests : goal.overflow_add-rests
overflow_add-rests c =
    let l = c.loop-at in
    omega (arith, l.invariant.0.rests_are, rests_most (coming c.args.own c.args.others.now) l.at, l.invariant.0.so_far, (gap (goal.at.overflow_add-rests c).After-turn-now).within, c.requires.walk_fits.short)

pub loop-at-preserved-else-release-own : goal.loop-at-preserved-else-release-own
loop-at-preserved-else-release-own c =
    let turn = (goal.at.loop-at-preserved-else-release-own c).After-turn-now in
    let l = c.loop-at in
    (waited c.requires.walk_fits l.invariant.0 (gap turn) c.if-now-clear.true (omega (arith, own_period turn, c.if-release-own.false)), walk_on l.invariant.1 c.turn-now.ensures)

pub loop-at-preserved : goal.loop-at-preserved
loop-at-preserved c =
    let turn = (goal.at.loop-at-preserved c).After-turn-now in
    let l = c.loop-at in (
      elim c.if-release-at.branch [
        | then-release-at w ↦ rw (w.row-is, w.release-is, w.k-is, own_period turn) (job_done c.requires.walk_fits l.invariant.0 (gap turn) c.if-now-clear.false w.if-release-at.true)
        | else-release-at w ↦ rw (w.row-is, w.release-is, w.k-is) (rested_on c.requires.walk_fits l.invariant.0 (gap turn) c.if-now-clear.false w.if-release-at.false)
      ],
      walk_on l.invariant.1 c.turn-now.ensures,
    )

pub returns : goal.returns
returns c = finished c.requires.walk_fits c.loop-at.invariant.0 (omega arith)
