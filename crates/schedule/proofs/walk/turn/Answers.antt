-- Place by place: a release that is now brings its budget and is moved on by its period, and the earliest of the next ones is kept.
use Rattle.std.proofs.Common.{◌≡◌, ◌+◌, ◌<◌, suc, length, refl, ap, ◌∙◌, subst, arith}
use Rattle.arith.specs.WholeLaws.{up_above}
use Rattle.schedule.specs.Conditions.{coming}
use Rattle.schedule.proofs.Releases.{Moved, moved_now, moved_later, TurnedTo, turn_start, due_now, placed_fits, turned_now, turned}
use Rattle.schedule.proofs.walk.turn.Goals.{Joined-own-at, then-own-at, else-own-at, then-place-soon, then-place-at, else-place-at, else-place-soon}
use Rattle.schedule.proofs.walk.turn.Goals as goal

-- The own place, after its release if that is now.
own_moved : (c : Joined-own-at) → let x = c.before.args in Moved x.at x.own.now x.clear c.if-own-at.own c.if-own-at.clear
own_moved c =
    let r = c.before.requires in
    elim c.if-own-at.branch [
      | then-own-at w ↦ moved_now r.own_due w.if-own-at.true (w.own-is ∙ w.release-clear.ensures.moves) (w.clear-is ∙ ap (λ b. c.before.args.clear + b) w.release-clear.ensures.brings)
      | else-own-at w ↦ moved_later r.own_due w.if-own-at.false w.own-is w.clear-is
    ]

pub overflow_add-clear : goal.overflow_add-clear
unfolding coming
overflow_add-clear c =
    let r = c.requires in
    omega (arith, r.fits, c.release-clear.ensures.brings, (moved_now r.own_due {before = c.args.clear} c.if-own-at.true refl refl).brought)

pub loop-place-init : goal.loop-place-init
loop-place-init c =
    let own = own_moved (goal.at.loop-place-init c).Joined-own-at in
    turn_start (omega (arith, own.after.next_is, up_above c.if-own-at.own.period (suc c.args.at) own.after.period_positive))

pub overflow_add-clear-then-place-at : goal.overflow_add-clear-then-place-at
unfolding coming
overflow_add-clear-then-place-at c =
    let l = c.loop-place in
    omega (arith, c.release-clear-then-place-at.ensures.brings, placed_fits c.requires.others_due l.invariant (omega arith) c.if-place-at.true, c.requires.fits, (own_moved (goal.at.overflow_add-clear-then-place-at c).Joined-own-at).brought)

pub loop-place-preserved : goal.loop-place-preserved
loop-place-preserved c =
    let l = c.loop-place in
    let all = c.requires.others_due in
    let known : l.place-index < length c.args.others.now = omega (arith, l.invariant.whole) in
    let due = due_now all l.invariant known in
    elim c.if-place-soon.branch [
      | then-place-soon w ↦ elim w.if-place-at.branch [
        | then-place-at v ↦
            turned_now all l.invariant known (moved_now due v.if-place-at.true (v.place-is ∙ v.release-clear-then-place-at.ensures.moves) (omega (arith, w.clear-is, v.clear-is, v.release-clear-then-place-at.ensures.brings)))
            (omega (arith, w.soon-is, w.min-soon.ensures)) (omega (arith, w.soon-is, w.min-soon.ensures)) (λ k. omega (arith, w.soon-is, w.min-soon.ensures, l.invariant.later)) w.others-is
        | else-place-at v ↦
            turned_now all l.invariant known (moved_later due v.if-place-at.false v.place-is (omega (arith, w.clear-is, v.clear-is)))
            (omega (arith, w.soon-is, w.min-soon.ensures)) (omega (arith, w.soon-is, w.min-soon.ensures)) (λ k. omega (arith, w.soon-is, w.min-soon.ensures, l.invariant.later)) w.others-is
      ]
      | else-place-soon w ↦
          turned_now all l.invariant known (moved_later due (λ z. omega (arith, w.if-place-soon.false, l.invariant.later)) refl w.clear-is)
          (omega (arith, w.soon-is)) (omega (arith, w.soon-is, w.if-place-soon.false)) (λ k. omega (arith, w.soon-is, l.invariant.later)) w.others-is
    ]

pub returns : goal.returns
returns c =
    let l = c.loop-place in
    let all : l.place-index ≡ length c.args.others.now = omega (arith, l.invariant.few, l.invariant.whole) in
    turned (own_moved (goal.at.returns c).Joined-own-at) (subst (TurnedTo c.args.others.now l.others c.args.at c.if-own-at.own.next c.if-own-at.clear l.clear l.soon) all l.invariant)
