-- After i turns the greatest-ranked of the first i that passes its period is found.
use Rattle.std.proofs.Common.{◌≡◌, refl, sym, ap, ◌∙◌, subst, arith}
use Rattle.theory.specs.Model.Greatest.{greatest}
use Rattle.recurrence.specs.CallLaws.{FoundTo, takes, found_known, found_more, found_lower, found_same, found_late}
use Rattle.recurrence.proofs.passing.Goals.{Joined-task-responses, in-Some, in-None, then-task-responses+then-outranks, else-task-responses, else-task-responses-via-then-task-responses+else-outranks, else-task-responses-via-else-task-responses}
use Rattle.recurrence.proofs.passing.Goals as goal

pub loop-i-init : goal.loop-i-init
unfolding greatest
loop-i-init c = refl

pub bounds-s-j : goal.bounds-s-j
bounds-s-j c =
    let l = c.loop-i in
    omega (arith, found_known c.args.s.sheet l.i c.in-Some.j (subst (FoundTo c.args.s.sheet l.i) c.in-Some.is l.invariant), c.args.s.sound.count_most)

-- Whether the task takes the place of the one so far, which is at hand still.
taken : (c : Joined-task-responses) → (c.match-late.outranks ≡ takes c.args.s.sheet c.loop-i.i c.loop-i.late) × (c.match-late.late ≡ c.loop-i.late)
taken c =
    elim c.match-late.branch [
      | in-Some w ↦ (w.outranks-is ∙ ap (takes c.args.s.sheet c.loop-i.i) (sym w.in-Some.is), w.late-is ∙ sym w.in-Some.is)
      | in-None w ↦ (w.outranks-is ∙ ap (takes c.args.s.sheet c.loop-i.i) (sym w.in-None.is), w.late-is)
    ]

pub loop-i-preserved : goal.loop-i-preserved
loop-i-preserved c =
    let l = c.loop-i in
    let s = c.args.s.sheet in
    let ok = c.args.s.sound in
    let are = c.requires in
    let t = taken c in
    elim c.if-task-responses.branch [
      | then-task-responses+then-outranks w ↦ rw w.late-is (found_more s ok are l.i c.loop-i-test.true l.late l.invariant w.if-task-responses.true (sym t.0 ∙ w.if-outranks.true))
      | else-task-responses w ↦ rw (w.late-is, t.1) (elim w.else-task-responses.branch [
        | else-task-responses-via-then-task-responses+else-outranks w' ↦ found_lower s ok are l.i c.loop-i-test.true l.late l.invariant w'.if-task-responses.true (sym t.0 ∙ w'.if-outranks.false)
        | else-task-responses-via-else-task-responses w' ↦ found_same s ok are l.i c.loop-i-test.true l.late l.invariant w'.if-task-responses.false
      ])
    ]

pub returns-in-Some-late : goal.returns-in-Some-late
returns-in-Some-late c = sym (found_late c.args.s.sheet c.args.s.sound c.loop-i.late (omega arith) c.loop-i.invariant c.in-Some-late.is)

pub returns-in-None-late : goal.returns-in-None-late
returns-in-None-late c = sym (found_late c.args.s.sheet c.args.s.sound c.loop-i.late (omega arith) c.loop-i.invariant c.in-None-late.is)
