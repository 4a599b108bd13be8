-- From the last task backwards the multiple is that of the tasks gone over; once it is over the limit, so is that of all.
use Rattle.std.proofs.Common.{◌≡◌, ◌-◌, ◌+◌, length, Some, sym, ap, ◌∙◌, arith}
use native.Mathlib.Nat.{sub-zero}
use Rattle.std.proofs.Math.ListN.{drop}
use Rattle.std.proofs.lemmas.List.{length-reverse, length_push}
use Rattle.std.proofs.lemmas.Iterator.Adapters.{YieldsList-from_rev_slice}
use Rattle.std.proofs.lemmas.Iterator.Consumers.{YieldsList-turn, YieldsList-end}
use Rattle.arith.specs.Limit.{within_some, within_none, within_fits, within_over}
use Rattle.theory.specs.Model.Responses.{hyperperiod}
use Rattle.schedule.specs.Calls.{most_ticks}
use Rattle.schedule.proofs.Tasks.{multiple_start, multiple_turn, multiple_most}
use Rattle.schedule.proofs.cycle.hyperperiod.Goals as goal

pub loop-task-init : goal.loop-task-init
loop-task-init c = (omega arith, omega arith, rw sub-zero (multiple_start c.requires))

pub returns-in_err-multiple : goal.returns-in_err-multiple
returns-in_err-multiple c =
    let l = c.loop-task in
    let ts = c.args.tasks.now in
    let turn = YieldsList-turn (YieldsList-from_rev_slice ts cc) l.yielded _ l.yielded_by _ _ c.in-Some.task c.in-Some.is c.next.ensures.steps in
    let over = within_none most_ticks _ (sym c.lcm.ensures ∙ c.in_err-multiple.was) in
    rw c.from_residual.ensures (sym (within_over most_ticks _ (omega (arith, over, multiple_turn c.requires (length l.yielded) turn l.invariant.2, multiple_most c.requires (length ts - (length l.yielded + 1))))))

pub loop-task-preserved : goal.loop-task-preserved
loop-task-preserved c =
    let l = c.loop-task in
    let ts = c.args.tasks.now in
    let turn = YieldsList-turn (YieldsList-from_rev_slice ts cc) l.yielded _ l.yielded_by _ _ c.in-Some.task c.in-Some.is c.next.ensures.steps in
    let is = within_some most_ticks _ (sym c.lcm.ensures ∙ c.in_ok-multiple.was) in
    rw length_push (omega (arith, turn.0, length-reverse ts), omega (arith, is), is.0 ∙ multiple_turn c.requires (length l.yielded) turn l.invariant.2)

pub returns : goal.returns
returns c =
    let l = c.loop-task in
    let ts = c.args.tasks.now in
    let all = YieldsList-end (YieldsList-from_rev_slice ts cc) l.yielded _ l.yielded_by _ _ c.in-None.is c.next.ensures.steps in
    let is : l.multiple ≡ hyperperiod ts = l.invariant.2 ∙ ap (λ n. hyperperiod (drop n ts)) {x = length ts - length l.yielded} {y = 0} (omega (arith, all.1, length-reverse ts)) in
    ap Some is ∙ sym (within_fits most_ticks _ (omega (arith, is)))
