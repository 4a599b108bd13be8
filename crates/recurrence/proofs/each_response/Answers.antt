-- After i turns the first i places hold the values of their tasks.
use Rattle.std.proofs.Common.{refl, ap₂, ◌∙◌, slice_set, arith}
use Rattle.bits.specs.Bits.{list_of}
use Rattle.theory.specs.Model.Recurrence.{quick_response}
use Rattle.sheet.specs.PlaceLaws.{places_set}
use Rattle.sheet.specs.Tasks.{tasks_of}
use Rattle.recurrence.proofs.each_response.Goals as goal

pub loop-i-init : goal.loop-i-init
unfolding list_of
loop-i-init c = refl

pub loop-i-preserved : goal.loop-i-preserved
loop-i-preserved c =
    let l = c.loop-i in
    ap₂ (λ xs v. slice_set xs l.i v) l.invariant c.response.ensures
    ∙ places_set 16 0 (quick_response (tasks_of c.args.s.sheet)) l.i (omega (arith, c.args.s.sound.count_most))
