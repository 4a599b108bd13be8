-- After i turns none of the first i indices stands in the way.
use Rattle.std.proofs.Common.{◌≡◌, sym, ap, ◌∙◌, below_more, Some, is_some}
use Rattle.lower.specs.Calls.{way_at, standing}
use Rattle.lower.specs.CallLaws.{least_is}
use Rattle.lower.proofs.Pair.compare_tasks.Goals as goal

pub returns-in-Some : goal.returns-in-Some
returns-in-Some c =
    let l = c.loop-i in
    let old = c.args.self.now.old.sheet in
    let new = c.args.self.now.new.sheet in
    let found : way_at old new l.i ≡ Some c.in-Some.found = sym c.in-Some.ensures in
    ap (standing l.i) (sym found)
    ∙ sym (ap (λ i. standing i (way_at old new i)) (least_is 16 (λ j. is_some (way_at old new j)) l.i c.loop-i-test.true (ap is_some found) (λ j m. ap is_some (l.invariant j m))))

pub loop-i-preserved : goal.loop-i-preserved
loop-i-preserved c = below_more _ _ c.loop-i.invariant (sym c.way_at.ensures ∙ c.in_default.is)
