use mathlib.Core.Path.{◌≡◌}
use mathlib.Core.List.{List}
use Prim.Native.Nat.{◌-◌, ◌*◌}
use Rattle.sheet.specs.declared.Field.{Field}
use Rattle.sheet.specs.Fields.{fields, value, in_order}
use Rattle.sheet.specs.Calls.{judged_in}
use Rattle.sheet.specs.StepLaws.{Left}
use Rattle.sheet.proofs.judge_fields.Given as goal

abbrev pub invariant-loop-next : goal.invariant-loop-next
invariant-loop-next l = (fs : List Field) × Left (value l.s) l.next l.at fs
    × (in_order (judged_in (l.len * 8) (value l.s)) 0 (fields (value l.s)) ≡ in_order (judged_in (l.len * 8) (value l.s)) l.at fs)

abbrev pub decreases-loop-next : goal.decreases-loop-next
decreases-loop-next l = 1424 - l.at
