use mathlib.Core.Path.{◌≡◌}
use mathlib.Core.List.{List}
use Prim.Native.Nat.{◌-◌}
use lib.ListN.{length}
use lib.Seq.{sets}
use Rattle.bits.specs.Bits.{unpack}
use Rattle.sheet.specs.declared.Field.{Field}
use Rattle.sheet.specs.Fields.{value}
use Rattle.sheet.specs.Calls.{bits_of, packed}
use Rattle.sheet.specs.StepLaws.{Left}
use Rattle.sheet.proofs.put_fields.Given as goal

abbrev pub invariant-loop-next : goal.invariant-loop-next
invariant-loop-next l = (length l.out ≡ length l.initial.out) × (fs : List Field) × Left (value l.s) l.next l.at fs × (sets (unpack l.out) l.at (bits_of (value l.s) fs) ≡ sets (unpack l.initial.out) 0 (packed l.s))

abbrev pub decreases-loop-next : goal.decreases-loop-next
decreases-loop-next l = 1424 - l.at
