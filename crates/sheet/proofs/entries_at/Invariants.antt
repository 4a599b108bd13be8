use mathlib.Core.Path.{◌≡◌}
use Prim.Native.Nat.{◌+◌, ◌*◌}
use Rattle.bits.specs.Bits.{unpack, number}
use Rattle.sheet.specs.Calls.{places}
use Rattle.sheet.proofs.entries_at.Given as goal

abbrev pub invariant-loop-i : goal.invariant-loop-i
invariant-loop-i l = l.entries ≡ places 16 0 l.i (λ j. number (unpack l.bytes) (l.at + 4 * j) 4)
