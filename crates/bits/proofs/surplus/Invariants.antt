use Rattle.std.proofs.Common.{◌≡◌, ◌-◌}
use Rattle.bits.specs.Bits.{unpack, first_one}
use Rattle.bits.proofs.surplus.Given as goal

abbrev pub invariant-loop-bit : goal.invariant-loop-bit
invariant-loop-bit l = first_one (unpack l.bytes) l.bit (l.end - l.bit) ≡ first_one (unpack l.bytes) l.at (l.end - l.at)
