use Rattle.std.proofs.Common.{◌≡◌, ◌*◌, ◌/◌}
use Rattle.bits.specs.Bits.{unpack, number}
use Rattle.bits.proofs.around.Given as goal

abbrev pub invariant-loop-k : goal.invariant-loop-k
invariant-loop-k l = l.value ≡ number (unpack l.bytes) (l.at / 8 * 8) (l.k * 8)
