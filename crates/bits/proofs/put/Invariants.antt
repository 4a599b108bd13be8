use Rattle.std.proofs.Common.{◌≡◌, ◌+◌, ◌-◌}
use Rattle.std.proofs.lemmas.List.Edits.{sets}
use Rattle.bits.specs.Bits.{bits, unpack}
use Rattle.bits.proofs.put.Given as goal

abbrev pub invariant-loop-k : goal.invariant-loop-k
invariant-loop-k l = sets (unpack l.out) (l.at + l.k) (bits (l.held - l.k) l.value) ≡ sets (unpack l.initial.out) l.at (bits l.held l.value)
