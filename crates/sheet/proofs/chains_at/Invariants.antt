use mathlib.Core.Path.{◌≡◌}
use Prim.Native.Nat.{◌+◌, ◌*◌, ◌≤◌}
use Rattle.bits.specs.Bits.{unpack}
use Rattle.sheet.specs.Calls.{places, unused, chain_from}
use Rattle.sheet.specs.Order.{chain_spelt}
use Rattle.sheet.proofs.chains_at.Given as goal

abbrev pub invariant-loop-c : goal.invariant-loop-c
invariant-loop-c l = record {
  few : l.begin ≤ l.at + 91 * l.c;
  from : l.begin ≡ chain_from (unpack l.bytes) l.width l.at l.c;
  filled : l.chains ≡ places 8 unused l.c (λ j. chain_spelt (unpack l.bytes) l.width (chain_from (unpack l.bytes) l.width l.at j));
}
