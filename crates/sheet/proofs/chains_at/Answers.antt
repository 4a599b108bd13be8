-- After c turns the first c places are taken, and the next chain begins where the last ended.
use mathlib.Core.Path.{refl, ap, ap₂, ◌∙◌}
use Prim.Native.Nat.{ℕ, min}
use native.Mathlib.Omega.{arith}
use lib.ListN.{set}
use Rattle.bits.specs.Bits.{unpack, list_of}
use Rattle.sheet.specs.declared.Chain.{Chain}
use Rattle.sheet.specs.Calls.{places, unused, chain_from}
use Rattle.sheet.specs.PlaceLaws.{places_set, places_most, chain_unused}
use Rattle.sheet.specs.Order.{chain_spelt}
use Rattle.sheet.specs.StepLaws.{chain_from_step}
use Rattle.sheet.proofs.chains_at.Goals as goal

pub loop-c-init : goal.loop-c-init
unfolding list_of chain_from
loop-c-init c =
    let e = c.default-chains.ensures in
    record { few = omega arith; from = refl; filled = ap (λ x. list_of 8 (λ j. x)) (chain_unused c.default-chains.result e.0 e.1.0 e.1.1) }

pub loop-c-preserved : goal.loop-c-preserved
loop-c-preserved c =
    let a = c.args in
    let l = c.loop-c in
    let i = l.invariant in
    let bs = unpack a.bytes.now in
    let f : ℕ → Chain = λ j. chain_spelt bs a.width (chain_from bs a.width a.at j) in
    let is = c.chain_at-chain.ensures ∙ ap (chain_spelt bs a.width) i.from in
    let m = c.from.ensures ∙ c.min.ensures ∙ ap (λ t. min t.length 16) is in
    record {
      few = omega (arith, m, i.few);
      from = omega (arith, m, i.from, chain_from_step bs a.width a.at l.c);
      filled = ap₂ (λ x y. set x l.c y) i.filled is ∙ places_set 8 unused f l.c (omega (arith, c.min-c-end.ensures));
    }

pub returns : goal.returns
returns c =
    let a = c.args in
    let bs = unpack a.bytes.now in
    let f : ℕ → Chain = λ j. chain_spelt bs a.width (chain_from bs a.width a.at j) in
    c.loop-c.invariant.filled ∙ ap (λ k. places 8 unused k f) {x = c.loop-c.c} {y = min a.k 8} (omega (arith, c.min-c-end.ensures)) ∙ places_most 8 unused f a.k
