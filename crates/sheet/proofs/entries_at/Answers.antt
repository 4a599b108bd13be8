-- After i turns the first i places are taken.
use mathlib.Core.Path.{refl, ap, ap₂, ◌∙◌}
use Prim.Native.Nat.{ℕ, ◌+◌, ◌*◌, min}
use native.Mathlib.Omega.{arith}
use lib.ListN.{set}
use Rattle.bits.specs.Bits.{unpack, number, list_of}
use Rattle.sheet.specs.Calls.{places}
use Rattle.sheet.specs.PlaceLaws.{places_set, places_most}
use Rattle.sheet.proofs.entries_at.Goals as goal

pub loop-i-init : goal.loop-i-init
unfolding list_of
loop-i-init c = refl

pub loop-i-preserved : goal.loop-i-preserved
loop-i-preserved c =
    let l = c.loop-i in
    let f : ℕ → ℕ = λ j. number (unpack c.args.bytes.now) (c.args.at + 4 * j) 4 in
    ap₂ (λ x y. set x l.i y) l.invariant (c.small.ensures ∙ ap f c.from.ensures) ∙ places_set 16 0 f l.i (omega (arith, c.min-i-end.ensures))

pub returns : goal.returns
returns c =
    let a = c.args in
    let f : ℕ → ℕ = λ j. number (unpack a.bytes.now) (a.at + 4 * j) 4 in
    c.loop-i.invariant ∙ ap (λ k. places 16 0 k f) {x = c.loop-i.i} {y = min a.m 16} (omega (arith, c.min-i-end.ensures)) ∙ places_most 16 0 f a.m
