-- After k turns, putting the bits that are left gives what putting them all at the start would have given.
use Rattle.std.proofs.Common.{◌≡◌, sym, ap, ap₂, ◌∙◌, ℕ, suc, ◌+◌, ◌-◌, ◌/◌, ◌^◌, ◌<◌, Bool, List, set, arith}
use Rattle.std.proofs.lemmas.List.Edits.{sets}
use Rattle.bits.specs.Bits.{odd, bits, unpack}
use Rattle.bits.proofs.put.Goals as goal

-- one more bit put
step : (l : List Bool) (at k w v : ℕ) → k < w → sets (set l (at + k) (odd (v / 2 ^ (w - 1 - k)))) (at + (k + 1)) (bits (w - (k + 1)) v) ≡ sets l (at + k) (bits (w - k) v)
unfolding bits
step l at k w v h =
    ap₂ (λ b i. sets (set l (at + k) b) i (bits (w - (k + 1)) v)) {u = at + (k + 1)} {v = suc (at + k)}
    (ap (λ n. odd (v / 2 ^ n)) {x = w - 1 - k} {y = w - (k + 1)} (omega arith)) (omega arith)
    ∙ ap (λ n. sets l (at + k) (bits n v)) {x = suc (w - (k + 1))} {y = w - k} (omega arith)

pub loop-k-preserved : goal.loop-k-preserved
loop-k-preserved c =
    let a = c.args in
    let l = c.loop-k in
    let held = c.min-held.result in
    ap (λ x. sets x (a.at + (l.k + 1)) (bits (held - (l.k + 1)) a.value)) c.put_bit.ensures ∙ step (unpack l.out) a.at l.k held a.value (omega arith) ∙ l.invariant

pub returns : goal.returns
unfolding bits
returns c =
    let a = c.args in
    let l = c.loop-k in
    let held = c.min-held.result in
    sym (ap (λ n. sets (unpack l.out) (a.at + l.k) (bits n a.value)) {x = held - l.k} {y = 0} (omega arith))
    ∙ l.invariant
    ∙ ap (λ n. sets (unpack a.out.now) a.at (bits n a.value)) c.min-held.ensures
