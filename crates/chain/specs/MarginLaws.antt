-- Laws of a limit less a figure: a whole number of ticks, or one below zero.
use Rattle.std.specs.Prelude.{◌≡◌, cond, ℕ, zero, suc, ◌-◌, ◌≤◌, ◌<◌, T, ℤ, pos, negsuc, ◌≤ℤ◌}
use Rattle.std.proofs.Common.{sym, ap, subst, arith, lt-ltb, le-ltb}
use Rattle.std.proofs.Math.Decide.{dec_le}
use Rattle.std.specs.Int.Signed.{mag, le_z}
use Rattle.chain.specs.Calls.{less}

pub less_kept : (limit figure : ℕ) → figure ≤ limit → less limit figure ≡ pos (limit - figure)
less_kept limit zero h = ap pos (omega arith)
less_kept limit (suc n) h = ap (λ b. cond b (negsuc (suc n - suc limit)) (pos (limit - suc n))) (le-ltb limit (suc n) h)

pub less_over : (limit figure : ℕ) → limit < figure → less limit figure ≡ negsuc (figure - suc limit)
less_over limit zero h = absurd (omega arith)
less_over limit (suc n) h = ap (λ b. cond b (negsuc (suc n - suc limit)) (pos (limit - suc n))) (lt-ltb limit (suc n) h)

-- It is no further from zero than the greater of the two.
pub less_mag : (limit figure bound : ℕ) → limit < bound → figure < bound → mag (less limit figure) < bound
less_mag limit figure bound l f = go (dec_le figure limit)
  where
    go : Dec (figure ≤ limit) → mag (less limit figure) < bound
    go (yes h) = subst (λ (z : ℤ). mag z < bound) (sym (less_kept limit figure h)) (omega arith)
    go (no h) = subst (λ (z : ℤ). mag z < bound) (sym (less_over limit figure (omega arith))) (omega arith)

-- A difference that is not below zero tells that the figure is within the limit.
pub kept_within : (limit figure : ℕ) → pos 0 ≤ℤ less limit figure → figure ≤ limit
kept_within limit figure kept = go (dec_le figure limit)
  where
    go : Dec (figure ≤ limit) → figure ≤ limit
    go (yes h) = h
    go (no h) = absurd (subst (λ (z : ℤ). T (le_z (pos 0) z)) (less_over limit figure (omega arith)) kept.le)
