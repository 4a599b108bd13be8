-- The largest quick bound: how much a pair of neighbours and a chain can add up to where no period and no response is over `most` ticks.
use mathlib.Core.List.{List, [], ◌∷◌}
use Rattle.std.specs.Prelude.{Bool, true, false, cond, ℕ, ◌+◌, ◌-◌, ◌*◌, ◌≤◌, ◌<◌, length}
use Rattle.std.proofs.Math.Nat.{le_of_dvd}
use Rattle.std.proofs.Common.{arith}
use Rattle.arith.specs.Whole.{gcd, up}
use Rattle.arith.specs.WholeLaws.{gcd_divides_right, gcd_pos, up_near}
use Rattle.theory.specs.Model.Chain.{ChainOf, Waits, walk_bound}
use Rattle.theory.specs.Analysis.Largest.{pair_bound, Along, SmallTask}

pub along_first : (P : ℕ → Type 0) (p : ℕ) (rest : List ℕ) → Along P p rest → P p
along_first P p [] x = x
along_first P p (c ∷ rest) x = x.0

pub along_chain : (P : ℕ → Type 0) (n : ℕ) → ((i : ℕ) → i < n → P i) → (p : ℕ) (rest : List ℕ) → ChainOf n p rest → Along P p rest
along_chain P n each p [] l = each p l
along_chain P n each p (c ∷ rest) l = (each p l.0, along_chain P n each c rest l.2)

pub common_most : (T : ℕ → ℕ) (p c : ℕ) → 0 < T p → 0 < T c → (0 < gcd (T p) (T c)) × (gcd (T p) (T c) ≤ T c)
common_most T p c sp sc = (gcd_pos (T p) (T c) sp, le_of_dvd sc (gcd_divides_right (T p) (T c)))

module _ (most : ℕ) (T : ℕ → ℕ) (waits : Waits) (R : ℕ → ℕ) where
  pub pair_most : (p c : ℕ) → SmallTask most T R p → SmallTask most T R c → pair_bound T waits R p c ≤ most + most
  pair_most p c sp sc = go (waits p c)
    where
      common : (0 < gcd (T p) (T c)) × (gcd (T p) (T c) ≤ T c)
      common = common_most T p c sp.period_positive sc.period_positive

      go : (b : Bool) → (T c - gcd (T p) (T c)) + cond b (up (gcd (T p) (T c)) (R p)) 0 ≤ most + most
      go true = omega (arith, common, up_near (gcd (T p) (T c)) (R p) common.0, sp.response_most, sc.period_most)
      go false = omega (arith, sc.period_most)

  -- What each pair adds, and the last response.
  pub bound_most : (p : ℕ) (rest : List ℕ) → Along (SmallTask most T R) p rest → walk_bound T waits R p rest ≤ (most + most) * length rest + most
  unfolding walk_bound
  bound_most p [] s = omega (arith, s.response_most)
  bound_most p (c ∷ rest) s =
      omega (arith, pair_most p c s.0 (along_first (SmallTask most T R) c rest s.1), bound_most c rest s.1)
