-- The largest quick bound: how much a pair of neighbours and a chain can add up to where no period and no response is over `most` ticks.
use mathlib.Core.List.{List, [], ◌∷◌}
use Rattle.std.specs.Prelude.{cond, ℕ, ◌+◌, ◌-◌, ◌≤◌, ◌<◌}
use Rattle.arith.specs.Whole.{gcd, up}
use Rattle.theory.specs.Model.Chain.{Waits}

-- What a pair of neighbours adds to the quick bound.
abbrev pub pair_bound : (ℕ → ℕ) → Waits → (ℕ → ℕ) → ℕ → ℕ → ℕ
pair_bound T waits R p c = (T c - gcd (T p) (T c)) + cond (waits p c) (up (gcd (T p) (T c)) (R p)) 0

-- What holds of every task on a chain.
abbrev pub Along : (ℕ → Type 0) → ℕ → List ℕ → Type 0
Along P p [] = P p
Along P p (c ∷ rest) = P p × Along P c rest

-- The period of task i and its response are at most so many ticks.
pub record SmallTask (most : ℕ) (T R : ℕ → ℕ) (i : ℕ) : Type 0 where
  pub period_positive : 0 < T i
  pub period_most : T i ≤ most
  pub response_most : R i ≤ most
