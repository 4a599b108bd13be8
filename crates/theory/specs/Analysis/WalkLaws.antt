-- The arithmetic of a chain's figures, for all periods, hand-overs that wait and responses: where responses repeat with H, so do delays;
-- the worst figure is then the greatest of all delays, and it is at most the quick bound.
use Rattle.std.specs.Prelude.{◌≡◌}
use mathlib.Core.List.{List, [], ◌∷◌}
use Prim.Native.Nat.{ℕ}
use Rattle.theory.specs.Model.Chain.{Waits}

-- Each task of a chain is one of these.
abbrev pub Along : (ℕ → Type 0) → ℕ → List ℕ → Type 0
Along These p [] = These p
Along These p (c ∷ rest) = These p × Along These c rest

-- These tasks have the same periods, and the same hand-overs between them wait.
pub record Alike (These : ℕ → Type 0) (T T' : ℕ → ℕ) (waits waits' : Waits) : Type 0 where
  pub periods : (i : ℕ) → These i → T i ≡ T' i
  pub hand_overs : (p c : ℕ) → These p → These c → waits p c ≡ waits' p c
