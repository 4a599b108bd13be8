-- A number that may be over a limit.
use Rattle.std.specs.Prelude.{◌≡◌, ℕ, ◌≤◌, ◌<◌, leb, Option, Some, None}
use Rattle.std.specs.Bool.{then_some}
use Rattle.std.proofs.Common.{arith, le-leb}
use Rattle.std.proofs.Math.Decide.{dec_le}
use Rattle.std.proofs.lemmas.Bool.{lt-leb}

-- The number x where it is at most the limit, and otherwise none.
unfoldable pub within : ℕ → ℕ → Option ℕ
within limit x = then_some (leb x limit) x

pub within_fits : (limit x : ℕ) → x ≤ limit → within limit x ≡ Some x
unfolding within
within_fits limit x h = rw (le-leb x limit h)

pub within_over : (limit x : ℕ) → limit < x → within limit x ≡ None
unfolding within
within_over limit x h = rw (lt-leb x limit h)

-- What is within the limit is the number itself.
pub within_some : (limit x : ℕ) {n : ℕ} → within limit x ≡ Some n → (n ≡ x) × (x ≤ limit)
within_some limit x {n} p = go (dec_le x limit)
  where
    go : Dec (x ≤ limit) → (n ≡ x) × (x ≤ limit)
    go (yes h) = (cc (within_fits limit x h), h)
    go (no h) = let e : within limit x ≡ None = within_over limit x (omega arith) in cc

-- What is not is over it.
pub within_none : (limit x : ℕ) → within limit x ≡ None → limit < x
within_none limit x p = go (dec_le x limit)
  where
    go : Dec (x ≤ limit) → limit < x
    go (yes h) = let e : within limit x ≡ Some x = within_fits limit x h in cc
    go (no h) = omega arith
