-- What each call answers: one predicate a call, of its arguments and its answer. The contract is the predicate, and `Unique` says
-- that it allows one answer.
use Rattle.std.specs.Prelude.{◌≡◌, List, ℕ, ℤ, Option, nat_abs, length, get_or}
use Rattle.arith.specs.Whole.{gcd, lcm, up}
use Rattle.arith.specs.Limit.{within}
use Rattle.arith.specs.Ranges.{maximum}

-- The greatest common divisor of a and b; with 0 the other number.
abbrev pub GcdPromise : ℕ → ℕ → ℕ → Type 0
GcdPromise a b r = r ≡ gcd a b

-- The least common multiple of a and b where it is at most the limit, or none.
abbrev pub LcmPromise : ℕ → ℕ → ℕ → Option ℕ → Type 0
LcmPromise a b limit r = r ≡ within limit (lcm a b)

-- The least multiple of the period that is at least x; 0 for a period of 0.
abbrev pub UpPromise : ℕ → ℕ → ℕ → Type 0
UpPromise period x r = r ≡ up period x

-- The greatest entry of a row, 0 of none.
abbrev pub GreatestPromise : List ℕ → ℕ → Type 0
GreatestPromise row r = r ≡ maximum (length row) (λ k. get_or row k 0)

-- How far a number is from zero.
abbrev pub MagnitudePromise : ℤ → ℕ → Type 0
MagnitudePromise z r = r ≡ nat_abs z
