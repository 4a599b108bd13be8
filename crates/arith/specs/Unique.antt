-- One input, one answer: two answers that a call's promise allows are equal.
use Rattle.std.specs.Prelude.{◌≡◌, List, ℕ, ℤ, Option}
use Rattle.std.proofs.Common.{sym, ◌∙◌}
use Rattle.arith.specs.Promises.{GcdPromise, LcmPromise, UpPromise, GreatestPromise, MagnitudePromise}

pub gcd_unique : (a b : ℕ) {r s : ℕ} → GcdPromise a b r → GcdPromise a b s → r ≡ s
gcd_unique a b p q = p ∙ sym q

pub lcm_unique : (a b limit : ℕ) {r s : Option ℕ} → LcmPromise a b limit r → LcmPromise a b limit s → r ≡ s
lcm_unique a b limit p q = p ∙ sym q

pub up_unique : (period x : ℕ) {r s : ℕ} → UpPromise period x r → UpPromise period x s → r ≡ s
up_unique period x p q = p ∙ sym q

pub greatest_unique : (row : List ℕ) {r s : ℕ} → GreatestPromise row r → GreatestPromise row s → r ≡ s
greatest_unique row p q = p ∙ sym q

pub magnitude_unique : (z : ℤ) {r s : ℕ} → MagnitudePromise z r → MagnitudePromise z s → r ≡ s
magnitude_unique z p q = p ∙ sym q
