-- The laws of `gcd`, `lcm` and `up`. Each part begins with the few that open the definition; all else cites those.
use Rattle.std.specs.Prelude.{◌≡◌, ℕ, zero, suc, ◌+◌, ◌-◌, ◌*◌, ◌/◌, ◌%◌, ◌≤◌, ◌<◌}
use Rattle.std.proofs.Common.{sym, ◌∙◌, ⊎_elim, le_refl, le_trans, le_antisymm, zero-lt-suc, eq-zero-or-pos, mul_comm, mul_assoc, one-mul, mul-pos, mod-lt, div-add-mod', arith}
use Rattle.std.specs.Int.{◌∣◌}
use Rattle.std.proofs.Math.Nat.{mul-sub, mod_def, mul-div_assoc, div-mul_cancel, dvd_refl, dvd-zero, dvd_antisymm, dvd-add, dvd-sub, dvd-mod_iff, dvd-mul_left, dvd-mul_right, dvd-mul_right_of_dvd, mul-dvd-mul_right, dvd_of_mul-dvd-mul_right, pos_of_dvd_of_pos, le_of_dvd, eq-zero_of_zero-dvd}
use Rattle.arith.specs.Whole.{euclid, gcd, lcm, up}

-- The greatest common divisor: it divides both numbers, and each common divisor divides it.

euclid_divides : (n a b : ℕ) → b < n → (euclid n a b ∣ a) × (euclid n a b ∣ b)
unfolding euclid
euclid_divides zero a b h = absurd (omega arith)
euclid_divides (suc n) a zero h = (dvd_refl a, dvd-zero a)
euclid_divides (suc n) a (suc b) h =
    let both = euclid_divides n (suc b) (a % suc b) (omega (arith, mod-lt a (zero-lt-suc b))) in
    ((dvd-mod_iff _ both.0).0 both.1, both.0)

-- With the factor m, which the least common multiple's law needs.
euclid_greatest : (n m a b k : ℕ) → k ∣ m * a → k ∣ m * b → k ∣ m * euclid n a b
unfolding euclid
euclid_greatest zero m a b k p q = p
euclid_greatest (suc n) m a zero k p q = p
euclid_greatest (suc n) m a (suc b) k p q =
    euclid_greatest n m (suc b) (a % suc b) k q (rw (mod_def, mul-sub, ← mul_assoc) (dvd-sub k p (dvd-mul_right_of_dvd k q (a / suc b))))

pub gcd_divides_left : (a b : ℕ) → gcd a b ∣ a
unfolding gcd
gcd_divides_left a b = (euclid_divides (suc b) a b (le_refl _)).0

pub gcd_divides_right : (a b : ℕ) → gcd a b ∣ b
unfolding gcd
gcd_divides_right a b = (euclid_divides (suc b) a b (le_refl _)).1

gcd_greatest_times : (k m a b : ℕ) → k ∣ m * a → k ∣ m * b → k ∣ m * gcd a b
unfolding gcd
gcd_greatest_times k m a b = euclid_greatest (suc b) m a b k

pub gcd_greatest : (k : ℕ) {a b : ℕ} → k ∣ a → k ∣ b → k ∣ gcd a b
gcd_greatest k {a} {b} p q = rw one-mul at (gcd_greatest_times k 1 a b (rw one-mul p) (rw one-mul q))

pub gcd_pos : (a b : ℕ) → 0 < a → 0 < gcd a b
gcd_pos a b = pos_of_dvd_of_pos (gcd_divides_left a b)

pub gcd_zero : (a : ℕ) → gcd a 0 ≡ a
gcd_zero a = dvd_antisymm (gcd_divides_left a 0) (gcd_greatest a (dvd_refl a) (dvd-zero a))

pub gcd_step : (a b : ℕ) → gcd a b ≡ gcd b (a % b)
gcd_step a b =
    let right = gcd_divides_right a b in
    let left = gcd_divides_left b (a % b) in
    dvd_antisymm (gcd_greatest _ right ((dvd-mod_iff _ right).1 (gcd_divides_left a b)))
    (gcd_greatest _ ((dvd-mod_iff _ left).0 (gcd_divides_right b (a % b))) left)

-- The least common multiple: both numbers divide it, and it divides each common multiple.

pub lcm_divides_right : (a b : ℕ) → b ∣ lcm a b
unfolding lcm
lcm_divides_right a b = dvd-mul_left b (a / gcd a b)

lcm_turned : (a b : ℕ) → lcm a b ≡ a * (b / gcd a b)
unfolding lcm
lcm_turned a b =
    rw (mul_comm (a / gcd a b) b, ← mul-div_assoc (gcd a b) b (gcd_divides_left a b), mul_comm b a, mul-div_assoc (gcd a b) a (gcd_divides_right a b))

pub lcm_divides_left : (a b : ℕ) → a ∣ lcm a b
lcm_divides_left a b = rw lcm_turned (dvd-mul_right a (b / gcd a b))

lcm_times_gcd : (a b : ℕ) → lcm a b * gcd a b ≡ a * b
lcm_times_gcd a b = rw (lcm_turned, mul_assoc, div-mul_cancel (gcd a b) (gcd_divides_right a b))

-- The product of both divides m times both, so m times their greatest common divisor, which is then taken out.
pub lcm_least : (a b : ℕ) {m : ℕ} → a ∣ m → b ∣ m → lcm a b ∣ m
lcm_least a b {m} p q = ⊎_elim (λ e. rw e (dvd-zero (lcm a b))) positive (eq-zero-or-pos m)
  where
    product : a * b ∣ m * gcd a b
    product = gcd_greatest_times (a * b) m a b (rw (mul_comm a b) (mul-dvd-mul_right b q a)) (mul-dvd-mul_right a p b)

    positive : 0 < m → lcm a b ∣ m
    positive h = dvd_of_mul-dvd-mul_right (lcm a b) (gcd_pos a b (pos_of_dvd_of_pos p h)) (rw lcm_times_gcd product)

pub lcm_pos : (a b : ℕ) → 0 < a → 0 < b → 0 < lcm a b
lcm_pos a b p q = pos_of_dvd_of_pos (lcm_least a b (dvd-mul_right a b) (dvd-mul_left b a)) (mul-pos p q)

pub lcm_zero : (b : ℕ) → lcm 0 b ≡ 0
lcm_zero b = eq-zero_of_zero-dvd (lcm_divides_left 0 b)

-- Multiples lie g apart: where y is less than T above x, it is at most T - g above it.

pub gap_multiple : (g : ℕ) {x y T : ℕ} → g ∣ x → g ∣ y → g ∣ T → y < x + T → y + g ≤ x + T
gap_multiple g {x} {y} {T} dx dy d_t h = omega (arith, le_of_dvd {m = g} {n = x + T - y} (omega arith) (dvd-sub g (dvd-add g dx d_t) dy))

-- The next multiple: a multiple of T, at least x, and the least such.

pub up_divides : (T x : ℕ) → T ∣ up T x
unfolding up
up_divides T x = dvd-mul_left T ((x + (T - 1)) / T)

pub up_above : (T x : ℕ) → 0 < T → x ≤ up T x
unfolding up
up_above T x h = omega (arith, div-add-mod' (x + (T - 1)) T, mod-lt (x + (T - 1)) h)

pub up_near : (T x : ℕ) → 0 < T → up T x < x + T
unfolding up
up_near T x h = omega (arith, div-add-mod' (x + (T - 1)) T)

pub up_zero : (x : ℕ) → up 0 x ≡ 0
up_zero x = eq-zero_of_zero-dvd (up_divides 0 x)

pub up_least : (T : ℕ) {x m : ℕ} → T ∣ m → x ≤ m → up T x ≤ m
up_least zero {x} {m} d h = omega (arith, up_zero x)
up_least (suc t) {x} {m} d h =
    omega (arith, gap_multiple (suc t) {x = m} d (up_divides (suc t) x) (dvd_refl (suc t)) (omega (arith, up_near (suc t) x (zero-lt-suc t))))

pub up_is : (T : ℕ) {x m : ℕ} → T ∣ m → x ≤ m → m < x + T → up T x ≡ m
up_is T {x} {m} d l h =
    le_antisymm (up_least T d l)
    (omega (arith, gap_multiple T {x = up T x} (up_divides T x) d (dvd_refl T) (omega (arith, up_above T x (omega arith)))))

pub up_mono : (T : ℕ) {x y : ℕ} → x ≤ y → up T x ≤ up T y
up_mono zero {x} {y} h = omega (arith, up_zero x)
up_mono (suc t) {x} {y} h = up_least (suc t) (up_divides (suc t) y) (le_trans h (up_above (suc t) y (zero-lt-suc t)))

pub up_fixed : (T : ℕ) {x : ℕ} → T ∣ x → up T x ≡ x
up_fixed zero {x} d = up_zero x ∙ sym (eq-zero_of_zero-dvd d)
up_fixed (suc t) {x} d = up_is (suc t) d (le_refl x) (omega arith)

pub up_shift : (T x k : ℕ) → up T (x + k * T) ≡ up T x + k * T
up_shift zero x k = omega (arith, up_zero x, up_zero (x + k * 0))
up_shift (suc t) x k =
    up_is (suc t) (dvd-add (suc t) (up_divides (suc t) x) (dvd-mul_left (suc t) k)) (omega (arith, up_above (suc t) x (zero-lt-suc t)))
    (omega (arith, up_near (suc t) x (zero-lt-suc t)))
