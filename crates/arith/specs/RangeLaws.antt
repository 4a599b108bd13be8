-- The laws of sums, maxima and the least number that passes a test.
use Rattle.std.specs.Prelude.{◌≡◌, refl, ◌≢◌, Bool, true, false, cond, ℕ, zero, suc, ◌+◌, ◌*◌, max, ◌≤◌, ◌<◌}
use Rattle.std.proofs.Common.{sym, ap, ap₂, ◌∙◌, subst, le_refl, le_trans, arith}
use Rattle.std.proofs.Math.Decide.{ℕ_discrete, dec_le, le_ind}
use Rattle.arith.specs.Ranges.{sum, maximum, least}

-- What holds below n and at n holds below n + 1.
pub below_suc : {n : ℕ} (P : ℕ → Type 0) → ((x : ℕ) → x < n → P x) → P n → (x : ℕ) → x < suc n → P x
below_suc {n} P before here x l = go (ℕ_discrete x n)
  where
    go : Dec (x ≡ n) → P x
    go (yes e) = subst P (sym e) here
    go (no e) = before x (omega arith)

-- A function that grows in each step grows.
pub grows : (f : ℕ → ℕ) → ((t : ℕ) → f t ≤ f (suc t)) → (m n : ℕ) → m ≤ n → f m ≤ f n
grows f step m n l = le_ind (λ x. f m ≤ f x) (le_refl _) (λ x q r. le_trans r (step x)) n l

-- Sums

pub sum_add : (n : ℕ) (f g : ℕ → ℕ) → sum n (λ j. f j + g j) ≡ sum n f + sum n g
unfolding sum
sum_add zero f g = refl
sum_add (suc n) f g = omega (arith, sum_add n f g)

pub sum_le : (n : ℕ) (f g : ℕ → ℕ) → ((j : ℕ) → j < n → f j ≤ g j) → sum n f ≤ sum n g
unfolding sum
sum_le zero f g h = le_refl _
sum_le (suc n) f g h = omega (arith, sum_le n f g (λ j m. h j (omega arith)), h n (le_refl _))

pub sum_eq : (n : ℕ) (f g : ℕ → ℕ) → ((j : ℕ) → j < n → f j ≡ g j) → sum n f ≡ sum n g
unfolding sum
sum_eq zero f g h = refl
sum_eq (suc n) f g h = ap₂ ◌+◌ (sum_eq n f g (λ j m. h j (omega arith))) (h n (le_refl _))

pub sum_const : (n c : ℕ) → sum n (λ j. c) ≡ n * c
unfolding sum
sum_const zero c = omega arith
sum_const (suc n) c = omega (arith, sum_const n c)

pub sum_zero : (n : ℕ) (f : ℕ → ℕ) → ((j : ℕ) → j < n → f j ≡ 0) → sum n f ≡ 0
sum_zero n f h = sum_eq n f (λ j. 0) h ∙ sum_const n 0 ∙ omega arith

-- A sum with one term that is not 0 is that term.
pub sum_point : (n k : ℕ) (f : ℕ → ℕ) → k < n → ((j : ℕ) → j < n → j ≢ k → f j ≡ 0) → sum n f ≡ f k
unfolding sum
sum_point zero k f l h = omega arith
sum_point (suc n) k f l h = go (ℕ_discrete n k) (λ m. sum_point n k f m (λ j q. h j (omega arith)))
  where
    go : Dec (n ≡ k) → (k < n → sum n f ≡ f k) → sum n f + f n ≡ f k
    go (yes e) rec = omega (arith, ap f e, sum_zero n f (λ j m. h j (omega arith) (omega arith)))
    go (no e) rec = omega (arith, rec (omega arith), h n (omega arith) e)

-- Where f ≤ g and their sums agree, they agree in each term.
pub sum_tight : (n : ℕ) (f g : ℕ → ℕ) → ((j : ℕ) → j < n → f j ≤ g j) → sum n g ≤ sum n f → (k : ℕ) → k < n → f k ≡ g k
unfolding sum
sum_tight zero f g h e = λ k l. omega arith
sum_tight (suc n) f g h e =
    below_suc (λ k. f k ≡ g k) (sum_tight n f g before (omega (arith, h n (le_refl _)))) (omega (arith, sum_le n f g before, h n (le_refl _)))
  where
    before : (j : ℕ) → j < n → f j ≤ g j
    before j m = h j (omega arith)

pub sum_grows : (f : ℕ → ℕ) (m n : ℕ) → m ≤ n → sum m f ≤ sum n f
unfolding sum
sum_grows f = grows (λ x. sum x f) (λ t. omega arith)

-- Terms that are 0 add nothing.
pub sum_longer : (f : ℕ → ℕ) (m n : ℕ) → m ≤ n → ((j : ℕ) → m ≤ j → f j ≡ 0) → sum m f ≡ sum n f
unfolding sum
sum_longer f m n l none = le_ind (λ x. sum m f ≡ sum x f) refl (λ x q r. omega (arith, none x q)) n l

-- Maxima

pub maximum_above : (n : ℕ) (f : ℕ → ℕ) (k : ℕ) → k < n → f k ≤ maximum n f
unfolding maximum
maximum_above zero f = λ k l. omega arith
maximum_above (suc n) f = below_suc (λ k. f k ≤ max (maximum n f) (f n)) (λ k l. omega (arith, maximum_above n f k l)) (omega arith)

pub maximum_least : (n : ℕ) (f : ℕ → ℕ) (b : ℕ) → ((k : ℕ) → k < n → f k ≤ b) → maximum n f ≤ b
unfolding maximum
maximum_least zero f b h = omega arith
maximum_least (suc n) f b h = omega (arith, maximum_least n f b (λ k l. h k (omega arith)), h n (le_refl _))

pub maximum_reached : (n : ℕ) (f : ℕ → ℕ) → 0 < n → (k : ℕ) × (k < n) × (f k ≡ maximum n f)
unfolding maximum
maximum_reached zero f h = absurd (omega arith)
maximum_reached (suc n) f h = go (dec_le (maximum n f) (f n)) (ℕ_discrete n 0) (maximum_reached n f)
  where
    go : Dec (maximum n f ≤ f n) → Dec (n ≡ 0) → (0 < n → (k : ℕ) × (k < n) × (f k ≡ maximum n f))
        → (k : ℕ) × (k < suc n) × (f k ≡ max (maximum n f) (f n))
    go (yes e) z rec = (n, le_refl _, omega arith)
    go (no e) (yes z) rec = absurd (omega (arith, ap (λ x. maximum x f) z))
    go (no e) (no z) rec = let r = rec (omega arith) in (r.0, omega (arith, r.1), omega (arith, r.2))

pub maximum_eq : (n : ℕ) (f g : ℕ → ℕ) → ((k : ℕ) → k < n → f k ≡ g k) → maximum n f ≡ maximum n g
unfolding maximum
maximum_eq zero f g h = refl
maximum_eq (suc n) f g h = ap₂ max (maximum_eq n f g (λ k l. h k (omega arith))) (h n (le_refl _))

-- The first number that passes a test

pub least_within : (n : ℕ) (test : ℕ → Bool) → least n test ≤ n
unfolding least
least_within zero test = le_refl _
least_within (suc n) test = go (test 0) (least_within n (λ x. test (suc x)))
  where
    rest : ℕ
    rest = least n (λ x. test (suc x))

    go : (b : Bool) → rest ≤ n → cond b 0 (suc rest) ≤ suc n
    go true h = omega arith
    go false h = omega arith

pub least_passes : (n : ℕ) (test : ℕ → Bool) → least n test < n → test (least n test) ≡ true
unfolding least
least_passes zero test = λ l. absurd (omega arith)
least_passes (suc n) test = go (test 0) refl (least_passes n (λ x. test (suc x)))
  where
    rest : ℕ
    rest = least n (λ x. test (suc x))

    go : (b : Bool) → test 0 ≡ b → (rest < n → test (suc rest) ≡ true) → cond b 0 (suc rest) < suc n → test (cond b 0 (suc rest)) ≡ true
    go true e h l = e
    go false e h l = h (omega arith)

pub least_first : (n : ℕ) (test : ℕ → Bool) (x : ℕ) → test x ≡ true → least n test ≤ x
unfolding least
least_first zero test x e = omega arith
least_first (suc n) test zero e = rw e (le_refl _)
least_first (suc n) test (suc x) e = go (test 0) (least_first n (λ x. test (suc x)) x e)
  where
    rest : ℕ
    rest = least n (λ x. test (suc x))

    go : (b : Bool) → rest ≤ x → cond b 0 (suc rest) ≤ suc x
    go true h = omega arith
    go false h = omega arith
