-- A number's digits: how many they are, and that they say the number.
use Rattle.std.specs.Prelude.{◌≡◌, refl, Bool, true, false, cond, List, [], ◌∷◌, ◌++◌, ℕ, zero, suc, ◌+◌, ◌-◌, ◌/◌, ◌%◌, ◌^◌, ◌≤◌, ◌<◌, ltb, length}
use Rattle.std.proofs.Common.{ap, ap₂, ◌∙◌, pow-suc, arith, length-append, lt-ltb, le-ltb, ltb-true, ltb-false}
use Rattle.std.proofs.Math.Nat.{pow-zero, pow-le-pow_right}
use Rattle.std.proofs.Math.Decide.{dec_lt}
use Rattle.io.specs.Digits.{hex_digit_ascii, last_digits, IsDigitCount}
use Rattle.text.specs.Shown.{places, numeral}
use Rattle.text.specs.Words.{every, digit, tenfold, number}

-- ---- how many

fewest_suc : (n p : ℕ) → 10 ≤ n → IsDigitCount 10 1 (n / 10) p → IsDigitCount 10 1 n (suc p)
fewest_suc n p h f = (omega arith, omega (arith, f.1, pow-suc 10 p), λ l. go (dec_lt 1 p))
  where
    go : Dec (1 < p) → 10 ^ (suc p - 1) ≤ n
    go (yes l) =
        omega (arith, f.2 l, pow-suc 10 (p - 1), ap (λ k. 10 ^ k) {x = suc (p - 1)} {y = suc p - 1} (omega arith))
    go (no l) = omega (arith, pow-suc 10 0, pow-zero 10, ap (λ k. 10 ^ k) {x = suc 0} {y = suc p - 1} (omega (arith, f.0)))

pub places_fewest : (k n : ℕ) → n < 10 ^ suc k → IsDigitCount 10 1 n (places k n)
unfolding places
places_fewest zero n h = (omega arith, h, λ l. absurd (omega arith))
places_fewest (suc k) n h = go (ltb n 10) refl (places_fewest k (n / 10))
  where
    go : (b : Bool) → ltb n 10 ≡ b → (n / 10 < 10 ^ suc k → IsDigitCount 10 1 (n / 10) (places k (n / 10))) → IsDigitCount 10 1 n (cond b 1 (suc (places k (n / 10))))
    go true e later = (omega arith, omega (arith, ltb-true n 10 e, pow-suc 10 0, pow-zero 10), λ l. absurd (omega arith))
    go false e later = fewest_suc n (places k (n / 10)) (ltb-false n 10 e) (later (omega (arith, pow-suc 10 (suc k))))

fewer : (n a b : ℕ) → IsDigitCount 10 1 n a → IsDigitCount 10 1 n b → a < b → ⊥
fewer n a b f g l = omega (arith, f.1, g.2 (omega (arith, f.0)), pow-le-pow_right {n = 10} (omega arith) {i = a} {j = b - 1} (omega arith))

pub fewest_unique : (n a b : ℕ) → IsDigitCount 10 1 n a → IsDigitCount 10 1 n b → a ≡ b
fewest_unique n a b f g = go (dec_lt a b) (dec_lt b a)
  where
    go : Dec (a < b) → Dec (b < a) → a ≡ b
    go (yes l) m = absurd (fewer n a b f g l)
    go (no l) (yes m) = absurd (fewer n b a g f m)
    go (no l) (no m) = omega arith

pub places_most : (k n : ℕ) → places k n ≤ suc k
unfolding places
places_most zero n = omega arith
places_most (suc k) n = go (ltb n 10) (places_most k (n / 10))
  where
    go : (b : Bool) → places k (n / 10) ≤ suc k → cond b 1 (suc (places k (n / 10))) ≤ suc (suc k)
    go true h = omega arith
    go false h = omega arith

pub fewest_most : (n k : ℕ) → n ≤ 4294967295 → IsDigitCount 10 1 n k → k ≤ 10
fewest_most n k h f = omega (arith, fewest_unique n k (places 9 n) f (places_fewest 9 n (omega arith)), places_most 9 n)

pub numeral_fewest : (n k : ℕ) → n ≤ 4294967295 → IsDigitCount 10 1 n k → last_digits 10 k n ≡ numeral n
unfolding numeral
numeral_fewest n k h f = ap (λ j. last_digits 10 j n) (fewest_unique n k (places 9 n) f (places_fewest 9 n (omega arith)))

-- ---- what they say

number_snoc : (v : ℕ) (xs : List ℕ) (b : ℕ) → number v (xs ++ (b ∷ [])) ≡ tenfold (number v xs) b
unfolding number
number_snoc v [] b = refl
number_snoc v (x ∷ xs) b = number_snoc (tenfold v x) xs b

every_snoc : (test : ℕ → Bool) (xs : List ℕ) (b : ℕ) → every test xs ≡ true → test b ≡ true → every test (xs ++ (b ∷ [])) ≡ true
unfolding every
every_snoc test [] b h e = ap (λ t. cond t true false) e
every_snoc test (x ∷ xs) b h e = go (test x) h (every_snoc test xs b)
  where
    go : (t : Bool) → cond t (every test xs) false ≡ true → (every test xs ≡ true → test b ≡ true → every test (xs ++ (b ∷ [])) ≡ true) → cond t (every test (xs ++ (b ∷ []))) false ≡ true
    go true q later = later q e
    go false q later = q

glyph_is : (n : ℕ) → hex_digit_ascii (n % 10) ≡ 48 + n % 10
glyph_is n = ap (λ b. cond b (48 + n % 10) (87 + n % 10)) (lt-ltb (n % 10) 10 (omega arith))

digit_glyph : (n : ℕ) → digit (hex_digit_ascii (n % 10)) ≡ true
digit_glyph n =
    ap digit (glyph_is n)
    ∙ ap₂ (λ a b. cond a false (cond b false true)) (le-ltb (48 + n % 10) 48 (omega arith)) (le-ltb 57 (48 + n % 10) (omega arith))

pub every_digit : (k n : ℕ) → every digit (last_digits 10 k n) ≡ true
unfolding every
every_digit zero n = refl
every_digit (suc k) n = every_snoc digit (last_digits 10 k (n / 10)) (hex_digit_ascii (n % 10)) (every_digit k (n / 10)) (digit_glyph n)

digits_say : (k n : ℕ) → n < 10 ^ k → n ≤ 4294967295 → number 0 (last_digits 10 k n) ≡ n
unfolding number tenfold
digits_say zero n h t = omega (arith, pow-zero 10)
digits_say (suc k) n h t =
    number_snoc 0 (last_digits 10 k (n / 10)) (hex_digit_ascii (n % 10))
    ∙ ap₂ tenfold (digits_say k (n / 10) (omega (arith, pow-suc 10 k)) (omega arith)) (glyph_is n)
    ∙ omega arith

pub numeral_digits : (n : ℕ) → every digit (numeral n) ≡ true
unfolding numeral
numeral_digits n = every_digit (places 9 n) n

pub numeral_says : (n : ℕ) → n ≤ 4294967295 → number 0 (numeral n) ≡ n
unfolding numeral
numeral_says n h = digits_say (places 9 n) n (places_fewest 9 n (omega arith)).1 h

-- there is one
pub numeral_long : (n : ℕ) → 1 ≤ length (numeral n)
unfolding numeral places
numeral_long n = go (ltb n 10)
  where
    go : (b : Bool) → 1 ≤ length (last_digits 10 (cond b 1 (suc (places 8 (n / 10)))) n)
    go true = omega arith
    go false = omega (arith, length-append (last_digits 10 (places 8 (n / 10)) (n / 10)) (hex_digit_ascii (n % 10) ∷ []))
