-- Laws of bits and the numbers that they spell.
use Rattle.std.specs.Prelude.{◌≡◌, refl, Bool, true, false, List, ℕ, zero, suc, ◌+◌, ◌-◌, ◌*◌, ◌/◌, ◌%◌, ◌^◌, ◌<◌, length, get_or, set}
use Rattle.std.proofs.Common.{sym, ap, ap₂, ◌∙◌, pow-suc, mod-lt, mod-eq_of_lt, arith, pow_pos, shr-shr, get_or-set_same, get_or-set_other, ext_get_or, eq-eqb, ne_eqb, eqb-true}
use Rattle.std.proofs.Math.Nat.{pow-zero, zero-div, div-eq_of_lt, mul-add-div_right, mul-add-mod_self_right}
use Rattle.std.proofs.lemmas.Bool.{eqb-false}
use Rattle.bits.specs.Bits.{one, odd, bits, number}

-- ---- one bit

pub one_lt : (b : Bool) → one b < 2
one_lt true = omega arith
one_lt false = omega arith

pub one_odd : (n : ℕ) → one (odd n) ≡ n % 2
one_odd n = go (odd n) refl
  where
    go : (b : Bool) → odd n ≡ b → one b ≡ n % 2
    go true e = sym (eqb-true (n % 2) 1 e)
    go false e = let d : n % 2 ≡ 1 → ⊥ = eqb-false (n % 2) 1 e in omega (arith, mod-lt n {m = 2} (omega arith))

pub odd_one : (a : ℕ) (b : Bool) → odd (a * 2 + one b) ≡ b
odd_one a true = eq-eqb ((a * 2 + 1) % 2) 1 (omega arith)
odd_one a false = ne_eqb ((a * 2 + 0) % 2) 1 (omega arith)

-- a bit further up is the same bit of the half
half : (v e : ℕ) → v / 2 ^ suc e ≡ v / 2 / 2 ^ e
half v e = ap (λ x. v / 2 ^ x) {x = suc e} {y = 1 + e} (omega arith) ∙ sym (shr-shr v 1 e)

-- ---- the bits of a number

pub length_bits : (w v : ℕ) → length (bits w v) ≡ w
unfolding bits
length_bits zero v = refl
length_bits (suc w) v = ap suc (length_bits w v)

pub get_d_bits : (w v k e : ℕ) → k + e + 1 ≡ w → get_or (bits w v) k false ≡ odd (v / 2 ^ e)
unfolding bits
get_d_bits zero v k e h = absurd (omega arith)
get_d_bits (suc w) v zero e h = ap (λ x. odd (v / 2 ^ x)) (omega arith)
get_d_bits (suc w) v (suc k) e h = get_d_bits w v k e (omega arith)

pub zero_bits : (w k : ℕ) → get_or (bits w 0) k false ≡ false
unfolding bits
zero_bits zero k = refl
zero_bits (suc w) zero = ap odd (zero-div (2 ^ w))
zero_bits (suc w) (suc k) = zero_bits w k

-- ---- the number of bits

pub number_lt : (bs : List Bool) (at w : ℕ) → number bs at w < 2 ^ w
unfolding number
number_lt bs at zero = omega (arith, pow-zero 2)
number_lt bs at (suc w) = omega (arith, number_lt bs at w, one_lt (get_or bs (at + w) false), pow-suc 2 w)

-- of two stretches, one after the other
pub number_append : (bs : List Bool) (at v w : ℕ) → number bs at (v + w) ≡ number bs at v * 2 ^ w + number bs (at + v) w
unfolding number
number_append bs at v zero = ap (number bs at) {x = v + 0} {y = v} (omega arith) ∙ omega arith
number_append bs at v (suc w) =
    ap (number bs at) {x = v + suc w} {y = suc (v + w)} (omega arith)
    ∙ omega (arith, number_append bs at v w, ap (λ k. one (get_or bs k false)) {x = at + (v + w)} {y = at + v + w} (omega arith), ap (λ x. number bs at v * x) (pow-suc 2 w))

-- of a stretch between two others
pub number_within : (bs : List Bool) (at v w rest : ℕ) → number bs at (v + w + rest) / 2 ^ rest % 2 ^ w ≡ number bs (at + v) w
number_within bs at v w rest =
    ap (λ x. x / 2 ^ rest % 2 ^ w) (number_append bs at (v + w) rest)
    ∙ ap (λ x. x % 2 ^ w)
    (mul-add-div_right (pow_pos rest) (number bs at (v + w)) (number bs (at + (v + w)) rest)
    ∙ omega (arith, div-eq_of_lt (number_lt bs (at + (v + w)) rest), number_append bs at v w))
    ∙ mul-add-mod_self_right (number bs at v) (2 ^ w) (number bs (at + v) w)
    ∙ mod-eq_of_lt (number_lt bs (at + v) w)

-- it depends on those bits alone
pub number_same : (bs cs : List Bool) (at to w : ℕ) → ((k : ℕ) → k < w → get_or bs (at + k) false ≡ get_or cs (to + k) false) → number bs at w ≡ number cs to w
unfolding number
number_same bs cs at to zero h = refl
number_same bs cs at to (suc w) h = ap₂ (λ x y. x * 2 + one y) (number_same bs cs at to w (λ k l. h k (omega arith))) (h w (omega arith))

-- and has them for its own
pub number_bit : (bs : List Bool) (at w k e : ℕ) → k + e + 1 ≡ w → odd (number bs at w / 2 ^ e) ≡ get_or bs (at + k) false
unfolding number
number_bit bs at zero k e h = absurd (omega arith)
number_bit bs at (suc w) k zero h =
    ap odd {x = number bs at (suc w) / 2 ^ 0} {y = number bs at (suc w)} (omega arith)
    ∙ odd_one (number bs at w) (get_or bs (at + w) false) ∙ ap (λ j. get_or bs (at + j) false) (omega arith)
number_bit bs at (suc w) k (suc e) h =
    ap odd (half (number bs at (suc w)) e ∙ ap (λ x. x / 2 ^ e) {x = number bs at (suc w) / 2} {y = number bs at w} (omega (arith, one_lt (get_or bs (at + w) false))))
    ∙ number_bit bs at w k e (omega arith)

pub bits_number : (bs : List Bool) (at w k : ℕ) → k < w → get_or (bits w (number bs at w)) k false ≡ get_or bs (at + k) false
bits_number bs at w k h = get_d_bits w (number bs at w) k (w - 1 - k) (omega arith) ∙ number_bit bs at w k (w - 1 - k) (omega arith)

pub bits_of_number : (bs : List Bool) (w : ℕ) → length bs ≡ w → bits w (number bs 0 w) ≡ bs
bits_of_number bs w e =
    ext_get_or false (bits w (number bs 0 w)) bs (length_bits w (number bs 0 w) ∙ sym e)
    (λ k h. bits_number bs 0 w k (omega (arith, length_bits w (number bs 0 w))) ∙ ap (λ j. get_or bs j false) {x = 0 + k} {y = k} (omega arith))

-- the first j bits of a number spell it without the others
front : (w v j e : ℕ) → j + e ≡ w → v < 2 ^ w → number (bits w v) 0 j ≡ v / 2 ^ e
unfolding number
front w v zero e h l = sym (ap (λ x. v / 2 ^ x) {x = e} {y = w} (omega arith) ∙ div-eq_of_lt l)
front w v (suc j) e h l =
    ap₂ (λ x y. x * 2 + one y) (front w v j (suc e) (omega arith) l) (ap (λ k. get_or (bits w v) k false) {x = 0 + j} {y = j} (omega arith) ∙ get_d_bits w v j e (omega arith))
    ∙ omega (arith, one_odd (v / 2 ^ e), shr-shr v e 1, ap (λ x. v / 2 ^ x) {x = e + 1} {y = suc e} (omega arith))

pub number_bits : (w v : ℕ) → v < 2 ^ w → number (bits w v) 0 w ≡ v
number_bits w v h = front w v w 0 (omega arith) h ∙ omega arith

-- ---- a bit set

-- the number changes by the bit's weight
pub number_set : (bs : List Bool) (b : Bool) (at w k e : ℕ) → k + e + 1 ≡ w → at + k < length bs
    → number (set bs (at + k) b) at w + one (get_or bs (at + k) false) * 2 ^ e ≡ number bs at w + one b * 2 ^ e
unfolding number
number_set bs b at zero k e h l = absurd (omega arith)
number_set bs b at (suc w) k zero h l =
    let same : number (set bs (at + k) b) at w ≡ number bs at w = number_same (set bs (at + k) b) bs at at w (λ j g. get_or-set_other bs (at + k) (at + j) b false (omega arith)) in
    let here : get_or (set bs (at + k) b) (at + w) false ≡ b = ap (λ j. get_or (set bs (at + k) b) (at + j) false) {x = w} {y = k} (omega arith) ∙ get_or-set_same bs (at + k) b false l in
    omega (arith, same, ap one here, ap (λ j. one (get_or bs (at + j) false)) {x = w} {y = k} (omega arith))
number_set bs b at (suc w) k (suc e) h l =
    omega (
      arith,
      number_set bs b at w k e (omega arith) l,
      ap one (get_or-set_other bs (at + k) (at + w) b false (omega arith)),
      pow-suc 2 e,
      ap (λ x. one (get_or bs (at + k) false) * x) (pow-suc 2 e),
      ap (λ x. one b * x) (pow-suc 2 e),
    )

-- ---- zeros

-- bits that are all 0 spell 0
pub number_zero : (bs : List Bool) (at w : ℕ) → ((k : ℕ) → k < w → get_or bs (at + k) false ≡ false) → number bs at w ≡ 0
unfolding number
number_zero bs at zero h = refl
number_zero bs at (suc w) h = omega (arith, number_zero bs at w (λ k l. h k (omega arith)), ap one (h w (omega arith)))

-- and only they do
pub zero_number : (bs : List Bool) (at w k : ℕ) → number bs at w ≡ 0 → k < w → get_or bs (at + k) false ≡ false
zero_number bs at w k e h =
    sym (number_bit bs at w k (w - 1 - k) (omega arith)) ∙ ap odd (ap (λ v. v / 2 ^ (w - 1 - k)) e ∙ zero-div (2 ^ (w - 1 - k)))
