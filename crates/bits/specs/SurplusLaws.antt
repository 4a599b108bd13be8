-- Laws of what follows a last bit: the first bit that is 1, and what `surplus` answers of it.
use Rattle.std.specs.Prelude.{◌≡◌, ◌⊎◌, Bool, List, ◌||◌, ltb, length, Some, None}
use Rattle.std.specs.Bool.{then_some}
use Rattle.std.proofs.Math.Path.{refl, ap}
use Rattle.std.proofs.Common.{ap₂, ◌∙◌, inl, inr, ltb-false, ltb-true, lt-ltb, le-ltb, arith}
use Rattle.std.proofs.Math.Bool.{true, false, cond, true≢false}
use Prim.Native.Nat.{ℕ, zero, suc, ◌+◌, ◌-◌, ◌*◌, ◌≤◌, ◌<◌}
use Rattle.std.proofs.Math.Decide.{ℕ_discrete, dec_lt}
use Rattle.std.proofs.Math.ListN.{get_or}
use Rattle.bits.specs.Bits.{unpack, number, bytes_for, first_one, wrong_bit, surplus_of}
use Rattle.bits.specs.Laws.{number_zero, zero_number}

module _ (bs : List Bool) where
  pub first_one_least : (at w : ℕ) → at ≤ first_one bs at w
  unfolding first_one
  first_one_least at zero = omega arith
  first_one_least at (suc w) = go (get_or bs at false) (first_one_least (suc at) w)
    where
      go : (b : Bool) → suc at ≤ first_one bs (suc at) w → at ≤ cond b at (first_one bs (suc at) w)
      go true h = omega arith
      go false h = omega arith

  pub first_one_most : (at w : ℕ) → first_one bs at w ≤ at + w
  unfolding first_one
  first_one_most at zero = omega arith
  first_one_most at (suc w) = go (get_or bs at false) (first_one_most (suc at) w)
    where
      go : (b : Bool) → first_one bs (suc at) w ≤ suc at + w → cond b at (first_one bs (suc at) w) ≤ at + suc w
      go true h = omega arith
      go false h = omega arith

  -- every bit before it is 0
  pub first_one_zeros : (at w k : ℕ) → at ≤ k → k < first_one bs at w → get_or bs k false ≡ false
  unfolding first_one
  first_one_zeros at zero k l h = absurd (omega arith)
  first_one_zeros at (suc w) k l h = go (get_or bs at false) refl h (ℕ_discrete k at) (first_one_zeros (suc at) w k)
    where
      go : (b : Bool) → get_or bs at false ≡ b → k < cond b at (first_one bs (suc at) w) → Dec (k ≡ at)
          → (suc at ≤ k → k < first_one bs (suc at) w → get_or bs k false ≡ false) → get_or bs k false ≡ false
      go true q g d later = absurd (omega arith)
      go false q g (yes e) later = ap (λ j. get_or bs j false) e ∙ q
      go false q g (no e) later = later (omega arith) g

  -- and it is 1, if it is not past them
  pub first_one_is : (at w : ℕ) → first_one bs at w < at + w → get_or bs (first_one bs at w) false ≡ true
  unfolding first_one
  first_one_is at zero h = absurd (omega arith)
  first_one_is at (suc w) h = go (get_or bs at false) refl h (first_one_is (suc at) w)
    where
      go : (b : Bool) → get_or bs at false ≡ b → cond b at (first_one bs (suc at) w) < at + suc w
          → (first_one bs (suc at) w < suc at + w → get_or bs (first_one bs (suc at) w) false ≡ true) → get_or bs (cond b at (first_one bs (suc at) w)) false ≡ true
      go true q g later = q
      go false q g later = later (omega arith)

  -- and nothing else is
  pub first_one_unique : (at w offset : ℕ) → at ≤ offset → ((k : ℕ) → at ≤ k → k < offset → get_or bs k false ≡ false)
      → ((offset < at + w) × (get_or bs offset false ≡ true)) ⊎ (offset ≡ at + w) → first_one bs at w ≡ offset
  first_one_unique at w offset l zeros there = go (dec_lt (first_one bs at w) offset) (dec_lt offset (first_one bs at w)) there
    where
      both : {A : Type 0} (k : ℕ) → get_or bs k false ≡ false → get_or bs k false ≡ true → A
      both k e h = let z : ◌≡◌ {A = ℕ} 0 1 = cc in absurd (omega arith)

      go : Dec (first_one bs at w < offset) → Dec (offset < first_one bs at w) → ((offset < at + w) × (get_or bs offset false ≡ true)) ⊎ (offset ≡ at + w) → first_one bs at w ≡ offset
      go (yes a) b (inl (c, e)) = both (first_one bs at w) (zeros (first_one bs at w) (first_one_least at w) a) (first_one_is at w (omega arith))
      go (yes a) b (inr c) = both (first_one bs at w) (zeros (first_one bs at w) (first_one_least at w) a) (first_one_is at w (omega arith))
      go (no a) (yes b) (inl (c, e)) = both offset (first_one_zeros at w offset l b) e
      go (no a) (yes b) (inr c) = absurd (omega (arith, first_one_most at w))
      go (no a) (no b) c = omega arith

  -- The number of one bit tells it.
  pub bit_one : (at : ℕ) → 0 < number bs at 1 → get_or bs at false ≡ true
  bit_one at h = go (get_or bs at false) refl
    where
      go : (b : Bool) → get_or bs at false ≡ b → get_or bs at false ≡ true
      go true q = q
      go false q = absurd (omega (arith, number_zero bs at 1 (λ k l. ap (λ j. get_or bs j false) {x = at + k} {y = at} (omega arith) ∙ q)))

  pub bit_zero : (at : ℕ) → number bs at 1 ≡ 0 → get_or bs at false ≡ false
  bit_zero at e = ap (λ j. get_or bs j false) {x = at} {y = at + 0} (omega arith) ∙ zero_number bs at 1 0 e (omega arith)

  -- One more bit is looked at.
  pub first_one_here : (at w : ℕ) → 0 < w → get_or bs at false ≡ true → first_one bs at w ≡ at
  unfolding first_one
  first_one_here at zero h e = absurd (omega arith)
  first_one_here at (suc w) h e = ap (λ b. cond b at (first_one bs (suc at) w)) e

  pub first_one_past : (at w : ℕ) → get_or bs at false ≡ false → first_one bs at (suc w) ≡ first_one bs (suc at) w
  unfolding first_one
  first_one_past at w e = ap (λ b. cond b at (first_one bs (suc at) w)) e

  -- None is left.
  pub first_one_end : (at w : ℕ) → w ≡ 0 → first_one bs at w ≡ at
  unfolding first_one
  first_one_end at w e = ap (first_one bs at) e

  -- bits that are all 0 are passed
  pub first_one_none : (at w : ℕ) → ((k : ℕ) → k < w → get_or bs (at + k) false ≡ false) → first_one bs at w ≡ at + w
  unfolding first_one
  first_one_none at zero h = omega arith
  first_one_none at (suc w) h =
      first_one_past at w (ap (λ k. get_or bs k false) {x = at} {y = at + 0} (omega arith) ∙ h 0 (omega arith))
      ∙ first_one_none (suc at) w (λ k l. ap (λ j. get_or bs j false) {x = suc at + k} {y = at + suc k} (omega arith) ∙ h (suc k) (omega arith))
      ∙ omega arith

-- It depends on those bits alone.
pub first_one_same : (bs cs : List Bool) (at w : ℕ) → ((k : ℕ) → k < at + w → get_or bs k false ≡ get_or cs k false) → first_one bs at w ≡ first_one cs at w
unfolding first_one
first_one_same bs cs at zero h = refl
first_one_same bs cs at (suc w) h =
    ap₂ (λ b x. cond b at x) (h at (omega arith)) (first_one_same bs cs (suc at) w (λ k l. h k (omega arith)))

-- ---- what is answered

-- either test
or_true : (a b : Bool) → a || b ≡ true → (a ≡ true) ⊎ (b ≡ true)
or_true true b e = inl refl
or_true false b e = inr e

or_false : (a b : Bool) → a || b ≡ false → (a ≡ false) × (b ≡ false)
or_false true b e = absurd (true≢false e)
or_false false b e = (refl, e)

then_none : {A : Type 0} (b : Bool) (x : A) → then_some b x ≡ None → b ≡ false
then_none true x e = cc
then_none false x e = refl

then_given : {A : Type 0} (b : Bool) (x : A) {y : A} → then_some b x ≡ Some y → (b ≡ true) × (y ≡ x)
then_given true x e = (refl, cc)
then_given false x e = cc

module _ (bytes : List ℕ) (end : ℕ) where
  abbrev wrong : ℕ
  wrong = wrong_bit (unpack bytes) end

  abbrev before : Bool
  before = ltb wrong (bytes_for end * 8)

  abbrev after : Bool
  after = ltb (bytes_for end) (length bytes)

  -- None: every bit is 0 up to the end of the byte, and no byte follows.
  pub surplus_none : surplus_of bytes end ≡ None → (bytes_for end * 8 ≤ wrong) × (length bytes ≤ bytes_for end)
  unfolding surplus_of
  surplus_none e =
      let both = or_false before after (then_none (before || after) wrong e) in
      (ltb-false wrong (bytes_for end * 8) both.0, ltb-false (bytes_for end) (length bytes) both.1)

  -- Some: it is the first that is wrong, and a 1 or the first of a byte that follows.
  pub surplus_some : {bit : ℕ} → surplus_of bytes end ≡ Some bit → (bit ≡ wrong) × ((wrong < bytes_for end * 8) ⊎ (bytes_for end < length bytes))
  unfolding surplus_of
  surplus_some e =
      let both = then_given (before || after) wrong e in
      (both.1, go (or_true before after both.0))
    where
      go : (before ≡ true) ⊎ (after ≡ true) → (wrong < bytes_for end * 8) ⊎ (bytes_for end < length bytes)
      go (inl h) = inl (ltb-true wrong (bytes_for end * 8) h)
      go (inr h) = inr (ltb-true (bytes_for end) (length bytes) h)

  -- A bit before the end of the byte is wrong,
  pub surplus_one : wrong < bytes_for end * 8 → surplus_of bytes end ≡ Some wrong
  unfolding surplus_of
  surplus_one h = ap (λ b. then_some (b || after) wrong) (lt-ltb wrong (bytes_for end * 8) h)

  -- or else what is answered is whether a byte follows.
  pub surplus_byte : bytes_for end * 8 ≤ wrong → surplus_of bytes end ≡ then_some after (bytes_for end * 8)
  unfolding surplus_of
  surplus_byte h =
      ap (λ b. then_some (b || after) wrong) (le-ltb wrong (bytes_for end * 8) h)
      ∙ ap (then_some after) {x = wrong} {y = bytes_for end * 8} (omega (arith, first_one_most (unpack bytes) end (bytes_for end * 8 - end)))
