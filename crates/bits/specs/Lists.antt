-- Laws of lists by their elements: a list that is made of a function, and a run of elements put over a list.
use Rattle.std.specs.Prelude.{◌≡◌, refl, List, [], ◌∷◌, ◌++◌, ℕ, zero, suc, ◌+◌, ◌≤◌, ◌<◌, length, get_or, set}
use Rattle.std.proofs.Common.{ap, ◌∙◌, arith, length-set, get_or-set_same, get_or-set_other}
use Rattle.std.proofs.lemmas.List.Edits.{sets}
use Rattle.bits.specs.Bits.{list_of}

-- ---- a list of f 0, f 1, ..

pub length_list_of : {A : Type 0} (n : ℕ) (f : ℕ → A) → length (list_of n f) ≡ n
unfolding list_of
length_list_of zero f = refl
length_list_of (suc n) f = ap suc (length_list_of n (λ i. f (suc i)))

pub get_d_list_of : {A : Type 0} (n : ℕ) (f : ℕ → A) (i : ℕ) (d : A) → i < n → get_or (list_of n f) i d ≡ f i
unfolding list_of
get_d_list_of zero f i d h = absurd (omega arith)
get_d_list_of (suc n) f zero d h = refl
get_d_list_of (suc n) f (suc i) d h = get_d_list_of n (λ j. f (suc j)) i d (omega arith)

pub list_of_same : {A : Type 0} (n : ℕ) (f g : ℕ → A) → ((i : ℕ) → i < n → f i ≡ g i) → list_of n f ≡ list_of n g
unfolding list_of
list_of_same zero f g h = refl
list_of_same (suc n) f g h =
    ap (λ x. x ∷ list_of n (λ i. f (suc i))) (h 0 (omega arith))
    ∙ ap (λ l. g 0 ∷ l) (list_of_same n (λ i. f (suc i)) (λ i. g (suc i)) (λ i l. h (suc i) (omega arith)))

-- ---- elements put at a place

pub set_append_add : {A : Type 0} (xs ys : List A) (n : ℕ) (a : A) → set (xs ++ ys) (length xs + n) a ≡ xs ++ set ys n a
set_append_add [] ys n a = ap (λ k. set ys k a) (omega arith)
set_append_add (x ∷ xs) ys n a =
    ap (λ k. set (x ∷ (xs ++ ys)) k a) {x = suc (length xs) + n} {y = suc (length xs + n)} (omega arith) ∙ ap (λ l. x ∷ l) (set_append_add xs ys n a)

module _ {A : Type 0} (d : A) where
  pub get_d_sets_before : (vs l : List A) (at p : ℕ) → p < at → get_or (sets l at vs) p d ≡ get_or l p d
  get_d_sets_before [] l at p h = refl
  get_d_sets_before (v ∷ vs) l at p h = get_d_sets_before vs (set l at v) (suc at) p (omega arith) ∙ get_or-set_other l at p v d (omega arith)

  pub get_d_sets_after : (vs l : List A) (at p : ℕ) → at + length vs ≤ p → get_or (sets l at vs) p d ≡ get_or l p d
  get_d_sets_after [] l at p h = refl
  get_d_sets_after (v ∷ vs) l at p h = get_d_sets_after vs (set l at v) (suc at) p (omega arith) ∙ get_or-set_other l at p v d (omega arith)

  pub get_d_sets_in : (vs l : List A) (at k : ℕ) → k < length vs → at + k < length l → get_or (sets l at vs) (at + k) d ≡ get_or vs k d
  get_d_sets_in [] l at k h g = absurd (omega arith)
  get_d_sets_in (v ∷ vs) l at zero h g =
      ap (λ p. get_or (sets (set l at v) (suc at) vs) p d) {x = at + 0} {y = at} (omega arith)
      ∙ get_d_sets_before vs (set l at v) (suc at) at (omega arith) ∙ get_or-set_same l at v d (omega arith)
  get_d_sets_in (v ∷ vs) l at (suc k) h g =
      ap (λ p. get_or (sets (set l at v) (suc at) vs) p d) {x = at + suc k} {y = suc at + k} (omega arith)
      ∙ get_d_sets_in vs (set l at v) (suc at) k (omega arith) (omega (arith, length-set l at v))

-- a run after another
pub sets_append : {A : Type 0} (xs ys l : List A) (at : ℕ) → sets l at (xs ++ ys) ≡ sets (sets l at xs) (at + length xs) ys
sets_append [] ys l at = ap (λ k. sets l k ys) (omega arith)
sets_append (x ∷ xs) ys l at = sets_append xs ys (set l at x) (suc at) ∙ ap (λ k. sets (sets (set l at x) (suc at) xs) k ys) (omega arith)
