-- Laws of places that are filled one after the other.
use Rattle.std.specs.Prelude.{◌≡◌, refl, cond, List, [], ◌∷◌, ◌++◌, ℕ, zero, suc, ◌+◌, ◌<◌, ◌≤◌, min, ltb, length, get_or, set, take, drop}
use Rattle.std.proofs.Common.{sym, ap, ◌∙◌, arith, lt-ltb, ext_get_or, length-set}
use Rattle.std.proofs.lemmas.List.{set_past}
use Rattle.std.proofs.lemmas.List.Edits.{sets}
use Rattle.std.proofs.Math.Seq.{length-sets}
use Rattle.bits.specs.Bits.{list_of}
use Rattle.bits.specs.Lists.{length_list_of, get_d_list_of, list_of_same}
use Rattle.sheet.specs.Calls.{places}

sets_from : {A : Type 0} (at i : ℕ) (f : ℕ → A) (old : List A) → set (sets old at (list_of i f)) (at + i) (f i) ≡ sets old at (list_of (suc i) f)
unfolding list_of
sets_from at zero f old = ap (λ k. set old k (f 0)) (omega arith)
sets_from at (suc i) f old =
    ap (λ k. set (sets (set old at (f 0)) (suc at) (list_of i (λ j. f (suc j)))) k (f (suc i))) (omega arith) ∙ sets_from (suc at) i (λ j. f (suc j)) (set old at (f 0))

-- one place more
pub filled_more : {A : Type 0} (i : ℕ) (f : ℕ → A) (old : List A) {now next : List A}
    → next ≡ set now i (f i) → now ≡ sets old 0 (list_of i f) → next ≡ sets old 0 (list_of (i + 1) f)
filled_more i f old e h =
    e ∙ ap (λ l. set l i (f i)) h ∙ ap (λ k. set (sets old 0 (list_of i f)) k (f i)) (omega arith) ∙ sets_from 0 i f old ∙ ap (λ k. sets old 0 (list_of k f)) (omega arith)

-- no place is made
pub filled_length : {A : Type 0} (i : ℕ) (f : ℕ → A) (old : List A) {now : List A} → now ≡ sets old 0 (list_of i f) → length now ≡ length old
filled_length i f old h = ap length h ∙ length-sets old 0 (list_of i f)

-- So many places that are taken one after the other.
pub places_all : {A : Type 0} (n : ℕ) (blank : A) (f : ℕ → A) {i : ℕ} {l : List A} → l ≡ places n blank i f → i ≡ n → l ≡ list_of n f
places_all n blank f h e =
    h ∙ ap (λ k. places n blank k f) e
    ∙ list_of_same n (λ i. cond (ltb i n) (f i) blank) f (λ i l. ap (λ b. cond b (f i) blank) (lt-ltb i n l))

-- ---- items at the front of a slice, as many as it has places for

sets_cons : {A : Type 0} (x : A) (l vs : List A) (at : ℕ) → sets (x ∷ l) (suc at) vs ≡ x ∷ sets l at vs
sets_cons x l [] at = refl
sets_cons x l (v ∷ vs) at = sets_cons x (set l at v) vs (suc at)

-- past the last place there is none
sets_past : {A : Type 0} (vs l : List A) (at : ℕ) → length l ≤ at → sets l at vs ≡ l
sets_past [] l at h = refl
sets_past (v ∷ vs) l at h = sets_past vs (set l at v) (suc at) (omega (arith, length-set l at v)) ∙ set_past l at v h

pub stored : {A : Type 0} (n : ℕ) (vs l : List A) → n ≡ min (length vs) (length l) → take n vs ++ drop n l ≡ sets l 0 vs
stored zero [] l e = refl
stored (suc n) [] l e = absurd (omega arith)
stored zero (v ∷ vs) [] e = sym (sets_past (v ∷ vs) [] 0 (omega arith))
stored (suc n) (v ∷ vs) [] e = absurd (omega arith)
stored zero (v ∷ vs) (x ∷ l) e = absurd (omega arith)
stored (suc n) (v ∷ vs) (x ∷ l) e = ap (λ m. v ∷ m) (stored n vs l (omega arith)) ∙ sym (sets_cons v l vs 0)

short : {A : Type 0} (n k : ℕ) (f : ℕ → A) (l : List A) (at : ℕ) → k ≤ n → (k < n → length l ≤ at + k) → sets l at (list_of k f) ≡ sets l at (list_of n f)
unfolding list_of
short zero zero f l at h g = refl
short zero (suc k) f l at h g = absurd (omega arith)
short (suc n) zero f l at h g = sym (sets_past (list_of (suc n) f) l at (omega (arith, g (omega arith))))
short (suc n) (suc k) f l at h g = short n k (λ i. f (suc i)) (set l at (f 0)) (suc at) (omega arith) (λ q. omega (arith, length-set l at (f 0), g (omega arith)))

pub filled_short : {A : Type 0} (n k : ℕ) (f : ℕ → A) (old : List A) → k ≡ min (length old) n → sets old 0 (list_of k f) ≡ sets old 0 (list_of n f)
filled_short n k f old e = short n k f old 0 (omega arith) (λ q. omega arith)

-- ---- lists by their elements

pub each_is : {A : Type 0} (n : ℕ) (f : ℕ → A) (d : A) {l : List A} → length l ≡ n → ((i : ℕ) → i < n → get_or l i d ≡ f i) → l ≡ list_of n f
each_is n f d {l = l} long at = ext_get_or d l (list_of n f) (long ∙ sym (length_list_of n f)) (λ i h. at i (omega arith) ∙ sym (get_d_list_of n f i d (omega arith)))
