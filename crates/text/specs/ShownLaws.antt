-- Laws of texts that are put one after the other.
use Rattle.std.specs.Prelude.{◌≡◌, refl, List, [], ◌∷◌, ◌++◌, ℕ, zero, suc, ◌+◌, ◌≤◌, min, take, length, eqb, cond, Bool, true, false, Result, Ok, Err, IsOk, OnOk}
use Rattle.std.proofs.Common.{sym, ap, ◌∙◌, append_assoc, append-nil, arith, take_all, length-take}
use Rattle.std.proofs.lemmas.List.{take_min}
use Rattle.std.proofs.Math.Seq.{take-append-add}
use Rattle.sheet.specs.declared.Sheet.{Sheet}
use Rattle.sheet.specs.Tasks.{chain_count as sheet_count}
use Rattle.text.specs.Shown.{joined, chain_count}
use Rattle.text.specs.Conditions.{Puts}

-- one more at the end
joined_suc : (f : ℕ → List ℕ) (i k : ℕ) → joined f i (suc k) ≡ joined f i k ++ f (i + k)
unfolding joined
joined_suc f i zero = append-nil (f i) ∙ ap f {x = i} {y = i + 0} (omega arith)
joined_suc f i (suc k) =
    ap (λ l. f i ++ l) (joined_suc f (suc i) k ∙ ap (λ j. joined f (suc i) k ++ f j) {x = suc i + k} {y = i + suc k} (omega arith))
    ∙ sym (append_assoc (f i) (joined f (suc i) k) (f (i + suc k)))

pub joined_snoc : (f : ℕ → List ℕ) (k : ℕ) → joined f 0 k ++ f k ≡ joined f 0 (k + 1)
joined_snoc f k =
    ap (λ j. joined f 0 k ++ f j) {x = k} {y = 0 + k} (omega arith) ∙ sym (joined_suc f 0 k) ∙ ap (joined f 0) {x = suc k} {y = k + 1} (omega arith)

-- ---- what is put on a page

front_more : (n : ℕ) (a b : List ℕ) → take n (take n a ++ b) ≡ take n (a ++ b)
front_more zero a b = refl
front_more (suc n) [] b = refl
front_more (suc n) (x ∷ a) b = ap (λ l. x ∷ l) (front_more n a b)

pub puts_none : {s : List ℕ} → Puts s [] s
puts_none {s} = record { front = sym (ap (take 4096) (append-nil s)) }

pub puts_is : {s a b t : List ℕ} → a ≡ b → Puts s a t → Puts s b t
puts_is {s} q h = record { front = h.front ∙ ap (λ x. take 4096 (s ++ x)) q }

pub puts_more : {s a b t u : List ℕ} → Puts s a t → Puts t b u → Puts s (a ++ b) u
puts_more {s} {a} {b} {t} {u} h g =
    record { front = g.front ∙ sym (front_more 4096 t b) ∙ ap (λ x. take 4096 (x ++ b)) h.front ∙ front_more 4096 (s ++ a) b ∙ ap (take 4096) (append_assoc s a b) }

pub puts_on : {s t u : List ℕ} (f : ℕ → List ℕ) (k : ℕ) → Puts s (joined f 0 k) t → Puts t (f k) u → Puts s (joined f 0 (k + 1)) u
puts_on f k h g = puts_is (joined_snoc f k) (puts_more h g)

-- What there is room for is put, and no more shows.
pub puts_room : (s b t : List ℕ) (left room : ℕ) → left + length s ≡ 4096 → room ≡ min left (length b) → t ≡ s ++ take room b → Puts s b t
puts_room s b t left room h q e =
    record {
      front =
          ap (take 4096) (e ∙ ap (λ k. s ++ take k b) q ∙ ap (λ x. s ++ x) (take_min left b))
          ∙ ap (λ n. take n (s ++ take left b)) {x = 4096} {y = length s + left} (omega arith)
          ∙ take-append-add s (take left b) left
          ∙ ap (λ x. s ++ x) (take_all left (take left b) (omega (arith, length-take left b)))
          ∙ sym (take-append-add s b left)
          ∙ ap (λ n. take n (s ++ b)) {x = length s + left} {y = 4096} (omega arith);
    }

-- A text that is put first, and has room, is the page.
pub puts_whole : {s a t : List ℕ} → s ≡ [] → length a ≤ 4096 → Puts s a t → take 4096 t ≡ a
puts_whole {s} {a} e short h = h.front ∙ ap (λ x. take 4096 (x ++ a)) e ∙ take_all 4096 a short

pub on_fine : {A E P : Type 0} (r : Result A E) → IsOk r → OnOk r P → P
on_fine (Ok x) q p = p
on_fine (Err e) q p = cc

pub count_is : (s : Sheet) → min (sheet_count s) 8 ≡ chain_count s
count_is s = go (eqb s.edition 1)
  where
    go : (b : Bool) → min (cond b 1 s.suite) 8 ≡ cond b 1 (min s.suite 8)
    go true = refl
    go false = refl
