-- What the words of a shown text say.
use Rattle.std.specs.Prelude.{◌≡◌, Bool, true, false, not, List, [], ◌∷◌, ◌++◌, ltb, eqb, length, get_or, Some, None}
use Rattle.std.specs.Str.{bytes_eq}
use Rattle.std.proofs.Math.Path.{refl, ap}
use Rattle.std.proofs.Common.{sym, ap₂, ◌∙◌, arith, ne_eqb, ltb-false}
use Rattle.std.proofs.lemmas.Slice.Eq.{bytes_eq-Decides}
use Rattle.std.proofs.Math.Bool.{cond}
use Prim.Native.Nat.{ℕ, zero, suc, ◌≤◌, ◌<◌, min}
use Rattle.std.proofs.Math.Decide.{ℕ_discrete}
use Rattle.text.specs.Shown.{numeral, task_word}
use Rattle.text.specs.declared.Word.TheVariants.{Number, Known, New, Other}
use Rattle.text.specs.Words.{ends, every, between, digit, name_byte, number, index, keyword, name_says, or_says, says}
use Rattle.text.specs.NumeralLaws.{numeral_digits, numeral_says, numeral_long}
use Rattle.text.specs.RunWords.{Plain}

-- ---- digits

pub digit_range : (b : ℕ) → digit b ≡ true → (48 ≤ b) × (b ≤ 57)
digit_range b e = go (ltb b 48) refl (ltb 57 b) refl e
  where
    go : (s : Bool) → ltb b 48 ≡ s → (t : Bool) → ltb 57 b ≡ t → cond s false (cond t false true) ≡ true → (48 ≤ b) × (b ≤ 57)
    go true p t q h = let z : ◌≡◌ {A = ℕ} 0 1 = cc in absurd (omega arith)
    go false p true q h = let z : ◌≡◌ {A = ℕ} 0 1 = cc in absurd (omega arith)
    go false p false q h = (ltb-false b 48 p, ltb-false 57 b q)

digit_plain : (b : ℕ) → digit b ≡ true → ends b ≡ false
digit_plain b e =
    let r = digit_range b e in
    ap₂ (λ s t. cond s true (cond t true (cond (eqb b 13) true (cond (eqb b 10) true (eqb b 35))))) (ne_eqb b 32 (λ q. omega arith)) (ne_eqb b 9 (λ q. omega arith))
    ∙ ap₂ (λ s t. cond s true (cond t true (eqb b 35))) (ne_eqb b 13 (λ q. omega arith)) (ne_eqb b 10 (λ q. omega arith))
    ∙ ne_eqb b 35 (λ q. omega arith)

digit_name : (b : ℕ) → digit b ≡ true → name_byte b ≡ true
digit_name b e = ap (λ t. cond t true (cond (between 65 90 b) true (cond (between 97 122 b) true (cond (eqb b 45) true (eqb b 95))))) e

-- what passes one test passes another that is weaker
every_weaker : (f g : ℕ → Bool) → ((b : ℕ) → f b ≡ true → g b ≡ true) → (w : List ℕ) → every f w ≡ true → every g w ≡ true
unfolding every
every_weaker f g h [] e = refl
every_weaker f g h (b ∷ w) e = go (f b) refl e (every_weaker f g h w)
  where
    go : (t : Bool) → f b ≡ t → cond t (every f w) false ≡ true → (every f w ≡ true → every g w ≡ true) → cond (g b) (every g w) false ≡ true
    go true p q later = ap₂ (λ s t. cond s t false) (h b p) (later q)
    go false p q later = let z : ◌≡◌ {A = ℕ} 0 1 = cc in absurd (omega arith)

pub numeral_plain : (n : ℕ) → Plain (numeral n)
numeral_plain n = every_weaker digit (λ b. not (ends b)) (λ b e. ap not (digit_plain b e)) (numeral n) (numeral_digits n)

numeral_name : (n : ℕ) → every name_byte (numeral n) ≡ true
numeral_name n = every_weaker digit name_byte digit_name (numeral n) (numeral_digits n)

-- ---- a number

no_keyword : (w : List ℕ) → every digit w ≡ true → keyword w ≡ None
unfolding every
no_keyword [] e = refl
no_keyword (b ∷ w) e =
    let r = digit_range b (first (digit b) refl e) in
    rw (ne_eqb b 101 (λ q. omega arith), ne_eqb b 116 (λ q. omega arith), ne_eqb b 112 (λ q. omega arith), ne_eqb b 98 (λ q. omega arith), ne_eqb b 114 (λ q. omega arith), ne_eqb b 99 (λ q. omega arith), ne_eqb b 108 (λ q. omega arith))
  where
    first : (t : Bool) → digit b ≡ t → cond t (every digit w) false ≡ true → digit b ≡ true
    first true p q = p
    first false p q = let z : ◌≡◌ {A = ℕ} 0 1 = cc in absurd (omega arith)

pub says_number : (names : List (List ℕ)) (count n : ℕ) → n ≤ 4294967295 → says names count (numeral n) ≡ Number n
unfolding says
says_number names count n h =
    ap (λ k. or_says k (cond (every digit w) (Number (number 0 w)) (cond (every name_byte w) (name_says (index names (min count 16) w)) Other))) (no_keyword w (numeral_digits n))
    ∙ ap₂ (λ t v. cond t (Number v) (cond (every name_byte w) (name_says (index names (min count 16) w)) Other)) (numeral_digits n) (numeral_says n h)
  where
    w : List ℕ
    w = numeral n

-- ---- a task's name

abbrev pub task_name : ℕ → List ℕ
task_name i = task_word ++ numeral i

pub name_plain : (i : ℕ) → Plain (task_name i)
unfolding every
name_plain i = numeral_plain i

-- two tasks have different names
names_differ : (i j : ℕ) → i ≤ 4294967295 → j ≤ 4294967295 → (i ≡ j → ⊥) → bytes_eq (task_name i) (task_name j) ≡ false
names_differ i j a b h = go (bytes_eq (numeral i) (numeral j)) refl
  where
    go : (t : Bool) → bytes_eq (numeral i) (numeral j) ≡ t → t ≡ false
    go true e = absurd (h (sym (numeral_says i a) ∙ ap (number 0) ((bytes_eq-Decides (numeral i) (numeral j)).0 e) ∙ numeral_says j b))
    go false e = refl

name_keyword : (i : ℕ) → keyword (task_name i) ≡ None
name_keyword i = go (numeral i) (numeral_long i)
  where
    go : (w : List ℕ) → 1 ≤ length w → keyword (task_word ++ w) ≡ None
    go [] l = absurd (omega arith)
    go (b ∷ w) l = refl

says_name : (names : List (List ℕ)) (count i : ℕ) → says names count (task_name i) ≡ name_says (index names (min count 16) (task_name i))
unfolding says every
says_name names count i =
    ap (λ k. or_says k (cond (every name_byte (task_name i)) (name_says (index names (min count 16) (task_name i))) Other)) (name_keyword i)
    ∙ ap (λ t. cond t (name_says (index names (min count 16) (task_name i))) Other) (numeral_name i)

module _ (names : List (List ℕ)) (k : ℕ) (few : k ≤ 4294967295) (known : (j : ℕ) → j < k → get_or names j [] ≡ task_name j) where
  index_new : (n i : ℕ) → n ≤ k → n ≤ i → i ≤ 4294967295 → index names n (task_name i) ≡ None
  unfolding index
  index_new zero i a b c = refl
  index_new (suc n) i a b c =
      ap (λ t. cond t (Some n) (index names n (task_name i))) (ap (λ w. bytes_eq w (task_name i)) (known n (omega arith)) ∙ names_differ n i (omega arith) c (λ e. omega arith))
      ∙ index_new n i (omega arith) (omega arith) c

  index_old : (n i : ℕ) → n ≤ k → i < n → index names n (task_name i) ≡ Some i
  unfolding index
  index_old zero i a b = absurd (omega arith)
  index_old (suc n) i a b = go (ℕ_discrete n i) (index_old n i)
    where
      go : Dec (n ≡ i) → (n ≤ k → i < n → index names n (task_name i) ≡ Some i) → cond (bytes_eq (get_or names n []) (task_name i)) (Some n) (index names n (task_name i)) ≡ Some i
      go (yes e) later =
          ap (λ t. cond t (Some n) (index names n (task_name i))) (ap (λ w. bytes_eq w (task_name i)) (known n (omega arith) ∙ ap task_name e) ∙ (bytes_eq-Decides (task_name i) (task_name i)).1 refl) ∙ ap Some e
      go (no e) later =
          ap (λ t. cond t (Some n) (index names n (task_name i))) (ap (λ w. bytes_eq w (task_name i)) (known n (omega arith)) ∙ names_differ n i (omega arith) (omega arith) e)
          ∙ later (omega arith) (omega arith)

  pub says_new : k ≤ 4294967294 → says names k (task_name k) ≡ New
  says_new h = says_name names k k ∙ ap name_says (index_new (min k 16) k (omega arith) (omega arith) few)

  pub says_known : (i : ℕ) → i < k → k ≤ 16 → says names k (task_name i) ≡ Known i
  says_known i l m = says_name names k i ∙ ap name_says (index_old (min k 16) i (omega arith) (omega arith))
