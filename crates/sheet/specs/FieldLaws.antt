-- Laws of one field: its width, and one value among others.
use Rattle.std.specs.Prelude.{◌≡◌, refl, Bool, true, false, cond, ◌||◌, List, [], ◌∷◌, ℕ, zero, suc, ◌-◌, ◌≤◌, ◌<◌, eqb, length, get_or, take}
use Rattle.std.specs.List.{list_any}
use Rattle.std.proofs.Common.{ap, ap₂, ◌∙◌, arith, eq-eqb, ne_eqb}
use Rattle.sheet.specs.declared.Field.{Field}
use Rattle.sheet.specs.declared.Field.TheVariants.{Mark, Edition, Count, Period, Budget, Rank, Chains, Limit, Length, Entry}
use Rattle.sheet.specs.Fields.{width, among}

pub width_small : (f : Field) → (0 < width f) × (width f ≤ 22)
width_small Mark = (omega arith, omega arith)
width_small Edition = (omega arith, omega arith)
width_small Count = (omega arith, omega arith)
width_small (Period i) = (omega arith, omega arith)
width_small (Budget i) = (omega arith, omega arith)
width_small (Rank i) = (omega arith, omega arith)
width_small Chains = (omega arith, omega arith)
width_small (Limit c) = (omega arith, omega arith)
width_small (Length c) = (omega arith, omega arith)
width_small (Entry c i) = (omega arith, omega arith)

-- ---- one value among others

pub among_here : (f : ℕ → ℕ) (i v : ℕ) → 0 < i → f (i - 1) ≡ v → among f i v ≡ true
unfolding among
among_here f zero v h e = absurd (omega arith)
among_here f (suc i) v h e = ap (λ b. cond b true (among f i v)) (eq-eqb (f i) v (ap f (omega arith) ∙ e))

pub among_past : (f : ℕ → ℕ) (i v : ℕ) → 0 < i → (f (i - 1) ≡ v → ⊥) → among f i v ≡ among f (i - 1) v
unfolding among
among_past f zero v h e = absurd (omega arith)
among_past f (suc i) v h e = ap (λ b. cond b true (among f i v)) (ne_eqb (f i) v (λ q. e (ap f {x = suc i - 1} {y = i} (omega arith) ∙ q))) ∙ ap (λ j. among f j v) {x = i} {y = suc i - 1} (omega arith)

pub among_none : (f : ℕ → ℕ) (i v : ℕ) → i ≡ 0 → among f i v ≡ false
unfolding among
among_none f i v e = ap (λ j. among f j v) e

-- by a list of the values
or_turned : (a b c : Bool) → cond a true (b || c) ≡ (b || cond a true c)
or_turned true true c = refl
or_turned true false c = refl
or_turned false b c = refl

or_none : (b : Bool) → cond b true false ≡ (b || false)
or_none true = refl
or_none false = refl

among_front : (f : ℕ → ℕ) (i v : ℕ) → among f (suc i) v ≡ (eqb (f 0) v || among (λ j. f (suc j)) i v)
unfolding among
among_front f zero v = or_none (eqb (f 0) v)
among_front f (suc i) v = ap (cond (eqb (f (suc i)) v) true) (among_front f i v) ∙ or_turned (eqb (f (suc i)) v) (eqb (f 0) v) (among (λ j. f (suc j)) i v)

pub among_list : {A : Type 0} (g : A → ℕ) (d : A) (xs : List A) (i v : ℕ) → i ≤ length xs → among (λ j. g (get_or xs j d)) i v ≡ list_any (λ x. eqb (g x) v) (take i xs)
unfolding among
among_list g d xs zero v h = refl
among_list g d [] (suc i) v h = absurd (omega arith)
among_list g d (x ∷ xs) (suc i) v h = among_front (λ j. g (get_or (x ∷ xs) j d)) i v ∙ ap (λ b. eqb (g x) v || b) (among_list g d xs i v (omega arith))

pub among_same : (f g : ℕ → ℕ) (i v : ℕ) → ((j : ℕ) → j < i → f j ≡ g j) → among f i v ≡ among g i v
unfolding among
among_same f g zero v h = refl
among_same f g (suc i) v h = ap₂ (λ x b. cond (eqb x v) true b) (h i (omega arith)) (among_same f g i v (λ j l. h j (omega arith)))

-- a value that repeats none before it, where those up to it are the same
pub fresh_same : (f g : ℕ → ℕ) (i : ℕ) → ((j : ℕ) → j ≤ i → f j ≡ g j) → among f i (f i) ≡ among g i (g i)
fresh_same f g i h = ap (among f i) (h i (omega arith)) ∙ among_same f g i (g i) (λ j l. h j (omega arith))
