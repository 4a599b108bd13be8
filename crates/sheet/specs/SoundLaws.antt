-- A sheet that is judged fine has the numbers that are allowed, and so they fit their fields.
use Rattle.std.specs.Prelude.{◌≡◌, refl, ◌≢◌, Bool, true, false, cond, ℕ, zero, suc, ◌^◌, ◌≤◌, ◌<◌, ltb, leb, eqb}
use Rattle.std.proofs.Common.{sym, ap, ◌∙◌, arith, ltb-false, leb-false, eqb-true}
use Rattle.std.proofs.Math.Decide.{dec_lt}
use Rattle.std.proofs.lemmas.Bool.{eqb-false}
use Rattle.sheet.specs.declared.Sheet.{Sheet}
use Rattle.sheet.specs.declared.Field.{Field}
use Rattle.sheet.specs.declared.Field.TheVariants.{Mark, Edition, Count, Period, Budget, Rank, Chains, Limit, Length, Entry}
use Rattle.answers.specs.Answers.{fine, when}
use Rattle.answers.specs.AnswerLaws.{when_fine, also_given}
use Rattle.sheet.specs.Fields.{Values, Kind, old, new, kind_of, chains, fields, width, value, outside, among, judged, in_order}
use Rattle.sheet.specs.Calls.{judged_on, judge_of}
use Rattle.sheet.specs.EachLaws.{If, On, all_map, all_each}
use Rattle.sheet.specs.InOrderLaws.{with_offset_fine, in_order_fine}
use Rattle.sheet.specs.Sound.{Within, Sound}

-- ---- from a judgement to its fact

pub inside : (low high v : ℕ) → outside low high v ≡ false → (low ≤ v) × (v ≤ high)
inside low high v e = go (ltb v low) refl e
  where
    go : (b : Bool) → ltb v low ≡ b → cond b true (ltb high v) ≡ false → (low ≤ v) × (v ≤ high)
    go true q h = let z : ◌≡◌ {A = ℕ} 0 1 = cc in absurd (omega arith)
    go false q h = (ltb-false v low q, ltb-false high v h)

not_among : (f : ℕ → ℕ) (i v : ℕ) → among f i v ≡ false → (j : ℕ) → j < i → f j ≢ v
unfolding among
not_among f (suc i) v e j l q = go (eqb (f i) v) refl e (not_among f i v)
  where
    go : (b : Bool) → eqb (f i) v ≡ b → cond b true (among f i v) ≡ false → (among f i v ≡ false → (k : ℕ) → k < i → f k ≢ v) → ⊥
    go true p h rest = let z : ◌≡◌ {A = ℕ} 0 1 = cc in omega arith
    go false p h rest = pick (dec_lt j i)
      where
        pick : Dec (j < i) → ⊥
        pick (yes k) = rest h j k q
        pick (no k) = eqb-false (f i) v p (ap f {x = i} {y = j} (omega arith) ∙ q)
not_among f zero v e j l q = elim l [ ]

-- values that none repeats among those before it are all different
all_differ : (f : ℕ → ℕ) (n : ℕ) → ((i : ℕ) → i < n → among f i (f i) ≡ false) → (i j : ℕ) → i < n → j < n → f i ≡ f j → i ≡ j
all_differ f n h i j a b e = go (dec_lt i j) (dec_lt j i)
  where
    go : Dec (i < j) → Dec (j < i) → i ≡ j
    go (yes l) m = absurd (not_among f j (f j) (h j b) i l e)
    go (no l) (yes m) = absurd (not_among f i (f i) (h i a) j m (sym e))
    go (no l) (no m) = omega arith

-- ---- the values

pub judged_each : (v : Values) → in_order (judged_on v) 0 (fields v) ≡ fine → (f : Field) → On (kind_of v) v f → judged (kind_of v) v f ≡ fine
judged_each v e =
    let kind = kind_of v in
    all_each (λ f. judged kind v f ≡ fine) kind v
    (all_map (λ f. (at : ℕ) × (judged_on v at f ≡ fine)) (λ f. judged kind v f ≡ fine) (fields v) (λ f h. with_offset_fine h.0 (judged kind v f) h.1)
    (in_order_fine (judged_on v) (fields v) 0 e))

pub judged_within : (v : Values) → in_order (judged_on v) 0 (fields v) ≡ fine → Within (kind_of v) v
judged_within v e =
    record {
      edition_is = λ u. let r = inside 2 2 (v Edition) (when_fine _ 16 (each Edition u)) in omega (arith, r);
      count_least = count.0;
      count_most = count.1;
      period_least = λ i l. (period i l).0;
      period_most = λ i l. (period i l).1;
      budget_least = λ i l. (budget i l).0;
      budget_most = λ i l. (budget i l).1;
      ranks_differ = all_differ (λ i. v (Rank i)) (v Count) (λ i l. when_fine _ 5 (each (Rank i) (omega (arith, count))));
      chains_least = (several kind (each Chains)).0;
      chains_are = (several kind (each Chains)).1;
      limit_most = λ c u l. (inside 0 4000000 (v (Limit c)) (when_fine _ 13 (each (Limit c) (u, l)))).1;
      length_least = λ c l. (long c l).0;
      length_most = λ c l. (long c l).1;
      entry_below = λ c i l g. leb-false (v Count) (v (Entry c i)) (when_fine _ 7 (entry c i l g).0);
      entries_differ = λ c l. all_differ (λ i. v (Entry c i)) (v (Length c)) (λ i g. when_fine _ 8 (entry c i l g).1);
    }
  where
    kind : Kind
    kind = kind_of v

    each : (f : Field) → On kind v f → judged kind v f ≡ fine
    each = judged_each v e

    count : (1 ≤ v Count) × (v Count ≤ 16)
    count = inside 1 16 (v Count) (when_fine _ 2 (each Count tt))

    period : (i : ℕ) → i < v Count → (1 ≤ v (Period i)) × (v (Period i) ≤ 100000)
    period i l = inside 1 100000 (v (Period i)) (when_fine _ 3 (each (Period i) (omega (arith, count))))

    budget : (i : ℕ) → i < v Count → (1 ≤ v (Budget i)) × (v (Budget i) ≤ v (Period i))
    budget i l = inside 1 (v (Period i)) (v (Budget i)) (when_fine _ 4 (each (Budget i) (omega (arith, count))))

    several : (k : Kind) → (If k → judged kind v Chains ≡ fine) → (1 ≤ chains k v) × (If k → chains k v ≡ v Chains)
    several old h = (omega arith, λ u. absurd u)
    several new h = let r = inside 1 8 (v Chains) (when_fine _ 17 (h tt)) in (omega (arith, r), λ u. omega (arith, r))

    long : (c : ℕ) → c < chains kind v → (1 ≤ v (Length c)) × (v (Length c) ≤ v Count)
    long c l = inside 1 (v Count) (v (Length c)) (when_fine _ 6 (each (Length c) l))

    on : (c i : ℕ) → c < chains kind v → i < v (Length c) → On kind v (Entry c i)
    on c i l g = (l, omega (arith, long c l, count))

    entry : (c i : ℕ) → c < chains kind v → i < v (Length c)
        → (when (leb (v Count) (v (Entry c i))) 7 ≡ fine) × (when (among (λ j. v (Entry c j)) i (v (Entry c i))) 8 ≡ fine)
    entry c i l g = also_given (when (leb (v Count) (v (Entry c i))) 7) (when (among (λ j. v (Entry c j)) i (v (Entry c i))) 8) (each (Entry c i) (on c i l g))

-- ---- the sheet

pub judged_sound : (s : Sheet) → judge_of s ≡ fine → Sound s
unfolding judge_of
judged_sound s e = judged_within (value s) e

-- ---- every value fits its field

-- the mark of a new sheet
pub mark_is : (v : Values) → If (kind_of v) → v Mark ≡ 31
mark_is v u = go (eqb (v Mark) 31) refl u
  where
    go : (b : Bool) → eqb (v Mark) 31 ≡ b → If (cond b new old) → v Mark ≡ 31
    go true e u = eqb-true (v Mark) 31 e
    go false e u = elim u [ ]

pub values_fit : (kind : Kind) (v : Values) → Within kind v → (If kind → v Mark ≡ 31) → ((i : ℕ) → v (Rank i) < 256) → (f : Field) → On kind v f → v f < 2 ^ width f
values_fit kind v s mark ranks Mark o = omega (arith, mark o)
values_fit kind v s mark ranks Edition o = omega (arith, s.edition_is o)
values_fit kind v s mark ranks Count o = omega (arith, s.count_most)
values_fit kind v s mark ranks (Period i) o = omega (arith, s.period_most i (omega arith))
values_fit kind v s mark ranks (Budget i) o = omega (arith, s.budget_most i (omega arith), s.period_most i (omega arith))
values_fit kind v s mark ranks (Rank i) o = ranks i
values_fit new v s mark ranks Chains o = omega (arith, s.chains_are o)
values_fit kind v s mark ranks (Limit c) o = omega (arith, s.limit_most c o.0 o.1)
values_fit kind v s mark ranks (Length c) o = omega (arith, s.length_most c o, s.count_most)
values_fit kind v s mark ranks (Entry c i) o = omega (arith, s.entry_below c i o.0 (omega (arith, o.1)), s.count_most)
values_fit old v s mark ranks Chains o = elim o [ ]
