-- There and back: an old sheet as one of the second edition and back is written as the same bytes, and so is one of the second edition
-- with one chain under 1,000; no other goes back.
use Rattle.std.specs.Prelude.{◌≡◌, ◌≢◌, ◌↔◌, ◌⊎◌, Bool, true, false, cond, [], leb, eqb, length, get_or, take}
use Rattle.std.proofs.Math.Path.{refl, ap, subst}
use Rattle.std.proofs.Common.{sym, ap₂, ◌∙◌, inl, inr, arith, length-set, get_or-set_same, le-ltb, eq-eqb, ne_eqb}
use Prim.Native.Nat.{ℕ, ◌≤◌, ◌<◌, min}
use Rattle.std.proofs.lemmas.Bool.{eqb-false}
use Rattle.bits.specs.Bits.{bytes_of}
use Rattle.theory.specs.Model.Schedule.{none}
use Rattle.answers.specs.Answers.{Answer, given, refused, Judgement, fine, when, also}
use Rattle.answers.specs.AnswerLaws.{refused_given}
use Rattle.sheet.specs.declared.Chain.{Chain}
use Rattle.sheet.specs.declared.Sheet.{Sheet}
use Rattle.sheet.specs.declared.Field.{Field}
use Rattle.sheet.specs.declared.Field.TheVariants.{Mark, Edition, Count, Period, Budget, Rank, Chains, Limit, Length, Entry}
use Rattle.sheet.specs.Fields.{new, old, kind_of, chains, entries, fields, idle, value, outside, among, judged, with_offset}
use Rattle.sheet.specs.Calls.{judged_on, judge_of, encoded}
use Rattle.sheet.specs.Conversions.{old_limit, limited, second, first, stays, to_second, to_first}
use Rattle.sheet.specs.Tasks.{tasks_of, chain_of, limit_of}
use Rattle.sheet.specs.EachLaws.{If, On, each_all}
use Rattle.sheet.specs.InOrderLaws.{fine_in_order}
use Rattle.sheet.specs.SoundLaws.{judged_each, judged_sound}
use Rattle.sheet.specs.NumberLaws.{judge_numbered}
use Rattle.sheet.specs.EncodedLaws.{bits_same}

-- The sheet with its first chain under this limit, in another edition.
abbrev converted : ℕ → ℕ → ℕ → Sheet → Sheet
converted edition suite limit s = record { tasks = s.tasks; chains = limited limit s; edition = edition; count = s.count; suite = suite }

-- Its first chain, under this limit.
abbrev one : Sheet → ℕ → Chain
one s limit = let c = get_or s.chains 0 idle in record { entries = c.entries; length = c.length; limit = limit }

module _ (s : Sheet) (some : 0 < length s.chains) where
  -- ---- what a conversion keeps

  limited_one : (limit : ℕ) → get_or (limited limit s) 0 idle ≡ one s limit
  limited_one limit = get_or-set_same s.chains 0 (one s limit) idle some

  -- the same tasks, the same chain, and the limit: "Old sheets convert in memory to one chain with limit 1,000"
  pub second_tasks : tasks_of (second s) ≡ tasks_of s
  unfolding tasks_of
  second_tasks = refl

  pub second_chain : chain_of (second s) 1 ≡ chain_of s 1
  second_chain = ap (λ c. take c.length c.entries) (limited_one old_limit)

  pub second_limit : limit_of (second s) 1 ≡ old_limit
  second_limit = ap (λ c. c.limit) (limited_one old_limit)

  pub first_tasks : tasks_of (first s) ≡ tasks_of s
  unfolding tasks_of
  first_tasks = refl

  pub first_chain : chain_of (first s) 1 ≡ chain_of s 1
  first_chain = ap (λ c. take c.length c.entries) (limited_one 0)

  -- ---- a sheet that is judged fine stays so

  module _ (edition suite limit : ℕ) (e : judge_of s ≡ fine) where
    abbrev t : Sheet
    t = converted edition suite limit s

    each : (f : Field) → On (kind_of (value s)) (value s) f → judged (kind_of (value s)) (value s) f ≡ fine
    unfolding judge_of
    each = judged_each (value s) e

    some_chain : 0 < chains (kind_of (value s)) (value s)
    some_chain = (judged_sound s e).chains_least

    converted_judged : chains (kind_of (value t)) (value t) ≡ 1 → (If (kind_of (value t)) → outside 2 2 edition ≡ false) → (If (kind_of (value t)) → outside 1 8 suite ≡ false) → limit ≤ 4000000 → judge_of t ≡ fine
    unfolding judge_of
    converted_judged alone second-edition counted allowed =
        fine_in_order (judged_on (value t)) (fields (value t)) 0
        (each_all (λ f. (at : ℕ) → judged_on (value t) at f ≡ fine) (kind_of (value t)) (value t) (λ f o at. ap (with_offset at) (judge f o)))
      where
        -- there is only chain one
        at_one : (P : ℕ → Type 0) (c : ℕ) → c < chains (kind_of (value t)) (value t) → P 0 → P c
        at_one P c l p = subst P {x = 0} {y = c} (omega (arith, alone)) p

        judge : (f : Field) → On (kind_of (value t)) (value t) f → judged (kind_of (value t)) (value t) f ≡ fine
        judge Mark o = refl
        judge Edition o = ap (λ b. when b 16) (second-edition o)
        judge Count o = each Count tt
        judge (Period i) o = each (Period i) o
        judge (Budget i) o = each (Budget i) o
        judge (Rank i) o = each (Rank i) o
        judge Chains o = ap (λ b. when b 17) (counted o)
        judge (Limit c) o =
            at_one (λ k. judged (kind_of (value t)) (value t) (Limit k) ≡ fine) c o.1
            (ap (λ c. when (outside 0 4000000 c.limit) 13) (limited_one limit)
            ∙ ap₂ (λ a b. when (cond a true b) 13) (le-ltb limit 0 (omega arith)) (le-ltb 4000000 limit allowed))
        judge (Length c) o =
            at_one (λ k. judged (kind_of (value t)) (value t) (Length k) ≡ fine) c o
            (ap (λ c. when (outside 1 s.count c.length) 6) (limited_one limit) ∙ each (Length 0) some_chain)
        judge (Entry c i) o =
            at_one (λ k. i < entries (value t) k → judged (kind_of (value t)) (value t) (Entry k i) ≡ fine) c o.0
            (λ l. ap (λ c. also (when (leb s.count (get_or c.entries i 0)) 7) (when (among (λ j. get_or c.entries j 0) i (get_or c.entries i 0)) 8)) (limited_one limit)
            ∙ each (Entry 0 i) (some_chain, omega (arith, ap (λ c. c.length) (limited_one limit))))
            o.1

  pub second_judged : judge_of s ≡ fine → judge_of (second s) ≡ fine
  second_judged e = converted_judged 2 1 old_limit e refl (λ u. refl) (λ u. refl) (omega arith)

  pub first_judged : judge_of s ≡ fine → judge_of (first s) ≡ fine
  first_judged e = converted_judged 1 0 0 e refl (λ u. absurd u) (λ u. absurd u) (omega arith)

-- ---- a sheet that differs from s in what it ignores is written alike

record Alike (s t : Sheet) : Type 0 where
  same_edition : t.edition ≡ s.edition
  same_tasks : s.tasks ≡ t.tasks
  same_count : s.count ≡ t.count
  same_length : value s (Length 0) ≡ value t (Length 0)
  same_entries : (i : ℕ) → value s (Entry 0 i) ≡ value t (Entry 0 i)
  one_chain : chains (kind_of (value s)) (value s) ≡ 1
  same_limit : If (kind_of (value s)) → (s.suite ≡ t.suite) × (value s (Limit 0) ≡ value t (Limit 0))

alike_written : (s t : Sheet) → Alike s t → encoded s ≡ encoded t
alike_written s t a = ap bytes_of (bits_same (value s) (value t) (ap (λ x. cond (eqb (cond (eqb x 1) 0 31) 31) new old) a.same_edition) same)
  where
    chain_one_lem : (P : ℕ → Type 0) (c : ℕ) → c < chains (kind_of (value s)) (value s) → P 0 → P c
    chain_one_lem P c l p = subst P {x = 0} {y = c} (omega (arith, a.one_chain)) p

    same : (f : Field) → On (kind_of (value s)) (value s) f → value s f ≡ value t f
    same Mark o = ap (λ x. cond (eqb x 1) 0 31) (sym a.same_edition)
    same Edition o = sym a.same_edition
    same Count o = a.same_count
    same (Period i) o = ap (λ ts. (get_or ts i none).period) a.same_tasks
    same (Budget i) o = ap (λ ts. (get_or ts i none).budget) a.same_tasks
    same (Rank i) o = ap (λ ts. (get_or ts i none).rank) a.same_tasks
    same Chains o = (a.same_limit o).0
    same (Limit c) o = chain_one_lem (λ k. value s (Limit k) ≡ value t (Limit k)) c o.1 (a.same_limit o.0).1
    same (Length c) o = chain_one_lem (λ k. value s (Length k) ≡ value t (Length k)) c o a.same_length
    same (Entry c i) o = chain_one_lem (λ k. value s (Entry k i) ≡ value t (Entry k i)) c o.0 (a.same_entries i)

-- chain one after two conversions
twice : (s : Sheet) → 0 < length s.chains → (edition suite x y : ℕ) → get_or (limited y (converted edition suite x s)) 0 idle ≡ one s y
twice s some edition suite x y =
    limited_one (converted edition suite x s) (omega (arith, length-set s.chains 0 (one s x))) y
    ∙ ap (λ c. record { entries = c.entries; length = c.length; limit = y }) (limited_one s some x)

-- ---- the theorems

-- An old sheet goes there and back, and is written as the same bytes.
pub there_and_back : (s : Sheet) → 0 < length s.chains → s.edition ≡ 1 → judge_of s ≡ fine
    → (to_second s ≡ given (second s)) × (to_first (second s) ≡ given (first (second s))) × (encoded s ≡ encoded (first (second s)))
unfolding to_second to_first
there_and_back s some e ok = (
  ap₂ (λ j b. also j (given (cond b (second s) s))) ok (eq-eqb s.edition 1 e),
  ap₂ (λ j l. also j (also (when (cond (eqb l old_limit) false true) 18) (given (first (second s))))) (second_judged s some ok) (second_limit s some),
  alike_written s (first (second s))
      (record {
        same_edition = sym e;
        same_tasks = refl;
        same_count = refl;
        same_length = sym (ap (λ c. c.length) chain);
        same_entries = λ i. sym (ap (λ c. get_or c.entries i 0) chain);
        one_chain = ap (λ x. chains (cond (eqb (cond (eqb x 1) 0 31) 31) new old) (value s)) e;
        same_limit = λ u. absurd (subst (λ x. If (cond (eqb (cond (eqb x 1) 0 31) 31) new old)) e u);
      }),
)
  where
    chain : get_or (limited 0 (second s)) 0 idle ≡ one s 0
    chain = twice s some 2 1 old_limit 0

-- So does a sheet of the second edition with one chain under 1,000.
pub back_and_there : (s : Sheet) → 0 < length s.chains → s.edition ≡ 2 → s.suite ≡ 1 → limit_of s 1 ≡ old_limit → judge_of s ≡ fine
    → (to_first s ≡ given (first s)) × (to_second (first s) ≡ given (second (first s))) × (encoded s ≡ encoded (second (first s)))
unfolding to_second to_first
back_and_there s some e k l ok = (
  ap₂ (λ j x. also j (cond (eqb x 1) (given s) (also (when (stays s) 18) (given (first s))))) ok e
      ∙ ap₂ (λ x y. also (when (cond (eqb x 1) (cond (eqb y old_limit) false true) true) 18) (given (first s))) k l,
  ap (λ j. also j (given (second (first s)))) (first_judged s some ok),
  alike_written s (second (first s))
      (record {
        same_edition = sym e;
        same_tasks = refl;
        same_count = refl;
        same_length = sym (ap (λ c. c.length) chain);
        same_entries = λ i. sym (ap (λ c. get_or c.entries i 0) chain);
        one_chain = ap (λ x. chains (cond (eqb (cond (eqb x 1) 0 31) 31) new old) (value s)) e ∙ ap (λ x. min x 8) k;
        same_limit = λ u. (k, l ∙ sym (ap (λ c. c.limit) chain));
      }),
)
  where
    chain : get_or (limited old_limit (first s)) 0 idle ≡ one s old_limit
    chain = twice s some 1 0 0 old_limit

-- "18, exactly when the count is not 1 or the limit not 1,000 on the way back"
pub stays_exactly : (s : Sheet)
    → (to_first s ≡ refused 18 []) ↔ ((judge_of s ≡ fine) × (s.edition ≢ 1) × ((s.suite ≢ 1) ⊎ (limit_of s 1 ≢ old_limit)))
unfolding to_first
stays_exactly s = (λ e. out (judge_of s) refl (eqb s.edition 1) refl e, λ (ok, later, why). ap₂ (λ j b. also j (cond b (given s) back)) ok (ne_eqb s.edition 1 later) ∙ into why)
  where
    back : Answer Sheet
    back = also (when (stays s) 18) (given (first s))

    into : (s.suite ≢ 1) ⊎ (limit_of s 1 ≢ old_limit) → back ≡ refused 18 []
    into (inl h) = ap (λ b. also (when (cond b (cond (eqb (limit_of s 1) old_limit) false true) true) 18) (given (first s))) (ne_eqb s.suite 1 h)
    into (inr h) = go (eqb s.suite 1)
      where
        go : (b : Bool) → also (when (cond b (cond (eqb (limit_of s 1) old_limit) false true) true) 18) (given (first s)) ≡ refused 18 []
        go true = ap (λ b. also (when (cond b false true) 18) (given (first s))) (ne_eqb (limit_of s 1) old_limit h)
        go false = refl

    why : (a : Bool) → eqb s.suite 1 ≡ a → (b : Bool) → eqb (limit_of s 1) old_limit ≡ b
        → also (when (cond a (cond b false true) true) 18) (given (first s)) ≡ refused 18 [] → (s.suite ≢ 1) ⊎ (limit_of s 1 ≢ old_limit)
    why true p true q h = refused_given (sym h)
    why true p false q h = inr (eqb-false (limit_of s 1) old_limit q)
    why false p b q h = inl (eqb-false s.suite 1 p)

    out : (j : Judgement) → judge_of s ≡ j → (b : Bool) → eqb s.edition 1 ≡ b → also j (cond b (given s) back) ≡ refused 18 []
        → (judge_of s ≡ fine) × (s.edition ≢ 1) × ((s.suite ≢ 1) ⊎ (limit_of s 1 ≢ old_limit))
    out (given u) p true q h = refused_given (sym h)
    out (given u) p false q h = (p, eqb-false s.edition 1 q, why (eqb s.suite 1) refl (eqb (limit_of s 1) old_limit) refl h)
    out (refused n vs) p b q h = let same : n ≡ 18 = cc in absurd (omega (arith, (judge_numbered s).most p))
