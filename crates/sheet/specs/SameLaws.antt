-- Values that agree on the fields of a sheet make the same fields, the same judgements and the same sheet.
use Rattle.std.specs.Prelude.{◌≡◌, refl, Bool, true, false, cond, ◌∷◌, ◌++◌, ℕ, zero, suc, ◌+◌, ◌<◌, ◌≤◌, min, leb, eqb, get_or}
use Rattle.std.proofs.Common.{sym, ap, ap₂, ◌∙◌, arith}
use Rattle.theory.specs.Model.Schedule.{none}
use Rattle.sheet.specs.declared.Sheet.{Sheet}
use Rattle.sheet.specs.declared.Field.{Field}
use Rattle.sheet.specs.declared.Field.TheVariants.{Mark, Edition, Count, Period, Budget, Rank, Chains, Limit, Length, Entry}
use Rattle.answers.specs.Answers.{when, also}
use Rattle.sheet.specs.Fields.{Values, Kind, old, new, kind_of, only, tasks, chains, task_fields, entry_fields, chain_fields, ordered, idle, value, outside, judged}
use Rattle.sheet.specs.Calls.{places, unused, task_by, if_new, chain_by, edition_by, sheet_by}
use Rattle.sheet.specs.PlaceLaws.{places_taken, places_same}
use Rattle.sheet.specs.FieldLaws.{fresh_same}
use Rattle.sheet.specs.EachLaws.{If, On}

if_new_same : (kind : Kind) (x y d : ℕ) → (If kind → x ≡ y) → if_new kind x d ≡ if_new kind y d
if_new_same old x y d h = refl
if_new_same new x y d h = h tt

-- ---- values that agree

chains_same : (kind : Kind) (v w : Values) (c k : ℕ) → ((j : ℕ) → j < c + k → v (Length j) ≡ w (Length j)) → chain_fields kind v c k ≡ chain_fields kind w c k
unfolding chain_fields
chains_same kind v w c zero h = refl
chains_same kind v w c (suc k) h =
    ap₂ (λ m l. only kind (Limit c) ++ (Length c ∷ (entry_fields c 0 (min m 16) ++ l))) (h c (omega arith)) (chains_same kind v w (suc c) k (λ j l. h j (omega arith)))

module _ (kind : Kind) (v w : Values) (e : (f : Field) → On kind v f → v f ≡ w f) where
  several_same : chains kind v ≡ chains kind w
  several_same = go kind (e Chains)
    where
      go : (b : Kind) → (If b → v Chains ≡ w Chains) → chains b v ≡ chains b w
      go old h = refl
      go new h = ap (λ k. min k 8) (h tt)

  pub ordered_same : ordered kind v ≡ ordered kind w
  ordered_same =
      ap₂ (λ n l. only kind Mark ++ (only kind Edition ++ (Count ∷ (task_fields 0 (min n 16) ++ (only kind Chains ++ l))))) (e Count tt)
      (chains_same kind v w 0 (chains kind v) (λ c l. e (Length c) (omega arith)) ∙ ap (chain_fields kind w 0) several_same)

  pub judged_same : (f : Field) → On kind v f → judged kind v f ≡ judged kind w f
  judged_same Mark o = refl
  judged_same Edition o = ap (λ x. when (outside 2 2 x) 16) (e Edition o)
  judged_same Count o = ap (λ x. when (outside 1 16 x) 2) (e Count o)
  judged_same (Period i) o = ap (λ x. when (outside 1 100000 x) 3) (e (Period i) o)
  judged_same (Budget i) o = ap₂ (λ x y. when (outside 1 x y) 4) (e (Period i) o) (e (Budget i) o)
  judged_same (Rank i) o = ap (λ b. when b 5) (fresh_same (λ j. v (Rank j)) (λ j. w (Rank j)) i (λ j l. e (Rank j) (omega arith)))
  judged_same Chains o = ap (λ x. when (outside 1 8 x) 17) (e Chains o)
  judged_same (Limit c) o = ap (λ x. when (outside 0 4000000 x) 13) (e (Limit c) o)
  judged_same (Length c) o = ap₂ (λ x y. when (outside 1 x y) 6) (e Count tt) (e (Length c) o)
  judged_same (Entry c i) o =
      ap₂ (λ x b. also (when x 7) (when b 8)) (ap₂ leb (e Count tt) (e (Entry c i) o))
      (fresh_same (λ j. v (Entry c j)) (λ j. w (Entry c j)) i (λ j l. e (Entry c j) (o.0, omega (arith, o.1))))

  task_same : (i : ℕ) → i < tasks v → task_by v i ≡ task_by w i
  task_same i l = let x = e (Period i) l in let y = e (Budget i) l in let z = e (Rank i) l in cc

  chain_same : (c : ℕ) → c < chains kind v → chain_by kind v c ≡ chain_by kind w c
  chain_same c l =
      let m = e (Length c) l in
      let x = places_same 16 0 (v (Length c)) (λ i. v (Entry c i)) (λ i. w (Entry c i)) (λ i g h. e (Entry c i) (l, omega arith)) ∙ ap (λ k. places 16 0 k (λ i. w (Entry c i))) m in
      let y = if_new_same kind (v (Limit c)) (w (Limit c)) 0 (λ u. e (Limit c) (u, l)) in cc

  pub sheet_by_same : sheet_by kind v ≡ sheet_by kind w
  sheet_by_same =
      let edition = if_new_same kind (edition_by v) (edition_by w) 1 (λ u. ap (λ x. cond (eqb x 1) 0 x) (e Edition u)) in
      let n = e Count tt in
      let all_tasks = places_same 16 none (v Count) (task_by v) (task_by w) (λ i l h. task_same i (omega arith)) ∙ ap (λ k. places 16 none k (task_by w)) n in
      let chain = places_same 8 unused (chains kind v) (chain_by kind v) (chain_by kind w) (λ c l h. chain_same c l) ∙ ap (λ k. places 8 unused k (chain_by kind w)) several_same in
      let suite = if_new_same kind (v Chains) (w Chains) 0 (e Chains) in cc

pub chains_few : (kind : Kind) (v : Values) → chains kind v ≤ 8
chains_few new v = omega arith
chains_few old v = omega arith

-- ---- a sheet in memory holds the values that it was made of

module _ (kind : Kind) (v : Values) where
  pub kind_held : kind_of (value (sheet_by kind v)) ≡ kind
  kind_held = go kind (eqb (v Edition) 1) refl
    where
      go : (k : Kind) (e : Bool) → eqb (v Edition) 1 ≡ e → cond (eqb (cond (eqb (if_new k (edition_by v) 1) 1) 0 31) 31) new old ≡ k
      go new true q = ap (λ x. cond (eqb (cond (eqb (cond x 0 (v Edition)) 1) 0 31) 31) new old) q
      go new false q = ap (λ x. cond (eqb (cond (eqb (cond x 0 (v Edition)) 1) 0 31) 31) new old) q ∙ ap (λ x. cond (eqb (cond x 0 31) 31) new old) q
      go old e q = refl

  gated : (k : Kind) (x d : ℕ) → If k → if_new k x d ≡ x
  gated new x d u = refl
  gated old x d u = elim u [ ]

  pub edition_held : If kind → value (sheet_by kind v) Edition ≡ 2 → v Edition ≡ 2
  edition_held u h = go (eqb (v Edition) 1) (sym (gated kind (edition_by v) 1 u) ∙ h)
    where
      go : (e : Bool) → cond e 0 (v Edition) ≡ 2 → v Edition ≡ 2
      go true q = absurd (omega arith)
      go false q = q

  module _ (mark : If kind → v Mark ≡ 31) (edition : If kind → v Edition ≡ 2) where
    edition_kept : If kind → v Edition ≡ if_new kind (edition_by v) 1
    edition_kept u = edition u ∙ sym (gated kind (edition_by v) 1 u ∙ ap (λ x. cond (eqb x 1) 0 x) (edition u))

    task_held : (i : ℕ) → i < tasks v → task_by v i ≡ get_or (sheet_by kind v).tasks i none
    task_held i l = sym (places_taken 16 none (task_by v) (v Count) none i (omega arith) (omega arith))

    chain_held : (c : ℕ) → c < chains kind v → chain_by kind v c ≡ get_or (sheet_by kind v).chains c idle
    chain_held c l = sym (places_taken 8 unused (chain_by kind v) (chains kind v) idle c l (omega (arith, chains_few kind v)))

    pub held : (f : Field) → On kind v f → v f ≡ value (sheet_by kind v) f
    held Mark o = mark o ∙ sym (ap (λ x. cond (eqb x 1) 0 31) (sym (edition_kept o) ∙ edition o))
    held Edition o = edition_kept o
    held Count o = refl
    held (Period i) o = ap (λ t. t.period) (task_held i o)
    held (Budget i) o = ap (λ t. t.budget) (task_held i o)
    held (Rank i) o = ap (λ t. t.rank) (task_held i o)
    held Chains o = sym (gated kind (v Chains) 0 o)
    held (Limit c) o = sym (gated kind (v (Limit c)) 0 o.0) ∙ ap (λ t. t.limit) (chain_held c o.1)
    held (Length c) o = ap (λ t. t.length) (chain_held c o)
    held (Entry c i) o =
        sym (places_taken 16 0 (λ j. v (Entry c j)) (v (Length c)) 0 i (omega (arith, o.1)) (omega (arith, o.1)))
        ∙ ap (λ t. get_or t.entries i 0) (chain_held c o.0)

-- ---- a sheet is its parts

pub sheet_is : {s t : Sheet} → s.tasks ≡ t.tasks → s.chains ≡ t.chains → s.edition ≡ t.edition → s.count ≡ t.count → s.suite ≡ t.suite → s ≡ t
sheet_is a b c d e = λ i. record { tasks = a i; chains = b i; edition = c i; count = d i; suite = e i }
