-- Laws of a sheet's bits: where each field lies, and what it spells there.
use Rattle.std.specs.Prelude.{◌≡◌, ◌≢◌, Bool, length, get_or}
use Rattle.std.proofs.Math.Path.{refl, sym, ap, subst}
use Rattle.std.proofs.Common.{ap₂, ◌∙◌, length-append, get_or-append-add}
use Rattle.std.proofs.Math.Bool.{true, false, cond}
use mathlib.Core.List.{List, [], ◌∷◌, ◌++◌, append_assoc}
use Prim.Native.Nat.{ℕ, zero, suc, ◌+◌, ◌-◌, ◌*◌, ◌^◌, ◌<◌, ◌≤◌, min}
use native.Mathlib.Omega.{arith}
use Rattle.std.proofs.Math.Decide.{dec_lt}
use Rattle.std.proofs.Math.Dec.{eqb}
use Rattle.std.proofs.Math.ListN.{get_or-append}
use borrow.Author.Tests.{eq-eqb, ne_eqb, eqb-true, eqb-false}
use Rattle.bits.specs.Bits.{bits, number}
use Rattle.bits.specs.Laws.{length_bits, number_lt, number_same, number_bits, bits_number}
use Rattle.sheet.specs.declared.Field.{Field}
use Rattle.sheet.specs.declared.Field.TheVariants.{Mark, Edition, Count, Period, Chains, Limit, Length, Entry}
use Rattle.sheet.specs.Fields.{Values, Kind, old, new, kind_of, only, tasks, chains, entries, task_fields, entry_fields, chain_fields, ordered, fields, width, widths}
use Rattle.sheet.specs.Calls.{chain_from, bits_of, extra, place, begin_in, kind_in, tasks_in, spelt}
use Rattle.sheet.specs.EachLaws.{All}

-- ---- a list of fields

pub widths_append : (xs ys : List Field) → widths (xs ++ ys) ≡ widths xs + widths ys
unfolding widths
widths_append [] ys = omega arith
widths_append (x ∷ xs) ys = omega (arith, widths_append xs ys)

pub length_bits_of : (v : Values) (fs : List Field) → length (bits_of v fs) ≡ widths fs
unfolding bits_of widths
length_bits_of v [] = refl
length_bits_of v (f ∷ fs) = length-append (bits (width f) (v f)) (bits_of v fs) ∙ ap₂ ◌+◌ (length_bits (width f) (v f)) (length_bits_of v fs)

-- the first of the fields that are left
pub bits_step : {f : Field} {fs rest : List Field} → fs ≡ f ∷ rest → (v : Values) → bits_of v fs ≡ bits (width f) (v f) ++ bits_of v rest
unfolding bits_of
bits_step e v = ap (bits_of v) e

pub bits_none : {fs : List Field} → fs ≡ [] → (v : Values) → bits_of v fs ≡ []
unfolding bits_of
bits_none e v = ap (bits_of v) e

pub bits_of_same : (v w : Values) (fs : List Field) → All (λ f. v f ≡ w f) fs → bits_of v fs ≡ bits_of w fs
unfolding bits_of
bits_of_same v w [] a = refl
bits_of_same v w (f ∷ fs) a = ap₂ (λ x l. bits (width f) x ++ l) a.0 (bits_of_same v w fs a.1)

-- the fields stand in the bits one after the other, from bit `at` on
unfoldable pub Spelt : List Bool → Values → ℕ → List Field → Type 0
Spelt bs v at [] = Unit {0}
Spelt bs v at (f ∷ fs) = (number bs at (width f) ≡ v f) × Spelt bs v (at + width f) fs

module _ (bs : List Bool) where
  pub spelt_parts : (v : Values) (xs ys : List Field) (at : ℕ) → Spelt bs v at (xs ++ ys) → Spelt bs v at xs × Spelt bs v (at + widths xs) ys
  unfolding Spelt widths
  spelt_parts v [] ys at s = (tt, subst (λ a. Spelt bs v a ys) (omega arith) s)
  spelt_parts v (x ∷ xs) ys at s =
      let later = spelt_parts v xs ys (at + width x) s.1 in ((s.0, later.0), subst (λ a. Spelt bs v a ys) (omega arith) later.1)

  -- what they spell is one thing
  pub spelt_same : (v w : Values) (fs : List Field) (at : ℕ) → Spelt bs v at fs → Spelt bs w at fs → All (λ f. v f ≡ w f) fs
  unfolding Spelt
  spelt_same v w [] at s t = tt
  spelt_same v w (f ∷ fs) at s t = (sym s.0 ∙ t.0, spelt_same v w fs (at + width f) s.1 t.1)

  -- and other bits that are the same as far as the fields go spell it too
  pub spelt_moved : (cs : List Bool) (v : Values) (fs : List Field) (at end : ℕ) → ((p : ℕ) → p < end → get_or bs p false ≡ get_or cs p false) → at + widths fs ≤ end → Spelt bs v at fs → Spelt cs v at fs
  unfolding Spelt widths
  spelt_moved cs v [] at end h l s = tt
  spelt_moved cs v (f ∷ fs) at end h l s = (
    number_same cs bs at at (width f) (λ k g. sym (h (at + k) (omega arith))) ∙ s.0,
    spelt_moved cs v fs (at + width f) end h (omega arith) s.1,
  )

  pub spelt_fits : (v : Values) (fs : List Field) (at : ℕ) → Spelt bs v at fs → All (λ f. v f < 2 ^ width f) fs
  unfolding Spelt
  spelt_fits v [] at s = tt
  spelt_fits v (f ∷ fs) at s = (subst (λ x. x < 2 ^ width f) s.0 (number_lt bs at (width f)), spelt_fits v fs (at + width f) s.1)

-- values that fit are spelt by their bits
pub written_spelt : (v : Values) (fs : List Field) (before : List Bool) → All (λ f. v f < 2 ^ width f) fs → Spelt (before ++ bits_of v fs) v (length before) fs
unfolding Spelt bits_of
written_spelt v [] before h = tt
written_spelt v (f ∷ fs) before h = (
  number_same (before ++ (field ++ rest)) field (length before) 0 (width f)
      (λ k l. get_or-append-add before (field ++ rest) k false
      ∙ get_or-append field rest false k (omega (arith, length_bits (width f) (v f)))
      ∙ ap (λ j. get_or field j false) {x = k} {y = 0 + k} (omega arith))
      ∙ number_bits (width f) (v f) h.0,
  subst (λ l. Spelt l v (length before + width f) fs) (append_assoc before field rest)
      (subst (λ at. Spelt ((before ++ field) ++ rest) v at fs) (length-append before field ∙ ap (λ w. length before + w) (length_bits (width f) (v f))) (written_spelt v fs (before ++ field) h.1)),
)
  where
    field : List Bool
    field = bits (width f) (v f)

    rest : List Bool
    rest = bits_of v fs

-- and bits that spell the values are those that would be written
pub spelt_written : (v : Values) (bs : List Bool) (fs : List Field) (at : ℕ) → Spelt bs v at fs → (p : ℕ) → p < widths fs → get_or (bits_of v fs) p false ≡ get_or bs (at + p) false
unfolding Spelt bits_of widths
spelt_written v bs [] at s p l = absurd (omega arith)
spelt_written v bs (f ∷ fs) at s p l = go (dec_lt p (width f)) (spelt_written v bs fs (at + width f) s.1 (p - width f))
  where
    field : List Bool
    field = bits (width f) (v f)

    rest : List Bool
    rest = bits_of v fs

    go : Dec (p < width f) → (p - width f < widths fs → get_or rest (p - width f) false ≡ get_or bs (at + width f + (p - width f)) false) → get_or (field ++ rest) p false ≡ get_or bs (at + p) false
    go (yes q) later =
        get_or-append field rest false p (omega (arith, length_bits (width f) (v f)))
        ∙ ap (λ x. get_or (bits (width f) x) p false) (sym s.0)
        ∙ bits_number bs at (width f) p q
    go (no q) later =
        ap (λ x. get_or (field ++ rest) x false) {x = p} {y = length field + (p - width f)} (omega (arith, length_bits (width f) (v f)))
        ∙ get_or-append-add field rest (p - width f) false
        ∙ later (omega arith)
        ∙ ap (λ x. get_or bs x false) {x = at + width f + (p - width f)} {y = at + p} (omega arith)

-- ---- the places: each field begins where the one before it ends

unfoldable pub InPlace : (Field → ℕ) → ℕ → List Field → Type 0
InPlace place at [] = Unit {0}
InPlace place at (f ∷ fs) = (place f ≡ at) × InPlace place (at + width f) fs

in_place_spelt : (bs : List Bool) (place : Field → ℕ) (fs : List Field) (at : ℕ) → InPlace place at fs → Spelt bs (λ f. number bs (place f) (width f)) at fs
unfolding InPlace Spelt
in_place_spelt bs place [] at p = tt
in_place_spelt bs place (f ∷ fs) at p = (ap (λ a. number bs a (width f)) (sym p.0), in_place_spelt bs place fs (at + width f) p.1)

in_place_join : (place : Field → ℕ) (xs ys : List Field) (at : ℕ) → InPlace place at xs → InPlace place (at + widths xs) ys → InPlace place at (xs ++ ys)
unfolding InPlace widths
in_place_join place [] ys at p q = subst (λ a. InPlace place a ys) (omega arith) q
in_place_join place (x ∷ xs) ys at p q = (p.0, in_place_join place xs ys (at + width x) p.1 (subst (λ a. InPlace place a ys) (omega arith) q))

pub widths_entries : (c i k : ℕ) → widths (entry_fields c i k) ≡ 4 * k
unfolding widths entry_fields
widths_entries c i zero = refl
widths_entries c i (suc k) = omega (arith, widths_entries c (suc i) k)

pub widths_tasks : (i k : ℕ) → widths (task_fields i k) ≡ 42 * k
unfolding widths task_fields
widths_tasks i zero = refl
widths_tasks i (suc k) = omega (arith, widths_tasks (suc i) k)

module _ (v : Values) (kind : Kind) (begin : ℕ → ℕ) where
  abbrev at_place : Field → ℕ
  at_place = place kind (tasks v) begin

  entries_in_place : (c i k at : ℕ) → at_place (Entry c i) ≡ at → InPlace at_place at (entry_fields c i k)
  unfolding InPlace entry_fields
  entries_in_place c i zero at e = tt
  entries_in_place c i (suc k) at e = (e, entries_in_place c (suc i) k (at + 4) (omega arith))

  tasks_in_place : (i k at : ℕ) → at_place (Period i) ≡ at → InPlace at_place at (task_fields i k)
  unfolding InPlace task_fields
  tasks_in_place i zero at e = tt
  tasks_in_place i (suc k) at e = (e, (omega arith, (omega arith, tasks_in_place (suc i) k (at + 17 + 17 + 8) (omega arith))))

-- where the bits have each chain begin, each begins at the end of the one before
module _ (v : Values) (begin : ℕ → ℕ) where
  chains_in_place : (kind : Kind) → ((c : ℕ) → begin (suc c) ≡ begin c + extra kind 22 + 5 + 4 * entries v c) → (c k at : ℕ) → begin c ≡ at → InPlace (place kind (tasks v) begin) at (chain_fields kind v c k)
  unfolding InPlace chain_fields
  chains_in_place kind step c zero at e = tt
  chains_in_place new step c (suc k) at e = (
    e,
    (
      omega arith,
      in_place_join (place new (tasks v) begin) (entry_fields c 0 (entries v c)) (chain_fields new v (suc c) k) (at + 22 + 5) (entries_in_place v new begin c 0 (entries v c) (at + 22 + 5) (omega arith))
          (chains_in_place new step (suc c) k (at + 22 + 5 + widths (entry_fields c 0 (entries v c))) (omega (arith, step c, widths_entries c 0 (entries v c)))),
    ),
  )
  chains_in_place old step c (suc k) at e = (
    omega arith,
    in_place_join (place old (tasks v) begin) (entry_fields c 0 (entries v c)) (chain_fields old v (suc c) k) (at + 5) (entries_in_place v old begin c 0 (entries v c) (at + 5) (omega arith))
        (chains_in_place old step (suc c) k (at + 5 + widths (entry_fields c 0 (entries v c))) (omega (arith, step c, widths_entries c 0 (entries v c)))),
  )

  pub ordered_in_place : (kind : Kind) → begin 0 ≡ extra kind 9 + 5 + 42 * tasks v + extra kind 4 → ((c : ℕ) → begin (suc c) ≡ begin c + extra kind 22 + 5 + 4 * entries v c) → InPlace (place kind (tasks v) begin) 0 (ordered kind v)
  unfolding InPlace
  ordered_in_place new start step =
      let n = tasks v in
      let chain = chains_in_place new step 0 (min (v Chains) 8) (0 + 5 + 4 + 5 + widths (task_fields 0 n) + 4) (omega (arith, widths_tasks 0 n)) in
      (refl, (refl, (refl, in_place_join (place new n begin) (task_fields 0 n) (Chains ∷ chain_fields new v 0 (min (v Chains) 8)) (0 + 5 + 4 + 5) (tasks_in_place v new begin 0 n (0 + 5 + 4 + 5) (omega arith)) (omega (arith, widths_tasks 0 n), chain))))
  ordered_in_place old start step =
      let n = tasks v in
      let chain = chains_in_place old step 0 1 (0 + 5 + widths (task_fields 0 n)) (omega (arith, widths_tasks 0 n)) in
      (refl, in_place_join (place old n begin) (task_fields 0 n) (chain_fields old v 0 1) (0 + 5) (tasks_in_place v old begin 0 n (0 + 5) (omega arith)) chain)

-- bits spell what they are said to spell
pub spelt_fields : (bs : List Bool) → Spelt bs (spelt bs) 0 (fields (spelt bs))
unfolding spelt chain_from
spelt_fields bs =
    let kind = kind_in bs in
    let n = tasks_in bs kind in
    in_place_spelt bs (place kind n (begin_in bs kind n)) (fields (spelt bs)) 0 (ordered_in_place (spelt bs) (begin_in bs kind n) kind refl (λ c. refl))

-- ---- and nothing else: the fields follow from the bits

module _ (bs : List Bool) (v w : Values) where
  follow : (p q xs ys : List Field) (at : ℕ) → p ≡ q → Spelt bs v at (p ++ xs) → Spelt bs w at (q ++ ys) → ((at : ℕ) → Spelt bs v at xs → Spelt bs w at ys → xs ≡ ys) → p ++ xs ≡ q ++ ys
  follow p q xs ys at e s t h =
      ap₂ ◌++◌ e (h (at + widths p) (spelt_parts bs v p xs at s).1 (subst (λ l. Spelt bs w (at + widths l) ys) (sym e) (spelt_parts bs w q ys at t).1))

  chains_follow : (kind : Kind) (c k at : ℕ) → Spelt bs v at (chain_fields kind v c k) → Spelt bs w at (chain_fields kind w c k) → chain_fields kind v c k ≡ chain_fields kind w c k
  unfolding Spelt chain_fields
  chains_follow kind c zero at s t = refl
  chains_follow kind c (suc k) at s t =
      follow (only kind (Limit c)) (only kind (Limit c)) _ _ at refl s t
      (λ a x y. ap (λ l. Length c ∷ l)
      (follow (entry_fields c 0 (entries v c)) (entry_fields c 0 (entries w c)) _ _ (a + 5) (ap (λ m. entry_fields c 0 (min m 16)) (sym x.0 ∙ y.0)) x.1 y.1 (λ b p q. chains_follow kind (suc c) k b p q)))

  suite_follows : (kind : Kind) (at : ℕ) → Spelt bs v at (only kind Chains ++ chain_fields kind v 0 (chains kind v)) → Spelt bs w at (only kind Chains ++ chain_fields kind w 0 (chains kind w))
      → only kind Chains ++ chain_fields kind v 0 (chains kind v) ≡ only kind Chains ++ chain_fields kind w 0 (chains kind w)
  unfolding Spelt
  suite_follows new at s t =
      let e = ap (λ k. min k 8) (sym s.0 ∙ t.0) in
      ap (λ l. Chains ∷ l) (chains_follow new 0 (min (v Chains) 8) (at + 4) s.1 (subst (λ k. Spelt bs w (at + 4) (chain_fields new w 0 k)) (sym e) t.1) ∙ ap (chain_fields new w 0) e)
  suite_follows old at s t = chains_follow old 0 1 at s t

  ordered_follows : (kind : Kind) → Spelt bs v 0 (ordered kind v) → Spelt bs w 0 (ordered kind w) → ordered kind v ≡ ordered kind w
  unfolding Spelt
  ordered_follows kind s t =
      follow (only kind Mark) (only kind Mark) _ _ 0 refl s t
      (λ a p q. follow (only kind Edition) (only kind Edition) _ _ a refl p q
      (λ b x y. ap (λ l. Count ∷ l)
      (follow (task_fields 0 (tasks v)) (task_fields 0 (tasks w)) _ _ (b + 5) (ap (λ n. task_fields 0 (min n 16)) (sym x.0 ∙ y.0)) x.1 y.1 (suite_follows kind))))

-- a sheet's first bits tell its kind, where the count of an old one is not taken for a mark
module _ (bs : List Bool) (v : Values) (unmarked : v Mark ≢ 31 → v Count ≢ 31) (s : Spelt bs v 0 (fields v)) where
  pub kind_spelt : kind_in bs ≡ kind_of v
  unfolding Spelt
  kind_spelt = ap (λ b. cond b new old) (go (eqb (v Mark) 31) refl s)
    where
      go : (b : Bool) → eqb (v Mark) 31 ≡ b → Spelt bs v 0 (ordered (cond b new old) v) → eqb (number bs 0 5) 31 ≡ b
      go true e s = eq-eqb (number bs 0 5) 31 (s.0 ∙ eqb-true (v Mark) 31 e)
      go false e s = ne_eqb (number bs 0 5) 31 (λ q. unmarked (eqb-false (v Mark) 31 e) (sym s.0 ∙ q))

  -- so the values are known where bits spell them
  pub spelt_is : (kind_of (spelt bs) ≡ kind_of v) × (fields v ≡ fields (spelt bs)) × All (λ f. v f ≡ spelt bs f) (fields v)
  unfolding spelt
  spelt_is = (kind_spelt, same, spelt_same bs v (spelt bs) (fields v) 0 s (subst (Spelt bs (spelt bs) 0) (sym same) (spelt_fields bs)))
    where
      same : fields v ≡ fields (spelt bs)
      same =
          ordered_follows bs v (spelt bs) (kind_of v) s (subst (λ k. Spelt bs (spelt bs) 0 (ordered k (spelt bs))) kind_spelt (spelt_fields bs))
          ∙ ap (λ k. ordered k (spelt bs)) (sym kind_spelt)

-- the count of a sheet without a mark is no mark
pub spelt_count : (bs : List Bool) → spelt bs Mark ≢ 31 → spelt bs Count ≢ 31
unfolding spelt
spelt_count bs h q = h (ap (λ k. number bs (extra k 9) 5) (sym (ap (λ b. cond b new old) (ne_eqb (number bs 0 5) 31 h))) ∙ q)
