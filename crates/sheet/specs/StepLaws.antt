-- Laws of the steps: going from field to field passes the list of them.
use Rattle.std.specs.Prelude.{◌≡◌, refl, Bool, eqb, Option, Some, None}
use Rattle.std.proofs.Common.{sym, ◌∙◌, add-one, arith, lt-ltb, le-ltb, ne_eqb}
use Rattle.std.proofs.Math.Path.{ap, subst}
use Rattle.std.proofs.Math.Bool.{cond}
use mathlib.Core.List.{List, [], ◌∷◌, ◌++◌}
use Prim.Native.Nat.{ℕ, zero, suc, ◌+◌, ◌*◌, ◌<◌, ◌≤◌, min}
use Rattle.sheet.specs.declared.Field.{Field}
use Rattle.sheet.specs.declared.Field.TheVariants.{Mark, Edition, Count, Period, Budget, Rank, Chains, Limit, Length, Entry}
use Rattle.sheet.specs.Fields.{Values, Kind, old, new, kind_of, only, tasks, chains, entries, task_fields, entry_fields, chain_fields, ordered, fields, width, widths}
use Rattle.bits.specs.Bits.{number}
use Rattle.sheet.specs.Calls.{chain_from}
use Rattle.sheet.specs.EachLaws.{All, On, each_all}
use Rattle.sheet.specs.SameLaws.{chains_few}
use Rattle.sheet.specs.Order.{Placed, opening, chain_head, chain_opening, suite_opening, task_opening, entry_opening, after}

-- every field has a place
pub placed : (kind : Kind) (v : Values) (f : Field) → On kind v f → Placed f
placed kind v Mark o = tt
placed kind v Edition o = tt
placed kind v Count o = tt
placed kind v (Period i) o = omega arith
placed kind v (Budget i) o = omega arith
placed kind v (Rank i) o = omega arith
placed kind v Chains o = tt
placed kind v (Limit c) o = omega (arith, o.1, chains_few kind v)
placed kind v (Length c) o = omega (arith, chains_few kind v)
placed kind v (Entry c i) o = (omega (arith, o.0, chains_few kind v), omega (arith, o.1))

-- going from f passes the fields of the list, and leads to g
unfoldable pub Walk : Kind → Values → Option Field → List Field → Option Field → Type 0
Walk kind v f [] g = f ≡ g
Walk kind v f (x ∷ xs) g = (f ≡ Some x) × Walk kind v (after kind v x) xs g

module _ (kind : Kind) (v : Values) where
  walk_join : (f g h : Option Field) (xs ys : List Field) → Walk kind v f xs g → Walk kind v g ys h → Walk kind v f (xs ++ ys) h
  unfolding Walk
  walk_join f g h [] ys p q = subst (λ x. Walk kind v x ys h) (sym p) q
  walk_join f g h (x ∷ xs) ys p q = (p.0, walk_join (after kind v x) g h xs ys p.1 q)

  walk_from : (f g h : Option Field) (xs : List Field) → f ≡ g → Walk kind v g xs h → Walk kind v f xs h
  walk_from f g h xs e w = subst (λ x. Walk kind v x xs h) (sym e) w

  tasks_walk : (i k : ℕ) → i + k ≡ tasks v → Walk kind v (Some (task_opening kind v i)) (task_fields i k) (Some (suite_opening kind))
  unfolding Walk task_fields
  tasks_walk i zero e = ap (λ b. Some (cond b (Period i) (suite_opening kind))) (le-ltb i (tasks v) (omega arith))
  tasks_walk i (suc k) e = (
    ap (λ b. Some (cond b (Period i) (suite_opening kind))) (lt-ltb i (tasks v) (omega arith)),
    (refl, (refl, walk_from _ (Some (task_opening kind v (suc i))) _ (task_fields (suc i) k) (ap (λ j. Some (task_opening kind v j)) (add-one i)) (tasks_walk (suc i) k (omega arith)))),
  )

  entries_walk : (c i k : ℕ) → i + k ≡ entries v c → Walk kind v (entry_opening kind v c i) (entry_fields c i k) (chain_opening kind v (c + 1))
  unfolding Walk entry_fields
  entries_walk c i zero e = ap (λ b. cond b (Some (Entry c i)) (chain_opening kind v (c + 1))) (le-ltb i (entries v c) (omega arith))
  entries_walk c i (suc k) e = (
    ap (λ b. cond b (Some (Entry c i)) (chain_opening kind v (c + 1))) (lt-ltb i (entries v c) (omega arith)),
    walk_from _ (entry_opening kind v c (suc i)) _ (entry_fields c (suc i) k) (ap (entry_opening kind v c) (add-one i)) (entries_walk c (suc i) k (omega arith)),
  )

-- a chain is opened by its limit where there is one
chain_walk : (kind : Kind) (v : Values) (c : ℕ) (xs : List Field) (h : Option Field) → c < chains kind v → Walk kind v (entry_opening kind v c 0) xs h
    → Walk kind v (chain_opening kind v c) (only kind (Limit c) ++ (Length c ∷ xs)) h
unfolding Walk
chain_walk new v c xs h l w = (ap (λ b. cond b (Some (Limit c)) None) (lt-ltb c (chains new v) l), (refl, w))
chain_walk old v c xs h l w = (ap (λ b. cond b (Some (Length c)) None) (lt-ltb c 1 l), w)

chains_walk : (kind : Kind) (v : Values) (c k : ℕ) → c + k ≡ chains kind v → Walk kind v (chain_opening kind v c) (chain_fields kind v c k) None
unfolding Walk chain_fields
chains_walk kind v c zero e = ap (λ b. cond b (Some (chain_head kind c)) None) (le-ltb c (chains kind v) (omega arith))
chains_walk kind v c (suc k) e =
    let m = entries v c in
    chain_walk kind v c (entry_fields c 0 m ++ chain_fields kind v (suc c) k) None (omega arith)
    (walk_join kind v (entry_opening kind v c 0) (chain_opening kind v (c + 1)) None (entry_fields c 0 m) (chain_fields kind v (suc c) k) (entries_walk kind v c 0 m (omega arith))
    (walk_from kind v (chain_opening kind v (c + 1)) (chain_opening kind v (suc c)) None (chain_fields kind v (suc c) k) (ap (chain_opening kind v) (add-one c))
    (chains_walk kind v (suc c) k (omega arith))))

pub ordered_walk : (kind : Kind) (v : Values) → Walk kind v (Some (opening kind)) (ordered kind v) None
unfolding Walk
ordered_walk new v = (refl, (refl, (refl, walk_join new v (Some (task_opening new v 0)) (Some Chains) None (task_fields 0 (tasks v)) (Chains ∷ chain_fields new v 0 (min (v Chains) 8)) (tasks_walk new v 0 (tasks v) (omega arith)) (refl, chains_walk new v 0 (min (v Chains) 8) (omega arith)))))
ordered_walk old v = (refl, walk_join old v (Some (task_opening old v 0)) (Some (Length 0)) None (task_fields 0 (tasks v)) (chain_fields old v 0 1) (tasks_walk old v 0 (tasks v) (omega arith)) (chains_walk old v 0 1 (omega arith)))

-- ---- what is left, with f its first field and `at` its first bit

pub record Left (v : Values) (f : Option Field) (at : ℕ) (fs : List Field) : Type 0 where
  pub walk : Walk (kind_of v) v f fs None
  pub on : All (On (kind_of v) v) fs
  pub ends : at + widths fs ≡ widths (fields v)

pub left_all : (v : Values) → Left v (Some (opening (kind_of v))) 0 (fields v)
left_all v =
    record {
      walk = ordered_walk (kind_of v) v;
      on = each_all (On (kind_of v) v) (kind_of v) v (λ f o. o);
      ends = omega arith;
    }

-- nothing, after the last field
pub left_none : {f : Option Field} (v : Values) (at : ℕ) (fs : List Field) → Left v f at fs → f ≡ None → (fs ≡ []) × (at ≡ widths (fields v))
unfolding widths Walk
left_none v at [] l e = (refl, omega (arith, l.ends))
left_none v at (x ∷ xs) l e = let p : None ≡ Some x = sym e ∙ l.walk.0 in cc

-- a step along the fields
pub record Step (v : Values) (f : Field) (at : ℕ) (fs : List Field) : Type 0 where
  pub rest : List Field
  pub is : fs ≡ f ∷ rest
  pub place : Placed f
  pub room : at + width f ≤ widths (fields v)
  pub later : Left v (after (kind_of v) v f) (at + width f) rest

pub left_step : {f : Option Field} {g : Field} (v : Values) (at : ℕ) (fs : List Field) → Left v f at fs → f ≡ Some g → Step v g at fs
unfolding widths Walk
left_step {g = g} v at [] l e = let p : Some g ≡ None = sym e ∙ l.walk in cc
left_step {g = g} v at (x ∷ xs) l e =
    let p : Some g ≡ Some x = sym e ∙ l.walk.0 in
    let q : g ≡ x = cc in
    subst (λ y. Step v y at (x ∷ xs)) (sym q)
    (record {
      rest = xs;
      is = refl;
      place = placed (kind_of v) v x l.on.0;
      room = omega (arith, l.ends);
      later = record { walk = l.walk.1; on = l.on.1; ends = omega (arith, l.ends) };
    })

-- ---- the edition that a sheet carries

abbrev pub kind_by : ℕ → Kind
kind_by edition = cond (eqb (cond (eqb edition 1) 0 31) 31) new old

pub old_edition : (edition : ℕ) → edition ≡ 1 → kind_by edition ≡ old
old_edition edition e = ap kind_by e

pub new_edition : (edition : ℕ) → (edition ≡ 1 → ⊥) → kind_by edition ≡ new
new_edition edition h = ap (λ b. cond (eqb (cond b 0 31) 31) new old) (ne_eqb edition 1 h)

-- ---- where a chain begins in bits

pub chain_from_step : (bs : List Bool) (w at c : ℕ) → chain_from bs w at (c + 1) ≡ chain_from bs w at c + w + 5 + 4 * min (number bs (chain_from bs w at c + w) 5) 16
unfolding chain_from
chain_from_step bs w at c = ap (chain_from bs w at) (add-one c)
