-- What holds of every field of a sheet: by the list of them, or field by field.
use Rattle.std.proofs.Math.Path.{subst}
use Rattle.std.specs.Prelude.{List, [], ◌∷◌, ◌++◌}
use Prim.Native.Nat.{ℕ, zero, suc, ◌+◌, ◌<◌}
use Rattle.std.proofs.Common.{arith}
use Rattle.sheet.specs.declared.Field.{Field}
use Rattle.sheet.specs.declared.Field.TheVariants.{Mark, Edition, Count, Period, Budget, Rank, Chains, Limit, Length, Entry}
use Rattle.sheet.specs.Fields.{Values, Kind, old, new, only, tasks, chains, entries, task_fields, entry_fields, chain_fields, ordered}

abbrev pub All : (Field → Type 0) → List Field → Type 0
All P [] = Unit {0}
All P (f ∷ fs) = P f × All P fs

pub all_map : (P Q : Field → Type 0) (fs : List Field) → ((f : Field) → P f → Q f) → All P fs → All Q fs
all_map P Q [] h a = tt
all_map P Q (f ∷ fs) h a = (h f a.0, all_map P Q fs h a.1)

-- A sheet of this kind has what old ones lack.
abbrev pub If : Kind → Type 0
If old = ⊥
If new = Unit {0}

-- The field stands on a sheet with these values.
abbrev pub On : Kind → Values → Field → Type 0
On kind v Mark = If kind
On kind v Edition = If kind
On kind v Count = Unit {0}
On kind v (Period i) = i < tasks v
On kind v (Budget i) = i < tasks v
On kind v (Rank i) = i < tasks v
On kind v Chains = If kind
On kind v (Limit c) = If kind × (c < chains kind v)
On kind v (Length c) = c < chains kind v
On kind v (Entry c i) = (c < chains kind v) × (i < entries v c)

module _ (P : Field → Type 0) where
  all_join : (xs ys : List Field) → All P xs → All P ys → All P (xs ++ ys)
  all_join [] ys a b = b
  all_join (x ∷ xs) ys a b = (a.0, all_join xs ys a.1 b)

  all_parts : (xs ys : List Field) → All P (xs ++ ys) → All P xs × All P ys
  all_parts [] ys a = (tt, a)
  all_parts (x ∷ xs) ys a = let later = all_parts xs ys a.1 in ((a.0, later.0), later.1)

  only_all : (kind : Kind) (f : Field) → (If kind → P f) → All P (only kind f)
  only_all old f h = tt
  only_all new f h = (h tt, tt)

  all_only : (kind : Kind) (f : Field) → All P (only kind f) → If kind → P f
  all_only new f a u = a.0
  all_only old f a u = elim u [ ]

  entries_all : (c i k : ℕ) → ((j : ℕ) → j < i + k → P (Entry c j)) → All P (entry_fields c i k)
  unfolding entry_fields
  entries_all c i zero h = tt
  entries_all c i (suc k) h = (h i (omega arith), entries_all c (suc i) k (λ j l. h j (omega arith)))

  all_entries : (c i k : ℕ) → All P (entry_fields c i k) → (j : ℕ) → j < k → P (Entry c (i + j))
  unfolding entry_fields
  all_entries c i (suc k) a zero l = subst (λ x. P (Entry c x)) (omega arith) a.0
  all_entries c i (suc k) a (suc j) l = subst (λ x. P (Entry c x)) (omega arith) (all_entries c (suc i) k a.1 j (omega arith))
  all_entries c i zero a j l = elim l [ ]

  abbrev Task : ℕ → Type 0
  Task i = P (Period i) × P (Budget i) × P (Rank i)

  tasks_all : (i k : ℕ) → ((j : ℕ) → j < i + k → Task j) → All P (task_fields i k)
  unfolding task_fields
  tasks_all i zero h = tt
  tasks_all i (suc k) h = let t = h i (omega arith) in (t.0, (t.1, (t.2, tasks_all (suc i) k (λ j l. h j (omega arith)))))

  all_tasks : (i k : ℕ) → All P (task_fields i k) → (j : ℕ) → j < k → Task (i + j)
  unfolding task_fields
  all_tasks i (suc k) a zero l = subst Task (omega arith) (a.0, a.1.0, a.1.1.0)
  all_tasks i (suc k) a (suc j) l = subst Task (omega arith) (all_tasks (suc i) k a.1.1.1 j (omega arith))
  all_tasks i zero a j l = elim l [ ]

  module _ (kind : Kind) (v : Values) where
    abbrev Chain : ℕ → Type 0
    Chain c = (If kind → P (Limit c)) × P (Length c) × ((i : ℕ) → i < entries v c → P (Entry c i))

    chains_all : (c k : ℕ) → ((j : ℕ) → j < c + k → Chain j) → All P (chain_fields kind v c k)
    unfolding chain_fields
    chains_all c zero h = tt
    chains_all c (suc k) h =
        let t = h c (omega arith) in
        all_join (only kind (Limit c)) (Length c ∷ (entry_fields c 0 (entries v c) ++ chain_fields kind v (suc c) k)) (only_all kind (Limit c) t.0)
        (t.1, all_join (entry_fields c 0 (entries v c)) (chain_fields kind v (suc c) k) (entries_all c 0 (entries v c) (λ i l. t.2 i (omega arith))) (chains_all (suc c) k (λ j l. h j (omega arith))))

    all_chains : (c k : ℕ) → All P (chain_fields kind v c k) → (j : ℕ) → j < k → Chain (c + j)
    unfolding chain_fields
    all_chains c (suc k) a j l = go j l (all_chains (suc c) k last.1)
      where
        here : All P (only kind (Limit c)) × All P (Length c ∷ (entry_fields c 0 (entries v c) ++ chain_fields kind v (suc c) k))
        here = all_parts (only kind (Limit c)) (Length c ∷ (entry_fields c 0 (entries v c) ++ chain_fields kind v (suc c) k)) a

        last : All P (entry_fields c 0 (entries v c)) × All P (chain_fields kind v (suc c) k)
        last = all_parts (entry_fields c 0 (entries v c)) (chain_fields kind v (suc c) k) here.1.1

        go : (j : ℕ) → j < suc k → ((j : ℕ) → j < k → Chain (suc c + j)) → Chain (c + j)
        go zero l later =
            subst Chain (omega arith)
            (all_only kind (Limit c) here.0, here.1.0, λ i l. subst (λ x. P (Entry c x)) (omega arith) (all_entries c 0 (entries v c) last.0 i l))
        go (suc j) l later = subst Chain (omega arith) (later j (omega arith))
    all_chains c zero a j l = elim l [ ]

    pub each_all : ((f : Field) → On kind v f → P f) → All P (ordered kind v)
    each_all h =
        let chain = chains_all 0 (chains kind v) (λ c l. (λ u. h (Limit c) (u, omega arith), h (Length c) (omega arith), λ i g. h (Entry c i) (omega arith, g))) in
        let rest = all_join (only kind Chains) (chain_fields kind v 0 (chains kind v)) (only_all kind Chains (h Chains)) chain in
        let each-task = tasks_all 0 (tasks v) (λ i l. (h (Period i) (omega arith), h (Budget i) (omega arith), h (Rank i) (omega arith))) in
        all_join (only kind Mark) _ (only_all kind Mark (h Mark))
        (all_join (only kind Edition) _ (only_all kind Edition (h Edition)) (h Count tt, all_join (task_fields 0 (tasks v)) _ each-task rest))

    pub all_each : All P (ordered kind v) → (f : Field) → On kind v f → P f
    all_each a = at
      where
        mark : All P (only kind Mark) × All P (only kind Edition ++ (Count ∷ (task_fields 0 (tasks v) ++ (only kind Chains ++ chain_fields kind v 0 (chains kind v)))))
        mark = all_parts (only kind Mark) _ a

        edition : All P (only kind Edition) × All P (Count ∷ (task_fields 0 (tasks v) ++ (only kind Chains ++ chain_fields kind v 0 (chains kind v))))
        edition = all_parts (only kind Edition) _ mark.1

        tasks_part : All P (task_fields 0 (tasks v)) × All P (only kind Chains ++ chain_fields kind v 0 (chains kind v))
        tasks_part = all_parts (task_fields 0 (tasks v)) _ edition.1.1

        several : All P (only kind Chains) × All P (chain_fields kind v 0 (chains kind v))
        several = all_parts (only kind Chains) _ tasks_part.1

        task : (i : ℕ) → i < tasks v → Task i
        task i l = subst Task (omega arith) (all_tasks 0 (tasks v) tasks_part.0 i l)

        chain : (c : ℕ) → c < chains kind v → Chain c
        chain c l = subst Chain (omega arith) (all_chains 0 (chains kind v) several.1 c l)

        at : (f : Field) → On kind v f → P f
        at Mark o = all_only kind Mark mark.0 o
        at Edition o = all_only kind Edition edition.0 o
        at Count o = edition.1.0
        at (Period i) o = (task i o).0
        at (Budget i) o = (task i o).1
        at (Rank i) o = (task i o).2
        at Chains o = all_only kind Chains several.0 o
        at (Limit c) o = (chain c o.1).0 o.0
        at (Length c) o = (chain c o).1
        at (Entry c i) o = (chain c o.0).2 i o.1
