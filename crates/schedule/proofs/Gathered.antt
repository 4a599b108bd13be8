-- The tasks that outrank a rank, gathered in places: what the places bring is what these tasks bring.
use mathlib.Core.Path.{◌≡◌, refl, sym, ap, ◌∙◌}
use mathlib.Core.Logic.{inl, inr}
use mathlib.Core.List.{List, [], ◌∷◌, ◌++◌}
use mathlib.Core.Bool.{cond}
use Prim.Native.Nat.{ℕ, ◌+◌, ◌*◌, ◌≤◌, ◌<◌}
use native.Mathlib.Numerals.{add-one}
use native.Mathlib.Omega.{arith}
use native.Mathlib.Decide.{ℕ_discrete}
use lib.Dec.{ltb}
use lib.ListN.{length, get_or, set, take, length-set, length-append, get_or-append}
use lib.Seq.{get_or-set_same, get_or-set_other, get_or-take, take-set-lt}
use Rattle.std.proofs.lemmas.List.{get_or_at}
use borrow.Author.Tests.{lt-ltb, le-ltb}
use Rattle.std.proofs.lemmas.List.Sums.{sum_by-set, sum_by_push}
use Rattle.arith.specs.Ranges.{sum}
use Rattle.arith.specs.WholeLaws.{up_fixed}
use native.Mathlib.Nat.{dvd-zero, le_refl}
use Rattle.theory.specs.declared.Task.{Task}
use Rattle.theory.specs.Model.Schedule.{none, period, budget, rank}
use Rattle.sheet.specs.TaskLaws.{Allowed}
use Rattle.schedule.specs.declared.level.Place.{Place}
use Rattle.schedule.specs.Conditions.{place_of, place_at, over, DueAt, AllDueAt, Adds, Additive}

-- A task before its first release, which is at tick 0.
pub starts_due : {task : Task} → Allowed task → DueAt 0 (place_of task)
starts_due {task} a = record { period_positive = a.period_positive; period_most = a.period_most; next_is = sym (up_fixed task.period (dvd-zero task.period)) }

-- A change of one of the first n places.
pub take_changed : (n : ℕ) (places : List Place) (p : ℕ) (f : Place → Place) → p < n → take n (set places p (f (place_at places p))) ≡ set (take n places) p (f (place_at (take n places) p))
take_changed n places p f l = take-set-lt n places p (f (place_at places p)) l ∙ ap (λ x. set (take n places) p (f x)) (sym (get_or-take n places p (place_of none) l))

-- Those of the first n tasks.
pub record GatheredTo (ts : List Task) (r : ℕ) (places : List Place) (n : ℕ) : Type 0 where
  pub within : length places ≤ n
  pub due : AllDueAt 0 places
  pub budgets_most : (p : ℕ) → p < length places → (place_at places p).budget ≤ n * 100000
  pub sums : (f : ℕ → ℕ → ℕ) → Additive f → over f places ≡ sum n (λ j. cond (ltb r (rank ts j)) (f (period ts j) (budget ts j)) 0)

module _ {ts : List Task} {r : ℕ} where
  pub gather_start : GatheredTo ts r [] 0
  unfolding sum
  gather_start = record {
    within = le_refl 0;
    due = λ p l. absurd (omega arith);
    budgets_most = λ p l. absurd (omega arith);
    sums = λ f add. refl;
  }

  module _ {places : List Place} {j : ℕ} (g : GatheredTo ts r places j) where
    -- Task j outranks it,
    module _ (a : Allowed (get_or ts j none)) (outranks : r < rank ts j) where
      abbrev T : ℕ
      T = period ts j

      abbrev C : ℕ
      C = budget ts j

      more_sums : (f : ℕ → ℕ → ℕ) {x y : ℕ} → x ≡ sum j (λ j. cond (ltb r (rank ts j)) (f (period ts j) (budget ts j)) 0) → y ≡ x + f T C
          → y ≡ sum (j + 1) (λ j. cond (ltb r (rank ts j)) (f (period ts j) (budget ts j)) 0)
      unfolding sum
      more_sums f {x} {y} e q = rw (add-one j, lt-ltb r (rank ts j) outranks) (omega (arith, e, q))

      -- and takes the place of its period, where the budget changes,
      pub gather_with : (p : ℕ) → p < length places → (place_at places p).period ≡ T → {more : List Place}
          → more ≡ set places p (record (place_at places p) { budget = (place_at places p).budget + C }) → GatheredTo ts r more (j + 1)
      gather_with p l e {more} q = rw q (record {
        within = omega (arith, length-set places p changed, g.within);
        due = λ k m. at_place (DueAt 0) k (ℕ_discrete k p) (record { period_positive = (g.due p l).period_positive; period_most = (g.due p l).period_most; next_is = (g.due p l).next_is }) (g.due k (omega (arith, length-set places p changed)));
        budgets_most = λ k m. at_place (λ (x : Place). x.budget ≤ (j + 1) * 100000) k (ℕ_discrete k p) (omega (arith, g.budgets_most p l, a)) (omega (arith, g.budgets_most k (omega (arith, length-set places p changed))));
        sums = λ f add. more_sums f (g.sums f add)
            (omega (arith, sum_by-set (λ (x : Place). f x.period x.budget) places p changed (place_of none) l, add (place_at places p).period (place_at places p).budget C, ap (λ t. f t C) e));
      })
        where
          changed : Place
          changed = record (place_at places p) { budget = (place_at places p).budget + C }

          at_place : (P : Place → Type 0) (k : ℕ) → Dec (k ≡ p) → P changed → P (place_at places k) → P (place_at (set places p changed) k)
          at_place P k (yes z) x y = rw (z, get_or-set_same places p changed (place_of none) l) x
          at_place P k (no z) x y = rw (get_or-set_other places p k changed (place_of none) z) y

      -- or the next place.
      pub gather_in : {more : List Place} → more ≡ places ++ place_of (get_or ts j none) ∷ [] → GatheredTo ts r more (j + 1)
      gather_in {more} q = rw q (record {
        within = omega (arith, longer, g.within);
        due = λ k m. at_place (DueAt 0) k m (ℕ_discrete k (length places)) (starts_due a) (g.due k);
        budgets_most = λ k m. at_place (λ (x : Place). x.budget ≤ (j + 1) * 100000) k m (ℕ_discrete k (length places)) (omega (arith, a)) (λ l. omega (arith, g.budgets_most k l));
        sums = λ f add. more_sums f (g.sums f add) (sum_by_push (λ (x : Place). f x.period x.budget) places new);
      })
        where
          new : Place
          new = place_of (get_or ts j none)

          longer : length (places ++ new ∷ []) ≡ length places + 1
          longer = length-append places (new ∷ [])

          at_place : (P : Place → Type 0) (k : ℕ) → k < length (places ++ new ∷ []) → Dec (k ≡ length places) → P new → (k < length places → P (place_at places k)) → P (place_at (places ++ new ∷ []) k)
          at_place P k m (yes z) x y = rw (get_or_at places new [] (place_of none) k (sym z)) x
          at_place P k m (no z) x y = let l : k < length places = omega (arith, longer) in rw (get_or-append places (new ∷ []) (place_of none) k l) (y l)

      pub gather_more : {more : List Place} → Adds places (get_or ts j none) more → GatheredTo ts r more (j + 1)
      gather_more (inl (p, l, e, q)) = gather_with p l e q
      gather_more (inr q) = gather_in q

    -- or it does not: the places stay.
    pub gather_out : rank ts j ≤ r → GatheredTo ts r places (j + 1)
    unfolding sum
    gather_out h = record {
      within = omega (arith, g.within);
      due = g.due;
      budgets_most = λ p l. omega (arith, g.budgets_most p l);
      sums = λ f add. rw (add-one j, le-ltb r (rank ts j) h) (omega (arith, g.sums f add));
    }
