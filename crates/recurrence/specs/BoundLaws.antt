-- The quick bound along a chain of a sheet's tasks, pair by pair.
use Rattle.std.specs.Prelude.{◌≡◌, List, ◌∷◌, ℕ, zero, suc, ◌+◌, ◌-◌, ◌≤◌, ◌<◌, length}
use Rattle.std.proofs.Math.Path.{refl, ap}
use Rattle.std.proofs.Common.{sym, ap₂, ◌∙◌, add-one, drop_of_length-le, drop-cons}
use native.Mathlib.Omega.{arith}
use Rattle.std.proofs.Math.ListN.{get_or, drop, length-drop, take, length-take}
use Rattle.std.proofs.lemmas.Grind.{get_or_after_one}
use Rattle.std.proofs.lemmas.List.{get_or-take}
use Rattle.arith.specs.Whole.{gcd, up}
use Rattle.arith.specs.WholeLaws.{up_near, up_zero}
use Rattle.theory.specs.Model.Schedule.{none, period}
use Rattle.theory.specs.Model.Chain.{outranked, bound, walk_bound}
use Rattle.theory.specs.Model.Recurrence.{quick_response}
use Rattle.theory.specs.Analysis.Largest.{SmallTask}
use Rattle.theory.proofs.Analysis.Largest.{common_most, along_chain, bound_most}
use Rattle.answers.specs.Answers.{fine}
use Rattle.sheet.specs.declared.Chain.{Chain}
use Rattle.sheet.specs.declared.Sheet.{Sheet}
use Rattle.sheet.specs.Sound.{Sound}
use Rattle.sheet.specs.Tasks.{tasks_of, lacks, chain_at, first_of, rest_of, entries_of}
use Rattle.sheet.specs.TaskLaws.{tasks_length, task_at_lem, period_at, place_allowed, task_allowed, chain_place, entry_listed, chain_known}
use Rattle.recurrence.specs.Calls.{pair_added, bound_by, bounds_of}
use Rattle.recurrence.specs.Conditions.{most_period, most_bound, Responding, ChainOn, ChainIn, pair_of}

-- The least multiple is less than one after it.
pub up_most : (T x : ℕ) → up T x ≤ x + T
up_most zero x = omega (arith, up_zero x)
up_most (suc t) x = omega (arith, up_near (suc t) x (omega arith))

-- What is left of the bound at entry j of the chain.
unfoldable pub bound_from : Sheet → List ℕ → ℕ → ℕ
bound_from s chain j = bound (tasks_of s) (quick_response (tasks_of s)) (get_or chain j 0) (drop (j + 1) chain)

module _ (s : Sheet) (chain : List ℕ) where
  pub bound_start : bound_from s chain 0 ≡ bound_by (tasks_of s) chain
  unfolding bound_from
  bound_start = refl

  -- A pair, and what is left after it,
  pub bound_turn : (j : ℕ) → j + 1 < length chain → bound_from s chain j ≡ pair_of s (get_or chain j 0) (get_or chain (j + 1) 0) + bound_from s chain (j + 1)
  unfolding bound_from bound walk_bound
  bound_turn j l =
      ap (bound (tasks_of s) (quick_response (tasks_of s)) (get_or chain j 0))
      (drop-cons chain (j + 1) 0 l ∙ ap (λ n. get_or chain (j + 1) 0 ∷ drop n chain) (sym (add-one (j + 1))))

  -- or the last task.
  pub bound_last : (j : ℕ) → j + 1 ≡ length chain → bound_from s chain j ≡ quick_response (tasks_of s) (get_or chain j 0)
  unfolding bound_from bound walk_bound
  bound_last j e =
      ap (bound (tasks_of s) (quick_response (tasks_of s)) (get_or chain j 0)) (drop_of_length-le chain {i = j + 1} (omega arith))

-- The chain of a number,
pub chain_in : {s : Sheet} → Sound s → (number : ℕ) → lacks s number ≡ fine → ChainIn s (chain_at s number)
chain_in ok number known = record {
  is_chain = chain_known _ ok number known;
  entry_below = λ j l. omega (arith, entry_listed _ ok number known j l, tasks_length _ ok);
  some = ok.length_least (number - 1) (chain_place _ ok number known);
  few = omega (arith, ok.length_most (number - 1) (chain_place _ ok number known), ok.count_most);
}

-- by its entries, which stand in sixteen places.
pub chain_on : {s : Sheet} {chain : Chain} → ChainIn s chain → length chain.entries ≡ 16 → ChainOn s (entries_of chain)
chain_on {chain = chain} on whole = record {
  is_chain = on.is_chain;
  entry_below = on.entry_below;
  some = omega (arith, length-take chain.length chain.entries, on.some);
  few = omega (arith, length-take chain.length chain.entries, on.few);
}

pub chain_first : (chain : Chain) → 1 ≤ chain.length → first_of (entries_of chain) ≡ get_or chain.entries 0 0
chain_first chain some = get_or-take chain.length chain.entries 0 0 some

module _ {s : Sheet} (ok : Sound s) {responses : List ℕ} (responding : Responding s responses) where
  pub small : (i : ℕ) → i < s.count → SmallTask most_period (period (tasks_of s)) (quick_response (tasks_of s)) i
  small i l =
      let t = task_allowed s ok i (omega (arith, tasks_length _ ok)) in
      record {
        period_positive = t.period_positive;
        period_most = t.period_most;
        response_most = omega (arith, responding.response_most i l, t.period_most);
      }

  -- Sixteen tasks: fifteen pairs and the last response.
  pub bound_small : {chain : List ℕ} → ChainOn s chain → bound_by (tasks_of s) chain ≤ most_bound
  unfolding bound
  bound_small {chain} on = omega (
    arith,
    bound_most most_period (period (tasks_of s)) (outranked (tasks_of s)) (quick_response (tasks_of s)) (first_of chain) (rest_of chain)
        (along_chain (SmallTask most_period (period (tasks_of s)) (quick_response (tasks_of s))) (length (tasks_of s))
        (λ i l. small i (omega (arith, tasks_length _ ok))) (first_of chain) (rest_of chain) on.is_chain),
    length-drop 1 chain,
    on.few,
  )

  -- A pair, by the tasks in its places.
  pub pair_at : (p c : ℕ) → p < s.count → c < s.count → pair_of s p c ≡ pair_added (get_or s.tasks p none) (get_or s.tasks c none) (get_or responses p 0)
  pair_at p c kp kc =
      ap (pair_added (get_or (tasks_of s) p none) (get_or (tasks_of s) c none)) (sym (responding.response_is p kp))
      ∙ ap₂ (λ x y. pair_added x y (get_or responses p 0)) (task_at_lem _ ok p kp) (task_at_lem _ ok c kc)

  -- How large its numbers are.
  module _ (p c : ℕ) (kp : p < s.count) (kc : c < s.count) where
    abbrev T : ℕ → ℕ
    T i = (get_or s.tasks i none).period

    abbrev g : ℕ
    g = gcd (T p) (T c)

    pub pair_near : (g ≤ T c) × (up g (get_or responses p 0) ≤ T c + most_period) × (T c ≤ most_period)
    pair_near =
        let both = common_most (period (tasks_of s)) p c (small p kp).period_positive (small c kc).period_positive in
        let most = rw (period_at _ ok p kp, period_at _ ok c kc) at both in
        (most.1, omega (arith, most, up_near g (get_or responses p 0) most.0, responding.response_is p kp, (small p kp).response_most), (place_allowed _ ok c kc).period_most)

  -- A pair is taken from what is left, so the sum stays small.
  pub pair_taken : {chain : List ℕ} → ChainOn s chain → (j : ℕ) → j + 1 < length chain → {p c : ℕ} (ticks : ℕ) {added : ℕ}
      → p ≡ get_or chain j 0 → c ≡ get_or chain (j + 1) 0 → ticks + bound_from s chain j ≡ bound_by (tasks_of s) chain
      → added ≡ pair_added (get_or s.tasks p none) (get_or s.tasks c none) (get_or responses p 0)
      → (ticks + added + bound_from s chain (j + 1) ≡ bound_by (tasks_of s) chain) × (ticks + added ≤ most_bound)
  pair_taken {chain} on j l {p} {c} ticks {added} at next e is = (sum, omega (arith, sum, bound_small on))
    where
      pair : added ≡ pair_of s (get_or chain j 0) (get_or chain (j + 1) 0)
      pair =
          is ∙ ap₂ (λ p c. pair_added (get_or s.tasks p none) (get_or s.tasks c none) (get_or responses p 0)) at next
          ∙ sym (pair_at (get_or chain j 0) (get_or chain (j + 1) 0) (on.entry_below j (omega arith)) (on.entry_below (j + 1) l))

      sum : ticks + added + bound_from s chain (j + 1) ≡ bound_by (tasks_of s) chain
      sum = omega (arith, e, pair, bound_turn s chain j l)

  -- What is left at the end is the last task's response.
  pub pairs_taken : {chain : List ℕ} → ChainOn s chain → (j : ℕ) {p : ℕ} (ticks : ℕ) → j + 1 ≡ length chain → p ≡ get_or chain j 0
      → ticks + bound_from s chain j ≡ bound_by (tasks_of s) chain
      → (ticks + get_or responses p 0 ≡ bound_by (tasks_of s) chain) × (ticks + get_or responses p 0 ≤ most_bound)
  pairs_taken {chain} on j {p} ticks all at e =
      let last = ap (λ p. get_or responses p 0) at ∙ responding.response_is (get_or chain j 0) (on.entry_below j (omega arith)) in
      let sum : ticks + get_or responses p 0 ≡ bound_by (tasks_of s) chain = omega (arith, e, last, bound_last s chain j all) in
      (sum, omega (arith, sum, bound_small on))

  -- A flag waits for its job up to T − 1 of the first task.
  pub with_flag : {chain : Chain} → ChainIn s chain → ChainOn s (entries_of chain) → {b : ℕ} → b ≡ bound_by (tasks_of s) (entries_of chain)
      → let T = (get_or s.tasks (get_or chain.entries 0 0) none).period in
      (record { sampling_bound = b; bound = b + (T - 1) } ≡ bounds_of (tasks_of s) (entries_of chain)) × (b + (T - 1) ≤ most_bound + most_period)
  with_flag {chain} has on {b} e = (ap₂ (λ b T. record { sampling_bound = b; bound = b + (T - 1) }) e T_is, omega (arith, e, bound_small on, T_is, most))
    where
      known : first_of (entries_of chain) < s.count
      known = on.entry_below 0 on.some

      T_is : (get_or s.tasks (get_or chain.entries 0 0) none).period ≡ period (tasks_of s) (first_of (entries_of chain))
      T_is = ap (λ i. (get_or s.tasks i none).period) (sym (chain_first chain has.some)) ∙ sym (period_at _ ok (first_of (entries_of chain)) known)

      most : period (tasks_of s) (first_of (entries_of chain)) ≤ most_period
      most = (small (first_of (entries_of chain)) known).period_most

-- The entries that follow the first.
pub entry_is : (chain : List ℕ) (j : ℕ) → j < length (take (length chain - 1) (drop 1 chain))
    → (j + 1 < length chain) × (get_or (take (length chain - 1) (drop 1 chain)) j 0 ≡ get_or chain (j + 1) 0)
entry_is chain j l = (
  omega (arith, length-take (length chain - 1) (drop 1 chain), length-drop 1 chain),
  get_or-take (length chain - 1) (drop 1 chain) j 0 (omega (arith, length-take (length chain - 1) (drop 1 chain)))
      ∙ get_or_after_one chain j 0
      ∙ ap (λ i. get_or chain i 0) {x = 1 + j} {y = j + 1} (omega arith),
)
