-- What a list of tasks and a chain come to, by evaluation of the backlog: whether it is accepted, its rows of responses, the chain's figures.
use Rattle.std.specs.Prelude.{◌≡◌, ◌≢◌, List, [], ◌∷◌, ℕ, zero, suc, ◌≤◌, ◌<◌, T, length, get_or}
use Rattle.std.proofs.Math.Path.{ap, fun_ext}
use Rattle.std.proofs.Common.{◌∙◌, arith}
use Rattle.std.proofs.Math.Bool.{decide}
use Rattle.std.proofs.Math.Decide.{ℕ_discrete, dec_le, dec_lt}
use Rattle.theory.specs.declared.Task.{Task}
use Rattle.arith.specs.Ranges.{maximum}
use Rattle.arith.specs.RangeLaws.{below_suc}
use Rattle.theory.specs.Model.Schedule.{period, budget, rank, Proper}
use Rattle.theory.specs.Model.Responses.{response, hyperperiod, jobs, task_response, Accepted}
use Rattle.theory.proofs.Analysis.Hyperperiod.{released_jobs}
use Rattle.theory.specs.Analysis.Clearing.{clearing}
use Rattle.theory.proofs.Analysis.Clearing.{response_clearing, late_clearing}
use Rattle.theory.specs.Model.Chain.{Chain, outranked, delay, sampling, sampling_release, bound}
use Rattle.theory.specs.Analysis.WalkLaws.{Along, Alike}
use Rattle.theory.proofs.Analysis.WalkLaws.{chain_along, alike_self, walk_delay_same, walk_worst_same, walk_worst_release_same, walk_bound_same}
use Rattle.theory.specs.Analysis.Evaluation.{Row}

-- What is decided to hold holds.
pub decided : {P : Type 0} (d : Dec P) → T (decide d) → P
unfolding decide
decided (yes p) h = p
decided (no n) h = absurd h

-- Whether P holds of all numbers below n.
unfoldable pub all? : (n : ℕ) (P : ℕ → Type 0) → ((x : ℕ) → Dec (P x)) → Dec ((x : ℕ) → x < n → P x)
all? zero P dec = yes (λ x l. absurd (omega arith))
all? (suc n) P dec = go (all? n P dec) (dec n)
  where
    go : Dec ((x : ℕ) → x < n → P x) → Dec (P n) → Dec ((x : ℕ) → x < suc n → P x)
    go (yes before) (yes here) = yes (below_suc P before here)
    go (yes before) (no here) = no (λ all. here (all n (omega arith)))
    go (no before) here = no (λ all. before (λ x l. all x (omega arith)))

implies? : {P Q : Type 0} → Dec P → Dec Q → Dec (P → Q)
implies? p (yes q) = yes (λ x. q)
implies? (yes p) (no q) = no (λ f. q (f p))
implies? (no p) (no q) = yes (λ x. absurd (p x))

-- The list is proper.
unfoldable pub proper? : (ts : List Task) → Dec (Proper ts)
unfolding all? implies? dec_lt ℕ_discrete
proper? ts = go (all? (length ts) _ (λ i. dec_lt 0 (period ts i))) (all? (length ts) _ (λ i. dec_lt 0 (budget ts i)))
    (all? (length ts) _ (λ i. all? (length ts) _ (λ j. implies? (ℕ_discrete (rank ts i) (rank ts j)) (ℕ_discrete i j))))
  where
    go : Dec ((i : ℕ) → i < length ts → 0 < period ts i) → Dec ((i : ℕ) → i < length ts → 0 < budget ts i)
        → Dec ((i : ℕ) → i < length ts → (j : ℕ) → j < length ts → rank ts i ≡ rank ts j → i ≡ j) → Dec (Proper ts)
    go (yes p) (yes b) (yes r) = yes (record { period_positive = p; budget_positive = b; ranks_differ = λ i j l m. r i l j m })
    go (no p) b r = no (λ x. p x.period_positive)
    go (yes p) (no b) r = no (λ x. b x.budget_positive)
    go (yes p) (yes b) (no r) = no (λ x. r (λ i l j m. x.ranks_differ i j l m))

-- No job released before H takes longer than its task's period to clear.
unfoldable pub clears? : (ts : List Task) → Dec ((i : ℕ) → i < length ts → (k : ℕ) → k < jobs ts i → clearing ts i k ≤ period ts i)
unfolding all? dec_le clearing hyperperiod
clears? ts = all? (length ts) _ (λ i. all? (jobs ts i) _ (λ k. dec_le (clearing ts i k) (period ts i)))

pub clears_accepted : {ts : List Task} → Proper ts
    → ((i : ℕ) → i < length ts → (k : ℕ) → k < jobs ts i → clearing ts i k ≤ period ts i) → Accepted ts
clears_accepted good clears = record {
  proper = good;
  none_late = λ i l x. omega (arith, clears i l x.0 (released_jobs good i l x.0 x.1), late_clearing good i x.0 l x.2);
}

unfoldable pub row? : (ts : List Task) (i : ℕ) (row : List ℕ) → Dec ((k : ℕ) → k < jobs ts i → clearing ts i k ≡ get_or row k 0)
unfolding all? ℕ_discrete clearing hyperperiod
row? ts i row = all? (jobs ts i) _ (λ k. ℕ_discrete (clearing ts i k) (get_or row k 0))

pub cleared_row : {ts : List Task} → Proper ts → (i : ℕ) (row : List ℕ) → i < length ts → length row ≡ jobs ts i
    → ((k : ℕ) → k < jobs ts i → clearing ts i k ≡ get_or row k 0) → Row ts i row
cleared_row good i row l whole each = record { whole = whole; each = λ k m. response_clearing good i k l ∙ each k m }

-- The chain is one of the list.
unfoldable pub chain? : (ts : List Task) (p : ℕ) (rest : List ℕ) → Dec (Chain ts p rest)
unfolding dec_lt ℕ_discrete
chain? ts p [] = dec_lt p (length ts)
chain? ts p (c ∷ rest) = go (dec_lt p (length ts)) (ℕ_discrete p c) (chain? ts c rest)
  where
    go : Dec (p < length ts) → Dec (p ≡ c) → Dec (Chain ts c rest) → Dec ((p < length ts) × (p ≢ c) × Chain ts c rest)
    go (yes l) (no e) (yes x) = yes (l, e, x)
    go (no l) e x = no (λ y. l y.0)
    go (yes l) (yes e) x = no (λ y. y.1 e)
    go (yes l) (no e) (no x) = no (λ y. x y.2)

-- A chain's figures are those by the clearing times.
module _ {ts : List Task} (good : Proper ts) (p : ℕ) (rest : List ℕ) (chain : Chain ts p rest) where
  cleared : (i k : ℕ) → i < length ts → response ts i k ≡ clearing ts i k
  cleared i k l = response_clearing good i k l

  self : Alike (λ i. i < length ts) (period ts) (period ts) (outranked ts) (outranked ts)
  self = alike_self (λ i. i < length ts) (period ts) (outranked ts)

  on : Along (λ i. i < length ts) p rest
  on = chain_along (length ts) p rest chain

  pub delay_clearing : (r : ℕ) → delay ts (response ts) p rest r ≡ delay ts (clearing ts) p rest r
  unfolding delay
  delay_clearing r = walk_delay_same self (response ts) (clearing ts) cleared p rest r on

  pub sampling_clearing : sampling ts (response ts) p rest ≡ sampling ts (clearing ts) p rest
  unfolding sampling
  sampling_clearing = walk_worst_same self (response ts) (clearing ts) cleared (hyperperiod ts) p rest on

  pub sampling_release_clearing : sampling_release ts (response ts) p rest ≡ sampling_release ts (clearing ts) p rest
  unfolding sampling_release
  sampling_release_clearing = walk_worst_release_same self (response ts) (clearing ts) cleared (hyperperiod ts) p rest on

  pub bound_clearing : bound ts (task_response ts) p rest ≡ bound ts (λ i. maximum (jobs ts i) (clearing ts i)) p rest
  unfolding task_response bound
  bound_clearing =
      walk_bound_same self (task_response ts) (λ i. maximum (jobs ts i) (clearing ts i))
      (λ i l. ap (maximum (jobs ts i)) (fun_ext (λ k. cleared i k l))) p rest on
