-- The largest figures: how long a hand-over and a chain can take where periods and responses are at most 100,000 ticks.
use mathlib.Core.List.{List, [], ◌∷◌}
use Rattle.std.specs.Prelude.{Bool, cond, ℕ, suc, ◌+◌, ◌*◌, ◌/◌, ◌≤◌, ◌<◌, get_or}
use Rattle.std.proofs.Math.Bool.{true, false}
use Rattle.std.proofs.Common.{le_trans}
use native.Mathlib.Omega.{arith}
use Rattle.std.proofs.Math.ListN.{length, length-drop}
use Rattle.arith.specs.Whole.{up}
use Rattle.arith.specs.WholeLaws.{up_near}
use Rattle.arith.specs.RangeLaws.{maximum_least}
use Rattle.theory.specs.Model.Flag.{from_flag}
use Rattle.theory.specs.declared.Task.{Task}
use Rattle.theory.specs.Model.Schedule.{period, release}
use Rattle.theory.specs.Model.Chain.{Waits, Table, walk_next, walk_delay, outranked, delay, sampling, bound}
use Rattle.theory.specs.Model.Responses.{response, jobs, task_response}
use Rattle.theory.proofs.Analysis.Repetition.{response_period}
use Rattle.theory.specs.Analysis.Largest.{Along, SmallTask}
use Rattle.theory.proofs.Analysis.Largest.{along_first, along_chain, bound_most}
use Rattle.theory.proofs.Analysis.ChainLaws.{chain_head}
use Rattle.sheet.specs.Tasks.{first_of, rest_of}
use Rattle.chain.specs.Most.{most_period, most_wait, most_figure, most_worst}
use Rattle.chain.specs.Conditions.{TakenChain}
use Rattle.chain.specs.Calls.{figure_of, quick_bound}

-- What holds of every entry holds along the chain.
pub along_entries : (P : ℕ → Type 0) (chain : List ℕ) → 0 < length chain → ((j : ℕ) → j < length chain → P (get_or chain j 0)) → Along P (first_of chain) (rest_of chain)
along_entries P [] some each = absurd (omega arith)
along_entries P (p ∷ []) some each = each 0 (omega arith)
along_entries P (p ∷ c ∷ rest) some each = (each 0 (omega arith), along_entries P (c ∷ rest) (omega arith) (λ j l. each (suc j) (omega arith)))

-- ---- figures

-- The period of task i, and its responses, are at most the longest period.
pub record Small (T : ℕ → ℕ) (table : Table) (i : ℕ) : Type 0 where
  pub period_positive : 0 < T i
  pub period_most : T i ≤ most_period
  pub response_most : (k : ℕ) → table i k ≤ most_period

module _ (T : ℕ → ℕ) (waits : Waits) (table : Table) where
  pub next_most : (p c r : ℕ) → Small T table p → Small T table c → walk_next T waits table p c r ≤ r + most_wait
  unfolding walk_next
  next_most p c r sp sc = go (waits p c)
    where
      go : (b : Bool) → up (T c) (cond b (r + table p (r / T p)) r) ≤ r + most_wait
      go true = omega (arith, up_near (T c) (r + table p (r / T p)) sc.period_positive, sp.response_most (r / T p), sc.period_most)
      go false = omega (arith, up_near (T c) r sc.period_positive, sc.period_most)

  -- A wait for each hand-over, and the last job's response.
  pub delay_most : (p : ℕ) (rest : List ℕ) (r : ℕ) → Along (Small T table) p rest → walk_delay T waits table p rest r ≤ most_wait * length rest + most_period
  unfolding walk_delay
  delay_most p [] r s = omega (arith, s.response_most (r / T p))
  delay_most p (c ∷ rest) r s =
      omega (
        arith,
        next_most p c r s.0 (along_first (Small T table) c rest s.1),
        delay_most c rest (walk_next T waits table p c r) s.1,
      )

-- ---- the figures of a chain that is answered

module _ {ts : List Task} {chain : List ℕ} (taken : TakenChain ts chain) where
  task_small : (i : ℕ) → i < length ts → Small (period ts) (response ts) i
  task_small i l = record {
    period_positive = taken.tasks.accepted.proper.period_positive i l;
    period_most = taken.tasks.period_most i l;
    response_most = λ k. le_trans (response_period taken.tasks.accepted i l k) (taken.tasks.period_most i l);
  }

  abbrev p : ℕ
  p = first_of chain

  abbrev rest : List ℕ
  rest = rest_of chain

  known : p < length ts
  known = chain_head ts p rest taken.known

  -- Sixteen tasks: fifteen hand-overs and the last response,
  pub sampling_most : (figure_of ts chain).ticks ≤ most_figure
  unfolding sampling
  sampling_most = maximum_least (jobs ts p) (λ k. delay ts (response ts) p rest (release ts p k)) most_figure (λ k l. omega (
    arith,
    length-drop 1 chain,
    taken.few,
    delay_most (period ts) (outranked ts) (response ts) p rest (release ts p k) (along_chain (Small (period ts) (response ts)) (length ts) task_small p rest taken.known),
  ))

  -- or the greatest responses instead;
  pub quick_most : quick_bound ts chain ≤ most_figure
  unfolding bound task_response
  quick_most = omega (
    arith,
    length-drop 1 chain,
    taken.few,
    bound_most most_period (period ts) (outranked ts) (task_response ts) p rest (along_chain (SmallTask most_period (period ts) (task_response ts)) (length ts) greatest_small p rest taken.known),
  )
    where
      greatest_small : (i : ℕ) → i < length ts → SmallTask most_period (period ts) (task_response ts) i
      greatest_small i l = let x = task_small i l in record {
        period_positive = x.period_positive;
        period_most = x.period_most;
        response_most = maximum_least (jobs ts i) (response ts i) most_period (λ k m. x.response_most k);
      }

  -- and from a flag on, a period more.
  pub worst_most : from_flag ts (first_of chain) (figure_of ts chain).ticks ≤ most_worst
  worst_most = omega (arith, sampling_most, taken.tasks.period_most p known)
