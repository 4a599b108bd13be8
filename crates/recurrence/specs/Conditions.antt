-- What the functions under the call promise each other.
use Rattle.std.specs.Prelude.{◌≡◌, List, ℕ, ◌+◌, ◌*◌, ◌≤◌, ◌<◌, ltb, filter, length, get_or, sum_by, take}
use Rattle.theory.specs.declared.Task.{Task}
use Rattle.theory.specs.Model.Schedule.{period}
use Rattle.theory.specs.Model.Chain.{Chain, outranked}
use Rattle.theory.specs.Model.Recurrence.{quotient, quick_response}
use Rattle.theory.specs.Analysis.Largest.{pair_bound}
use Rattle.sheet.specs.declared.Chain.{Chain as SheetChain}
use Rattle.answers.specs.Answers.{fine}
use Rattle.sheet.specs.declared.Sheet.{Sheet}
use Rattle.sheet.specs.declared.sound.Judged.{Judged}
use Rattle.sheet.specs.Lateness.{lateness}
use Rattle.recurrence.specs.Calls.{passing_greatest, responses_in}
use Rattle.sheet.specs.Tasks.{tasks_of, entries_of, first_of, rest_of}

-- A period is at most 100,000; then a task claims at most 200,000 of so many ticks, and sixteen with a budget at most 3,300,000; a pair adds
-- at most 200,000 to a bound, and a chain of sixteen tasks has one of at most 3,100,000.
abbrev pub most_period : ℕ
most_period = 100000

abbrev pub most_share : ℕ
most_share = 200000

abbrev pub most_claim : ℕ
most_claim = 3300000

abbrev pub most_bound : ℕ
most_bound = 3100000

-- The tasks of a greater rank than this, in their order.
abbrev pub higher : List Task → ℕ → List Task
higher ts rank = filter (λ t. ltb rank t.rank) ts

-- They stand in the first places of sixteen.
pub record Gathered (s : Sheet) (rank : ℕ) (places : List Task) (size : ℕ) : Type 0 where
  pub are : take size places ≡ higher (tasks_of s) rank
  pub room : length places ≡ 16
  pub few : size ≤ 16

-- A task in a place, by its period and its budget; the budget may be 0.
pub record Placed (t : Task) : Type 0 where
  pub period_positive : 0 < t.period
  pub period_most : t.period ≤ most_period
  pub budget_most : t.budget ≤ t.period

-- What is claimed at x by a task of this budget and by those that outrank it.
unfoldable pub claim_in : List Task → ℕ → ℕ → ℕ
unfolding quotient
claim_in outranking own x = own + sum_by (λ t. t.budget * quotient x t.period) outranking

-- The responses of the sheet's tasks are in their places, and none passes its period.
pub record Responding (s : Sheet) (responses : List ℕ) : Type 0 where
  pub response_is : (i : ℕ) → i < s.count → get_or responses i 0 ≡ quick_response (tasks_of s) i
  pub response_most : (i : ℕ) → i < s.count → quick_response (tasks_of s) i ≤ period (tasks_of s) i

-- They are answered of this sheet: none passes its period, so there is nothing against it.
pub record Timely (s t : Judged) (responses : List ℕ) : Type 0 where
  pub same : t ≡ s
  pub each_is : responses ≡ responses_in s.sheet
  pub none_late : lateness (passing_greatest (tasks_of s.sheet) (length (tasks_of s.sheet))) ≡ fine

-- A chain of the sheet's tasks.
pub record ChainOn (s : Sheet) (chain : List ℕ) : Type 0 where
  pub is_chain : Chain (tasks_of s) (first_of chain) (rest_of chain)
  pub entry_below : (j : ℕ) → j < length chain → get_or chain j 0 < s.count
  pub some : 1 ≤ length chain
  pub few : length chain ≤ 16

-- The entries of a chain are one.
pub record ChainIn (s : Sheet) (chain : SheetChain) : Type 0 where
  pub is_chain : Chain (tasks_of s) (first_of (entries_of chain)) (rest_of (entries_of chain))
  pub entry_below : (j : ℕ) → j < length (entries_of chain) → get_or (entries_of chain) j 0 < s.count
  pub some : 1 ≤ chain.length
  pub few : chain.length ≤ 16

-- What a pair of neighbours adds to the quick bound.
abbrev pub pair_of : Sheet → ℕ → ℕ → ℕ
pair_of s = pair_bound (period (tasks_of s)) (outranked (tasks_of s)) (quick_response (tasks_of s))
