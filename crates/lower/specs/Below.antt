-- When two sheets differ only below chain one, so that nothing that is said of that chain changes. Quotations are from document 02, P10.
use Rattle.std.specs.Prelude.{◌≡◌, ℕ, ◌≤◌, ◌<◌, length, get_or}
use Rattle.theory.specs.Model.Schedule.{period, budget, rank}
use Rattle.sheet.specs.declared.Sheet.{Sheet}
use Rattle.sheet.specs.Tasks.{tasks_of, chain_of, rest_of}

-- The tasks of chain one: its first, in place 0, and those that follow, up to the last place.
abbrev pub chain_task : Sheet → ℕ → ℕ
chain_task s place = get_or (chain_of s 1) place 0

abbrev pub last_place : Sheet → ℕ
last_place s = length (rest_of (chain_of s 1))

-- Task i of the sheet is "ranked below the whole chain": each task of the chain has a greater rank.
abbrev pub BelowChain : Sheet → ℕ → Type 0
BelowChain s i = (place : ℕ) → place ≤ last_place s → rank (tasks_of s) i < rank (tasks_of s) (chain_task s place)

-- The index "holds the same period, budget and rank on both": each sheet has a task there, and these are alike.
pub record HoldsSame (old new : Sheet) (i : ℕ) : Type 0 where
  pub on_old : i < old.count
  pub on_new : i < new.count
  pub same_period : period (tasks_of old) i ≡ period (tasks_of new) i
  pub same_budget : budget (tasks_of old) i ≡ budget (tasks_of new) i
  pub same_rank : rank (tasks_of old) i ≡ rank (tasks_of new) i

-- "the same chain one. Tasks ranked below the whole chain may differ at will, also in number; every index whose task on either sheet is not
-- below it holds the same period, budget and rank on both." A chain is its length and its entries; its limit may differ.
pub record DifferBelow (old new : Sheet) : Type 0 where
  pub same_chain : chain_of old 1 ≡ chain_of new 1
  pub old_tasks : (i : ℕ) → i < old.count → ¬ (BelowChain old i) → HoldsSame old new i
  pub new_tasks : (i : ℕ) → i < new.count → ¬ (BelowChain new i) → HoldsSame old new i
