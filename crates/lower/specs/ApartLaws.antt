-- From two sheets that differ only below chain one to their lists of tasks: each task of that chain is apart from what differs.
use Rattle.std.specs.Prelude.{◌≡◌, List, [], ◌∷◌, ℕ, zero, suc, ◌≤◌, ◌<◌, length, get_or}
use Rattle.std.proofs.Common.{sym, ap, ap₂, ◌∙◌, subst, arith}
use Rattle.theory.specs.declared.Task.{Task}
use Rattle.theory.specs.Model.Schedule.{none, period, budget, rank}
use Rattle.theory.specs.Model.Responses.{Accepted}
use Rattle.theory.specs.Model.Chain.{Chain}
use Rattle.theory.specs.Analysis.WalkLaws.{Along}
use Rattle.theory.proofs.Analysis.WalkLaws.{chain_along}
use Rattle.theory.specs.Results.LowerRanks.{SameFigures, Apart}
use Rattle.theory.proofs.Results.LowerRanks.{apart_figures}
use Rattle.sheet.specs.declared.Sheet.{Sheet}
use Rattle.sheet.specs.Sound.{Sound}
use Rattle.sheet.specs.Tasks.{tasks_of, chain_of, first_of, rest_of}
use Rattle.sheet.specs.TaskLaws.{tasks_length, chain_known}
use Rattle.lower.specs.Below.{chain_task, last_place, HoldsSame, DifferBelow}
use Rattle.lower.specs.CallLaws.{one_known}

-- From place to place, and from task to task.
entries_along : (These : ℕ → Type 0) (chain : List ℕ) → ((place : ℕ) → place ≤ length (rest_of chain) → These (get_or chain place 0))
    → Along These (first_of chain) (rest_of chain)
entries_along These [] h = h 0 (omega arith)
entries_along These (p ∷ []) h = h 0 (omega arith)
entries_along These (p ∷ c ∷ rest) h = (h 0 (omega arith), entries_along These (c ∷ rest) (λ place l. h (suc place) (omega arith)))

along_entries : (These : ℕ → Type 0) (chain : List ℕ) → Along These (first_of chain) (rest_of chain)
    → (place : ℕ) → place ≤ length (rest_of chain) → These (get_or chain place 0)
along_entries These [] on zero l = on
along_entries These [] on (suc place) l = absurd (omega arith)
along_entries These (p ∷ []) on zero l = on
along_entries These (p ∷ []) on (suc place) l = absurd (omega arith)
along_entries These (p ∷ c ∷ rest) on zero l = on.0
along_entries These (p ∷ c ∷ rest) on (suc place) l = along_entries These (c ∷ rest) on.1 place (omega arith)

-- Two sheets whose fields are fine and that differ only below chain one: each task of that chain is apart from what differs.
module _ {old new : Sheet} (below : DifferBelow old new) (ok : Sound old) (ok' : Sound new) where
  abbrev ts : List Task
  ts = tasks_of old

  abbrev us : List Task
  us = tasks_of new

  abbrev one : List ℕ
  one = chain_of old 1

  pub first_chain : Chain ts (first_of one) (rest_of one)
  first_chain = chain_known _ ok 1 (one_known _ ok)

  second_chain : Chain us (first_of one) (rest_of one)
  second_chain = subst (λ c. Chain us (first_of c) (rest_of c)) (sym below.same_chain) (chain_known _ ok' 1 (one_known _ ok'))

  same_there : (j : ℕ) → HoldsSame old new j → get_or ts j none ≡ get_or us j none
  same_there j h =
      ap₂ (λ T C. record { period = T; budget = C; rank = rank ts j }) h.same_period h.same_budget
      ∙ ap (λ r. record { period = period us j; budget = budget us j; rank = r }) h.same_rank

  module _ (place : ℕ) (on : place ≤ last_place old) where
    abbrev i : ℕ
    i = chain_task old place

    listed : i < length ts
    listed = along_entries (λ i. i < length ts) one (chain_along (length ts) (first_of one) (rest_of one) first_chain) place on

    pub task_same : HoldsSame old new i
    task_same = below.old_tasks i (omega (arith, listed, tasks_length _ ok)) (λ under. omega (arith, under place on))

    there : (place ≤ last_place new) × (chain_task new place ≡ i)
    there = (subst (λ c. place ≤ length (rest_of c)) below.same_chain on, ap (λ c. get_or c place 0) (sym below.same_chain))

    pub task_apart : Apart ts us i
    task_apart = record {
      known = listed;
      same = record {
        left = λ j from.
            let h = below.old_tasks j (omega (arith, from.known, tasks_length _ ok)) (λ under. omega (arith, under place on, from.ranked)) in
            (omega (arith, h.on_new, tasks_length _ ok'), same_there j h);
        right = λ j from.
            let high : rank us (chain_task new place) ≤ rank us j = rw there.1 (omega (arith, from.ranked, task_same.same_rank)) in
            let h = below.new_tasks j (omega (arith, from.known, tasks_length _ ok')) (λ under. omega (arith, under place there.0, high)) in
            (omega (arith, h.on_old, tasks_length _ ok), same_there j h);
      };
    }

  pub chain_apart : Along (Apart ts us) (first_of one) (rest_of one)
  chain_apart = entries_along (Apart ts us) one task_apart

  pub figures_same : Accepted ts → Accepted us → SameFigures ts us (first_of one) (rest_of one)
  figures_same accepted accepted' = apart_figures accepted accepted' (first_of one) (rest_of one) first_chain second_chain chain_apart

  pub first_period_same : period ts (first_of one) ≡ period us (first_of one)
  first_period_same = (task_same 0 (omega arith)).same_period
