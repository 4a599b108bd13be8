-- A task's responses do not know the tasks that are ranked below it: its level names none of them, so its backlog is the same without them.
use Rattle.std.specs.Prelude.{◌≡◌, refl, List, leb, eqb}
use Rattle.std.proofs.Math.Path.{sym, ap, ap₂, fun_ext}
use Rattle.std.proofs.Common.{◌∙◌, arith}
use Prim.Native.Nat.{ℕ, suc, ◌+◌, ◌*◌, ◌%◌, ◌≤◌, ◌<◌}
use Rattle.std.proofs.Math.Decide.{dec_le, dec_lt}
use Rattle.std.proofs.Math.ListN.{length, get_or, get_or-eq_default}
use Rattle.std.proofs.lemmas.Bool.{lt-leb}
use Rattle.arith.specs.Ranges.{sum}
use Rattle.arith.specs.RangeLaws.{sum_eq, sum_longer}
use Rattle.theory.specs.declared.Task.{Task}
use Rattle.theory.specs.Model.Schedule.{none, rank, Proper, released}
use Rattle.theory.specs.Model.Responses.{full, response, task_response}
use Rattle.theory.specs.Analysis.Level.{level}
use Rattle.theory.proofs.Analysis.Level.{cond_zero}
use Rattle.theory.specs.Analysis.Backlog.{load, drain}
use Rattle.theory.specs.Analysis.Clearing.{until, clearing}
use Rattle.theory.proofs.Analysis.Clearing.{response_clearing}
use Rattle.theory.proofs.Analysis.QuickLaws.{quick_response_first, quick_response_task}
use Rattle.theory.specs.Analysis.LowerLaws.{From, SameFrom, share}

share_lower : (t : ℕ) (x y : Task) → y.rank < x.rank → share t x y ≡ 0
share_lower t x y l = rw (lt-leb x.rank y.rank l)

share_none : (t : ℕ) (x : Task) → share t x none ≡ 0
share_none t x = cond_zero (leb x.rank 0) (cond_zero (eqb (t % 0) 0) refl)

-- A place past the list, or with a lower rank, gives nothing.
module _ (rank₀ : ℕ) (ts : List Task) (x : Task) (high : rank₀ ≤ x.rank) (t : ℕ) where
  share_past : (j : ℕ) → length ts ≤ j → share t x (get_or ts j none) ≡ 0
  share_past j l = ap (share t x) (get_or-eq_default ts none l) ∙ share_none t x

  share_out : (j : ℕ) → ¬ (From rank₀ ts j) → share t x (get_or ts j none) ≡ 0
  share_out j out = go (dec_lt j (length ts)) (dec_le rank₀ (rank ts j))
    where
      go : Dec (j < length ts) → Dec (rank₀ ≤ rank ts j) → share t x (get_or ts j none) ≡ 0
      go (no l) h = share_past j (omega arith)
      go (yes l) (yes h) = absurd (out (record { known = l; ranked = h }))
      go (yes l) (no h) = share_lower t x (get_or ts j none) (omega arith)

  -- So the load is a sum over any number of places that is enough.
  load_places : (n : ℕ) → length ts ≤ n → sum (length ts) (λ j. share t x (get_or ts j none)) ≡ sum n (λ j. share t x (get_or ts j none))
  load_places n l = sum_longer (λ j. share t x (get_or ts j none)) (length ts) n l share_past

from? : (rank₀ : ℕ) (ts : List Task) (i : ℕ) → Dec (From rank₀ ts i)
from? rank₀ ts i = go (dec_lt i (length ts)) (dec_le rank₀ (rank ts i))
  where
    go : Dec (i < length ts) → Dec (rank₀ ≤ rank ts i) → Dec (From rank₀ ts i)
    go (yes l) (yes h) = yes (record { known = l; ranked = h })
    go (no l) h = no (λ f. l f.known)
    go (yes l) (no h) = no (λ f. h f.ranked)

module _ {rank₀ : ℕ} {ts us : List Task} (same : SameFrom rank₀ ts us) (i : ℕ) (from : From rank₀ ts i) where
  pub same_task : get_or ts i none ≡ get_or us i none
  same_task = (same.left i from).1

  pub same_known : i < length us
  same_known = (same.left i from).0

  share_same : (t j : ℕ) → share t (get_or ts i none) (get_or ts j none) ≡ share t (get_or ts i none) (get_or us j none)
  share_same t j = go (from? rank₀ ts j) (from? rank₀ us j)
    where
      go : Dec (From rank₀ ts j) → Dec (From rank₀ us j) → share t (get_or ts i none) (get_or ts j none) ≡ share t (get_or ts i none) (get_or us j none)
      go (yes f) g = ap (share t (get_or ts i none)) (same.left j f).1
      go (no f) (yes g) = ap (share t (get_or ts i none)) (same.right j g).1
      go (no f) (no g) =
          share_out rank₀ ts (get_or ts i none) from.ranked t j f ∙ sym (share_out rank₀ us (get_or ts i none) from.ranked t j g)

  load_same : (t : ℕ) → load ts (full ts) i t ≡ load us (full us) i t
  unfolding load level released
  load_same t =
      let x = get_or ts i none in
      let n = length ts + length us in
      load_places rank₀ ts x from.ranked t n (omega arith)
      ∙ sum_eq n (λ j. share t x (get_or ts j none)) (λ j. share t x (get_or us j none)) (λ j l. share_same t j)
      ∙ sym (load_places rank₀ us x from.ranked t n (omega arith))
      ∙ ap (λ y. sum (length us) (λ j. share t y (get_or us j none))) same_task

  clearing_same : (k : ℕ) → clearing ts i k ≡ clearing us i k
  unfolding clearing
  clearing_same k = ap₂ (λ a T. suc (until a T (drain a (suc (k * T))) (suc (k * T)))) (fun_ext load_same) (ap (λ (x : Task). x.period) same_task)

  -- Each job of the task has the same response on both lists, and so has the task.
  module _ (good : Proper ts) (good' : Proper us) where
    pub response_same : (k : ℕ) → response ts i k ≡ response us i k
    response_same k = response_clearing good i k from.known ∙ clearing_same k ∙ sym (response_clearing good' i k same_known)

    pub task_response_same : task_response ts i ≡ task_response us i
    task_response_same =
        sym (quick_response_task good i from.known) ∙ quick_response_first good i from.known ∙ response_same 0
        ∙ sym (quick_response_first good' i same_known) ∙ quick_response_task good' i same_known
