-- Refusal 15, "exactly when": the test of a late task tells whether one of its jobs released before H is late, and `late_greatest` the greatest-ranked late task.
use Rattle.std.specs.Prelude.{◌≡◌, refl, List, true, ℕ, suc, ◌≤◌, ◌<◌, length}
use Rattle.std.proofs.Common.{sym, ap, ◌∙◌, subst, arith, ltb-true, lt-ltb}
use Rattle.std.proofs.lemmas.Bool.{false≢true}
use Rattle.theory.specs.declared.Task.{Task}
use Rattle.arith.specs.Ranges.{least}
use Rattle.arith.specs.RangeLaws.{least_passes, least_first}
use Rattle.theory.specs.Model.Schedule.{release, rank, Proper, need, Slot, idle, busy, done}
use Rattle.theory.specs.Analysis.GreatestLaws.{IsGreatest}
use Rattle.theory.proofs.Analysis.GreatestLaws.{greatest_is}
use Rattle.theory.specs.Model.Responses.{full, full_budget, jobs, Late, LateTask, Accepted}
use Rattle.theory.proofs.Analysis.Hyperperiod.{jobs_released, released_jobs}
use Rattle.schedule.specs.Calls.{late, late_task, late_greatest}

-- One task

pub job_late : (ts : List Task) (i k : ℕ) → k < jobs ts i → Late ts i k → late_task ts i ≡ true
unfolding late_task
job_late ts i k l x = lt-ltb (least (jobs ts i) (late ts i)) (jobs ts i) (omega (arith, least_first (jobs ts i) (late ts i) k (lt-ltb (done (full_budget ts) i (release ts i (suc k))) (need (full ts) i (suc k)) x)))

pub late_job : (ts : List Task) (i : ℕ) → late_task ts i ≡ true → (k : ℕ) × (k < jobs ts i) × Late ts i k
unfolding late_task
late_job ts i e = (k, early, ltb-true (done (full_budget ts) i (release ts i (suc k))) (need (full ts) i (suc k)) (least_passes (jobs ts i) (late ts i) early))
  where
    k : ℕ
    k = least (jobs ts i) (late ts i)

    early : k < jobs ts i
    early = ltb-true k (jobs ts i) e

module _ {ts : List Task} (good : Proper ts) (i : ℕ) (known : i < length ts) where
  pub task_late : LateTask ts i → late_task ts i ≡ true
  task_late x = job_late ts i x.0 (released_jobs good i known x.0 x.1) x.2

  pub late_task_lem : late_task ts i ≡ true → LateTask ts i
  late_task_lem e = let x = late_job ts i e in (x.0, jobs_released good i known x.0 x.1, x.2)

-- All tasks

-- Task i is late, and no late task outranks it.
pub record GreatestLate (ts : List Task) (i : ℕ) : Type 0 where
  pub known : i < length ts
  pub is_late : LateTask ts i
  pub greatest_rank : (j : ℕ) → j < length ts → LateTask ts j → rank ts j ≤ rank ts i

module _ {ts : List Task} (good : Proper ts) where
  greatest : {x : Slot} → late_greatest ts (length ts) ≡ x → IsGreatest (rank ts) (late_task ts) (length ts) x
  greatest e = subst (IsGreatest (rank ts) (late_task ts) (length ts)) e (greatest_is (rank ts) (late_task ts) (length ts))

  -- `late_greatest` is idle exactly when no task is late,
  pub idle_accepted : late_greatest ts (length ts) ≡ idle → Accepted ts
  idle_accepted e = record {
    proper = good;
    none_late = λ i l x. false≢true (sym (greatest e i l) ∙ task_late good i l x);
  }

  -- and busy with i exactly when i is the greatest-ranked late task.
  pub busy_greatest : {i : ℕ} → late_greatest ts (length ts) ≡ busy i → GreatestLate ts i
  busy_greatest {i} e = let h = greatest e in record {
    known = h.0;
    is_late = late_task_lem good i h.0 h.1;
    greatest_rank = λ j l x. h.2 j l (task_late good j l x);
  }

  pub accepted_idle : Accepted ts → late_greatest ts (length ts) ≡ idle
  accepted_idle ok = go (late_greatest ts (length ts)) refl
    where
      go : (x : Slot) → late_greatest ts (length ts) ≡ x → x ≡ idle
      go idle e = refl
      go (busy i) e = let g = busy_greatest e in absurd (ok.none_late i g.known g.is_late)

  pub greatest_busy : {i : ℕ} → GreatestLate ts i → late_greatest ts (length ts) ≡ busy i
  greatest_busy {i} g = go (late_greatest ts (length ts)) refl
    where
      go : (x : Slot) → late_greatest ts (length ts) ≡ x → x ≡ busy i
      go idle e = absurd ((idle_accepted e).none_late i g.known g.is_late)
      go (busy j) e =
          let x = busy_greatest e in
          ap busy (good.ranks_differ j i x.known g.known (omega (arith, x.greatest_rank i g.known g.is_late, g.greatest_rank j x.known x.is_late)))
