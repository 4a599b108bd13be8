-- On an accepted sheet everything repeats with the hyperperiod: backlogs, responses, and that no job is late.
use Rattle.std.specs.Prelude.{◌≡◌, refl, List, eqb, length}
use Rattle.std.proofs.Common.{sym, ◌∙◌, subst, le_trans, zero-add, div-add-mod', mod-lt, mul-div_cancel}
use Rattle.std.proofs.Math.Path.{ap, ap₂}
use Rattle.std.proofs.Math.Bool.{cond}
use Prim.Native.Nat.{ℕ, zero, suc, ◌+◌, ◌-◌, ◌*◌, ◌/◌, ◌%◌, ◌≤◌, ◌<◌}
use Rattle.std.proofs.Math.Nat.{add-mul-mod_self_right}
use native.Mathlib.Omega.{arith}
use Rattle.std.proofs.Math.Arith.{digits_mod}
use Rattle.theory.specs.declared.Task.{Task}
use Rattle.theory.specs.Model.Schedule.{period, release, budget, Proper, need, released, done}
use Rattle.theory.specs.Model.Responses.{full, full_budget, response, hyperperiod, jobs, task_response, Late, Accepted}
use Rattle.arith.specs.RangeLaws.{maximum_above}
use Rattle.theory.proofs.Analysis.Work.{due_most}
use Rattle.theory.proofs.Analysis.Level.{level_eq}
use Rattle.theory.specs.Analysis.Backlog.{full_backlog, load, drain}
use Rattle.theory.proofs.Analysis.Backlog.{empty_backlog}
use Rattle.theory.specs.Analysis.Finish.{FirstZero}
use Rattle.theory.proofs.Analysis.Existence.{full_schedule}
use Rattle.theory.proofs.Analysis.Hyperperiod.{jobs_whole, jobs_positive, jobs_released}
use Rattle.theory.proofs.Analysis.ResponseLaws.{zero_on_time, response_first_zero, first_zero_response, response_most}

module _ {ts : List Task} (ok : Accepted ts) where
  abbrev H : ℕ
  H = hyperperiod ts

  good : Proper ts
  good = ok.proper

  -- By H each task is done with the jobs released before it,
  pub hyperperiod_done : (i : ℕ) → i < length ts → need (full ts) i (jobs ts i) ≤ done (full_budget ts) i H
  hyperperiod_done i l = go (jobs ts i) refl
    where
      go : (q : ℕ) → jobs ts i ≡ q → need (full ts) i q ≤ done (full_budget ts) i H
      go zero e = absurd (omega (arith, jobs_positive good i l))
      go (suc q) e =
          subst (λ x. need (full ts) i (suc q) ≤ done (full_budget ts) i x) (ap (release ts i) (sym e) ∙ jobs_whole good i l) (omega (arith, on_time))
        where
          on_time : ¬ (Late ts i q)
          on_time late = ok.none_late i l (q, jobs_released good i l q (omega arith), late)

  -- so every level is then empty, as at 0,
  pub backlog_hyperperiod : (i : ℕ) → full_backlog ts i H ≡ 0
  backlog_hyperperiod i = empty_backlog (full_schedule ts) i H
      (λ j l r. le_trans (due_most ts (full ts) j (good.period_positive j l) (jobs ts j) H (omega (arith, jobs_whole good j l)))
      (hyperperiod_done j l))

  -- and from there on the same releases come again.
  load_again : (i t : ℕ) → load ts (full ts) i (t + H) ≡ load ts (full ts) i t
  unfolding load released
  load_again i t = level_eq ts i _ _ (λ j l. ap (λ x. cond (eqb x 0) (budget ts j) 0)
      (ap (λ x. (t + x) % period ts j) (sym (jobs_whole good j l)) ∙ add-mul-mod_self_right t (jobs ts j) (period ts j)))

  -- The backlog repeats with H.
  pub backlog_again : (i t : ℕ) → full_backlog ts i (t + H) ≡ full_backlog ts i t
  unfolding drain
  backlog_again i zero = ap (full_backlog ts i) (zero-add H) ∙ backlog_hyperperiod i
  backlog_again i (suc t) = ap (full_backlog ts i) next ∙ ap₂ (λ x y. (x + y) - 1) (backlog_again i t) (load_again i t)
    where
      next : suc t + H ≡ suc (t + H)
      next = omega arith

  first_zero_again : (i r z : ℕ) → FirstZero (full_backlog ts i) r z → FirstZero (full_backlog ts i) (r + H) (z + H)
  first_zero_again i r z x = record { after = omega (arith, x.after); is_zero = backlog_again i z ∙ x.is_zero; first = first }
    where
      first : (y : ℕ) → r + H < y → full_backlog ts i y ≡ 0 → z + H ≤ y
      first y l e = omega (arith, x.first (y - H) (omega arith) (sym (backlog_again i (y - H)) ∙ ap (full_backlog ts i) back ∙ e))
        where
          back : y - H + H ≡ y
          back = omega arith

  module _ (i : ℕ) (known : i < length ts) where
    -- So do its zeros: the job H later is on time too, with the same response.
    job_again : (k : ℕ) → ¬ (Late ts i k) → ¬ (Late ts i (k + jobs ts i)) × (response ts i (k + jobs ts i) ≡ response ts i k)
    job_again k on_time = (
      zero_on_time good i (k + jobs ts i) known z x.after soon x.is_zero,
      omega (arith, later, first_zero_response good i (k + jobs ts i) known z soon x),
    )
      where
        z : ℕ
        z = release ts i k + response ts i k + H

        later : release ts i (k + jobs ts i) ≡ release ts i k + H
        later = omega (arith, jobs_whole good i known)

        soon : z ≤ release ts i (suc (k + jobs ts i))
        soon = omega (arith, later, response_most good i k known on_time)

        x : FirstZero (full_backlog ts i) (release ts i (k + jobs ts i)) z
        x = rw later (first_zero_again i (release ts i k) (release ts i k + response ts i k) (response_first_zero good i k known on_time))

    job_turns : (k m : ℕ) → ¬ (Late ts i k) → ¬ (Late ts i (k + m * jobs ts i)) × (response ts i (k + m * jobs ts i) ≡ response ts i k)
    job_turns k zero on_time = rw same (on_time, refl)
      where
        same : k + 0 * jobs ts i ≡ k
        same = omega arith
    job_turns k (suc m) on_time =
        let x = job_turns k m on_time in let y = job_again (k + m * jobs ts i) x.0 in rw next (y.0, y.1 ∙ x.1)
      where
        next : k + suc m * jobs ts i ≡ k + m * jobs ts i + jobs ts i
        next = omega arith

    -- Job k is the job k modulo H/T, some hyperperiods later.
    turned : (k : ℕ) → k % jobs ts i + k / jobs ts i * jobs ts i ≡ k
    turned k = omega (arith, div-add-mod' k (jobs ts i))

    early : (k : ℕ) → release ts i (k % jobs ts i) < H
    early k = jobs_released good i known (k % jobs ts i) (mod-lt k (jobs_positive good i known))

    as_early : (k : ℕ) → ¬ (Late ts i k) × (response ts i k ≡ response ts i (k % jobs ts i))
    as_early k = rw (turned k) at (job_turns (k % jobs ts i) (k / jobs ts i) (λ late. ok.none_late i known (k % jobs ts i, early k, late)))

    -- No job is ever late.
    pub never_late : (k : ℕ) → ¬ (Late ts i k)
    never_late k = (as_early k).0

    pub response_period : (k : ℕ) → response ts i k ≤ period ts i
    response_period k = response_most good i k known (never_late k)

    -- Responses repeat with the jobs of a hyperperiod:
    pub response_again : (k : ℕ) → response ts i (k + jobs ts i) ≡ response ts i k
    response_again k = (job_again k (never_late k)).1

    pub response_jobs : (k : ℕ) → response ts i k ≡ response ts i (k % jobs ts i)
    response_jobs k = (as_early k).1

    -- "A job released at or after H has the response of the job released at its release modulo H."
    pub response_modulo : (k : ℕ) → response ts i k ≡ response ts i (release ts i k % H / period ts i)
    response_modulo k =
        response_jobs k ∙ ap (response ts i) (sym (ap (λ x. x / period ts i) turn ∙ mul-div_cancel (k % jobs ts i) (good.period_positive i known)))
      where
        parts : release ts i k ≡ k / jobs ts i * H + release ts i (k % jobs ts i)
        parts = ap (release ts i) (sym (turned k)) ∙ omega (arith, ap (λ x. k / jobs ts i * x) (jobs_whole good i known))

        turn : release ts i k % H ≡ release ts i (k % jobs ts i)
        turn = ap (λ x. x % H) parts ∙ digits_mod (k / jobs ts i) (early k)

    -- The response of a task is the greatest of all its jobs.
    pub response_greatest : (k : ℕ) → response ts i k ≤ task_response ts i
    unfolding task_response
    response_greatest k =
        rw (response_jobs k) (maximum_above (jobs ts i) (response ts i) (k % jobs ts i) (mod-lt k (jobs_positive good i known)))
