-- The response of a job, which is read from the full-budget schedule, is told by the backlog of its level alone.
use Rattle.std.specs.Prelude.{◌≡◌, List, Bool, ℕ, suc, ◌+◌, ◌≤◌, ◌<◌, leb, length}
use Rattle.std.proofs.Math.Path.{subst}
use Rattle.std.proofs.Common.{lt_of_not-le, pos_of_ne-zero, arith}
use borrow.Author.Tests.{leb-true, le-leb}
use Rattle.theory.specs.declared.Task.{Task}
use Rattle.theory.specs.Model.Schedule.{period, release, Proper, need, Run, done, Schedule, Finishes}
use Rattle.theory.specs.Model.Responses.{full, full_budget, finish, response, Late}
use Rattle.arith.specs.RangeLaws.{least_within, least_passes, least_first}
use Rattle.theory.proofs.Analysis.Work.{done_grows}
use Rattle.theory.specs.Analysis.Backlog.{full_backlog}
use Rattle.theory.proofs.Analysis.Existence.{full_schedule}
use Rattle.theory.specs.Analysis.Finish.{FirstZero}
use Rattle.theory.proofs.Analysis.Finish.{first_zero_unique, finish_least, zero_done, first_zero_finish, on_time_zero}

-- The finish, as its search finds it

module _ (ts : List Task) (i k : ℕ) where
  reached : ℕ → Bool
  reached f = leb (need (full ts) i (suc k)) (done (full_budget ts) i f)

  pub finish_most : finish ts i k ≤ suc (release ts i (suc k))
  unfolding finish reached
  finish_most = least_within (suc (release ts i (suc k))) reached

  pub finish_done : finish ts i k ≤ release ts i (suc k) → need (full ts) i (suc k) ≤ done (full_budget ts) i (finish ts i k)
  unfolding finish reached
  finish_done l =
      leb-true (need (full ts) i (suc k)) (done (full_budget ts) i (finish ts i k)) (least_passes (suc (release ts i (suc k))) reached (omega arith))

  pub done_finish : (f : ℕ) → need (full ts) i (suc k) ≤ done (full_budget ts) i f → finish ts i k ≤ f
  unfolding finish reached
  done_finish f h = least_first (suc (release ts i (suc k))) reached f (le-leb (need (full ts) i (suc k)) (done (full_budget ts) i f) h)

  pub finish_finishes : (f : ℕ) → f ≤ release ts i (suc k) → Finishes (full ts) (full_budget ts) i k f → finish ts i k ≡ f
  finish_finishes f l x = omega (arith, early, finish_least x (finish ts i k) (finish_done (omega (arith, early))))
    where
      early : finish ts i k ≤ f
      early = done_finish f (omega (arith, x.done_by))

  -- The response of a late job is T + 1.
  pub late_response : Late ts i k → response ts i k ≡ suc (period ts i)
  unfolding response
  late_response late = let no : ¬ (finish ts i k ≤ release ts i (suc k)) = unfinished in omega (arith, finish_most)
    where
      unfinished : ¬ (finish ts i k ≤ release ts i (suc k))
      unfinished l = omega (arith, finish_done l, done_grows (full_budget ts) i (finish ts i k) (release ts i (suc k)) l)

module _ {ts : List Task} (good : Proper ts) (i k : ℕ) (known : i < length ts) where
  -- Where the backlog is 0 between a job's release and its task's next one, the job is on time.
  pub zero_on_time : (z : ℕ) → release ts i k < z → z ≤ release ts i (suc k) → full_backlog ts i z ≡ 0 → ¬ (Late ts i k)
  zero_on_time z l m e late =
      omega (arith, zero_done good (full_schedule ts) i k known z l e, done_grows (full_budget ts) i z (release ts i (suc k)) m)

  module _ (on_time : ¬ (Late ts i k)) where
    zero_within : (z : ℕ) × (z ≤ release ts i (suc k)) × FirstZero (full_backlog ts i) (release ts i k) z
    zero_within = on_time_zero good (full_schedule ts) i k known (good.budget_positive i known) (omega arith)

    -- The response of a job that is on time ends at the first zero of the backlog after its release,
    pub response_first_zero : FirstZero (full_backlog ts i) (release ts i k) (release ts i k + response ts i k)
    unfolding response
    response_first_zero = subst (FirstZero (full_backlog ts i) (release ts i k)) (omega (arith, zero_within.2.after, at)) zero_within.2
      where
        there : Finishes (full ts) (full_budget ts) i k zero_within.0
        there = first_zero_finish good (full_schedule ts) i k known zero_within.0 (good.budget_positive i known) zero_within.1 zero_within.2

        at : finish ts i k ≡ zero_within.0
        at = finish_finishes ts i k zero_within.0 zero_within.1 there

    -- is at most the period,
    pub response_most : response ts i k ≤ period ts i
    response_most = omega (arith, first_zero_unique response_first_zero zero_within.2, zero_within.1)

    -- and is what the job takes to finish in every schedule with full budgets.
    pub response_finishes : {run : Run} → Schedule ts (full ts) run → Finishes (full ts) run i k (release ts i k + response ts i k)
    response_finishes s =
        first_zero_finish good s i k known (release ts i k + response ts i k) (good.budget_positive i known)
        (omega (arith, response_most)) response_first_zero

  -- The first zero, if it is no later than the next release, tells the response.
  pub first_zero_response : (z : ℕ) → z ≤ release ts i (suc k) → FirstZero (full_backlog ts i) (release ts i k) z
      → release ts i k + response ts i k ≡ z
  first_zero_response z l x = first_zero_unique (response_first_zero (zero_on_time z x.after l x.is_zero)) x

  -- A job is late exactly where the backlog has no zero after its release and up to the next.
  pub late_no_zero : Late ts i k → (z : ℕ) → release ts i k < z → z ≤ release ts i (suc k) → 0 < full_backlog ts i z
  late_no_zero late z l m = pos_of_ne-zero (λ e. zero_on_time z l m e late)

  pub no_zero_late : ((z : ℕ) → release ts i k < z → z ≤ release ts i (suc k) → 0 < full_backlog ts i z) → Late ts i k
  no_zero_late none =
      lt_of_not-le (λ h. let z = zero_within (λ late. omega arith) in omega (arith, none z.0 z.2.after z.1, z.2.is_zero))
