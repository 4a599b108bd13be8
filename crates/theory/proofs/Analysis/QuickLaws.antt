-- The response by the recurrence against the full-budget schedule, whatever the hyperperiod: it is that of the first job, at which all
-- tasks are released together, and no other job's is greater.
use Rattle.std.specs.Prelude.{◌≡◌, List, ℕ, zero, suc, ◌+◌, ◌≤◌, ◌<◌, length}
use Rattle.std.proofs.Common.{subst₂, le_trans, zero-add, pos_of_ne-zero, arith}
use Rattle.std.proofs.Math.Nat.{le_antisymm}
use Rattle.std.proofs.Math.Decide.{ℕ_discrete, dec_le, dec_lt}
use Rattle.arith.specs.RangeLaws.{maximum_above, maximum_least}
use Rattle.theory.specs.declared.Task.{Task}
use Rattle.theory.specs.Model.Schedule.{period, budget, release, Proper, need, done}
use Rattle.theory.specs.Model.Responses.{full, full_budget, response, jobs, task_response, Late, LateTask, Accepted}
use Rattle.theory.specs.Model.Recurrence.{claim, quick_response, Passing, EverLate}
use Rattle.theory.specs.Analysis.Backlog.{load, full_backlog, level_due}
use Rattle.theory.proofs.Analysis.Backlog.{backlog_start, backlog_step}
use Rattle.theory.specs.Analysis.Finish.{FirstZero}
use Rattle.theory.proofs.Analysis.ResponseLaws.{late_response, zero_on_time, response_first_zero, response_most}
use Rattle.theory.proofs.Analysis.Hyperperiod.{hyperperiod_positive, jobs_positive}
use Rattle.theory.proofs.Analysis.RecurrenceLaws.{claim_own, fixed_point_most, fixed_point_least, dues_start, dues_step, dues_claim, busy_backlog, fixed_point_empty}

module _ {ts : List Task} (good : Proper ts) (i : ℕ) (known : i < length ts) where
  abbrev w : ℕ
  w = quick_response ts i

  some : 0 < budget ts i
  some = good.budget_positive i known

  -- Where the value does not pass the period every job is on time, and takes no longer.
  module _ (within : quick_response ts i ≤ period ts i) (k : ℕ) where
    empty : (z : ℕ) × (release ts i k < z) × (z ≤ release ts i k + w) × (full_backlog ts i z ≡ 0)
    empty = fixed_point_empty good (budget ts) i known some within (release ts i k)

    pub within_on_time : ¬ (Late ts i k)
    within_on_time = zero_on_time good i k known empty.0 empty.1 (omega (arith, empty.2)) empty.3

    within_response : response ts i k ≤ quick_response ts i
    within_response =
        omega (arith, empty.2, (response_first_zero good i k known within_on_time).first empty.0 empty.1 empty.3)

  -- The response of a first job that is on time is its own claim: by then its level has had no rest since tick 0.
  response_claim : ¬ (Late ts i 0) → claim ts (budget ts) i (response ts i 0) ≡ response ts i 0
  response_claim on_time = go (response ts i 0) first (response_most good i 0 known on_time)
    where
      first : FirstZero (full_backlog ts i) 0 (response ts i 0)
      first = subst₂ (FirstZero (full_backlog ts i)) (omega arith) (omega arith) (response_first_zero good i 0 known on_time)

      go : (r : ℕ) → FirstZero (full_backlog ts i) 0 r → r ≤ period ts i → claim ts (budget ts) i r ≡ r
      go zero x most = absurd (omega (arith, x.after))
      go (suc v) x most = le_antisymm low (high (ℕ_discrete v 0))
        where
          early : (y : ℕ) → 0 < y → y ≤ 0 + v → 0 < full_backlog ts i y
          early y p q = pos_of_ne-zero (λ e. omega (arith, x.first y p e))

          busy : full_backlog ts i v + v ≡ level_due ts (full ts) i v
          busy = omega (
            arith,
            rw zero-add at (busy_backlog good (budget ts) i known 0 v (backlog_start ts (full ts) i) early),
            dues_start good (budget ts) i known,
          )

          due : level_due ts (full ts) i v + load ts (full ts) i v ≡ claim ts (budget ts) i (suc v)
          due = omega (arith, dues_step good (budget ts) i known v, dues_claim good (budget ts) i known (suc v) (omega arith) most)

          low : claim ts (budget ts) i (suc v) ≤ suc v
          low = omega (arith, due, busy, backlog_step ts (full ts) i v, x.is_zero)

          high : Dec (v ≡ 0) → suc v ≤ claim ts (budget ts) i (suc v)
          high (yes e) = omega (arith, claim_own ts (budget ts) i (suc v), some)
          high (no e) = omega (arith, due, busy, early v (omega arith) (omega arith))

  -- The value is the response of the first job (T + 1 where that is late),
  pub quick_response_first : quick_response ts i ≡ response ts i 0
  quick_response_first = go (dec_lt (done (full_budget ts) i (release ts i 1)) (need (full ts) i 1)) (dec_le w (period ts i))
    where
      go : Dec (Late ts i 0) → Dec (w ≤ period ts i) → w ≡ response ts i 0
      go (yes late) (yes l) = absurd (within_on_time l 0 late)
      go (yes late) (no l) = omega (arith, late_response ts i 0 late, fixed_point_most ts (budget ts) i)
      go (no on_time) l =
          let early = fixed_point_least ts (budget ts) i (response ts i 0) (response_claim on_time) in
          le_antisymm early (within_response (le_trans early (response_most good i 0 known on_time)) 0)

  -- and passes the period exactly where a job of the task, of all its jobs, is late.
  pub late_passing : EverLate ts i → Passing ts i
  late_passing late = let no : ¬ (w ≤ period ts i) = λ l. within_on_time l late.0 late.1 in omega arith

  pub passing_late : Passing ts i → Late ts i 0
  passing_late p = go (dec_lt (done (full_budget ts) i (release ts i 1)) (need (full ts) i 1))
    where
      go : Dec (Late ts i 0) → Late ts i 0
      go (yes late) = late
      go (no on_time) = absurd (omega (arith, quick_response_first, response_most good i 0 known on_time))

  -- It is the greatest response of all jobs,
  pub quick_response_greatest : (k : ℕ) → response ts i k ≤ quick_response ts i
  quick_response_greatest k = go (dec_le w (period ts i)) (dec_lt (done (full_budget ts) i (release ts i (suc k))) (need (full ts) i (suc k)))
    where
      go : Dec (w ≤ period ts i) → Dec (Late ts i k) → response ts i k ≤ w
      go (yes l) late = within_response l k
      go (no l) (yes late) = omega (arith, late_response ts i k late)
      go (no l) (no on_time) = omega (arith, response_most good i k known on_time)

  -- and so that of the jobs before H, which is R.
  pub quick_response_task : quick_response ts i ≡ task_response ts i
  unfolding task_response
  quick_response_task = le_antisymm
      (omega (arith, quick_response_first, maximum_above (jobs ts i) (response ts i) 0 (jobs_positive good i known)))
      (maximum_least (jobs ts i) (response ts i) w (λ k l. quick_response_greatest k))

  -- Where a job is late one released before H is: the first.
  pub passing_late_task : Passing ts i → LateTask ts i
  passing_late_task p = (0, omega (arith, hyperperiod_positive ts good.period_positive), passing_late p)

  pub late_task_passing : LateTask ts i → Passing ts i
  late_task_passing late = late_passing (late.0, late.2)

-- Tasks are accepted exactly where no value passes its period.
pub within_accepted : {ts : List Task} → Proper ts → ((i : ℕ) → i < length ts → quick_response ts i ≤ period ts i) → Accepted ts
within_accepted good within =
    record { proper = good; none_late = λ i l late. omega (arith, late_task_passing good i l late, within i l) }

pub accepted_within : {ts : List Task} → Accepted ts → (i : ℕ) → i < length ts → quick_response ts i ≤ period ts i
accepted_within {ts} ok i l =
    let no : ¬ (Passing ts i) = λ p. ok.none_late i l (passing_late_task ok.proper i l p) in omega arith
