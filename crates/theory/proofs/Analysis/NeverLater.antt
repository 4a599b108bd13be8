-- On an accepted sheet, in every schedule with demands 1 to C, each job finishes no later than at full budgets.
use Rattle.std.specs.Prelude.{List, ℕ, suc, ◌+◌, ◌≤◌, ◌<◌, length}
use Rattle.std.proofs.Common.{arith}
use Rattle.theory.specs.declared.Task.{Task}
use Rattle.theory.specs.Model.Schedule.{release, Proper, Demands, Within, need, Run, done, Schedule, Starts, Finishes}
use Rattle.theory.specs.Model.Responses.{full, response, Accepted}
use Rattle.theory.specs.Analysis.Backlog.{full_backlog}
use Rattle.theory.proofs.Analysis.Backlog.{backlog_mono}
use Rattle.theory.specs.Analysis.Finish.{FirstZero}
use Rattle.theory.proofs.Analysis.Finish.{done_starts, done_finishes, finish_least, finish_unique, zero_done}
use Rattle.theory.proofs.Analysis.ResponseLaws.{response_first_zero, response_finishes}
use Rattle.theory.proofs.Analysis.Repetition.{never_late}

-- Full budgets are demands from 1 to C.
pub full_within : {ts : List Task} → Proper ts → Within ts (full ts)
full_within good = record { least_one = λ i k l. good.budget_positive i l; most_budget = λ i k l. omega arith }

module _ {ts : List Task} (ok : Accepted ts) {d : Demands} {run : Run} (s : Schedule ts d run) (w : Within ts d)
    (i k : ℕ) (known : i < length ts) where
  -- At its full-budget finish a job is done under smaller demands too, as the backlog then is no greater.
  job_done : need d i (suc k) ≤ done run i (release ts i k + response ts i k)
  job_done =
      zero_done ok.proper s i k known z x.after (omega (arith, x.is_zero, backlog_mono ts d (full ts) (λ j k m. w.most_budget j k m) i z))
    where
      z : ℕ
      z = release ts i k + response ts i k

      x : FirstZero (full_backlog ts i) (release ts i k) (release ts i k + response ts i k)
      x = response_first_zero ok.proper i k known (never_late ok i known k)

  -- Every job starts and finishes.
  pub job_starts : (t : ℕ) × Starts d run i k t
  job_starts = done_starts d run i k (release ts i k + response ts i k) (w.least_one i k known) job_done

  pub job_finishes : (f : ℕ) × Finishes d run i k f
  job_finishes = let x = done_finishes d run i k (release ts i k + response ts i k) (w.least_one i k known) job_done in (x.0, x.2)

  -- It finishes no later than its response after its release.
  pub finish_response : (f : ℕ) → Finishes d run i k f → f ≤ release ts i k + response ts i k
  finish_response f x = finish_least x (release ts i k + response ts i k) job_done

-- Earlier, never later.
pub never_later : {ts : List Task} (ok : Accepted ts) {d : Demands} {run run' : Run} → Schedule ts d run → Within ts d
    → Schedule ts (full ts) run'
    → (i k f g : ℕ) → i < length ts → Finishes d run i k f → Finishes (full ts) run' i k g → f ≤ g
never_later ok s w s' i k f g l x y =
    omega (arith, finish_response ok s w i k l f x, finish_unique y (response_finishes ok.proper i k l (never_late ok i l k) s'))
