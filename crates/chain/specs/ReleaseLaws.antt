-- A release that is asked for is that of a job.
use Rattle.std.specs.Prelude.{◌≡◌, List, ℕ, ◌/◌, ◌%◌, ◌≤◌, ◌<◌, length}
use Rattle.std.proofs.Common.{div-add-mod', div-mul-le_self, arith}
use Rattle.theory.specs.declared.Task.{Task}
use Rattle.theory.specs.Model.Schedule.{period, release, Proper}
use Rattle.theory.specs.Model.Responses.{hyperperiod, jobs}
use Rattle.theory.proofs.Analysis.Hyperperiod.{released_jobs}

-- A multiple of the period is the release of a job,
pub job_release : (ts : List Task) (i r : ℕ) → r % period ts i ≤ 0 → release ts i (r / period ts i) ≡ r
job_release ts i r l = omega (arith, div-add-mod' r (period ts i))

-- and before H that of one of the jobs before H.
pub job_early : {ts : List Task} → Proper ts → (i : ℕ) → i < length ts → (r : ℕ) → r < hyperperiod ts → r / period ts i < jobs ts i
job_early {ts} good i known r l = released_jobs good i known (r / period ts i) (omega (arith, div-mul-le_self r (period ts i)))
