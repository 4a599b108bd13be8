-- What an answer of `responses` leaves for a layer above: tasks that are taken, and a table that holds their rows.
use Rattle.std.specs.Prelude.{◌≡◌, List, ℕ, ◌+◌, ◌≤◌, ◌<◌, length, get_or}
use Rattle.arith.specs.Ranges.{sum}
use Rattle.theory.specs.declared.Task.{Task}
use Rattle.theory.specs.Model.Schedule.{period}
use Rattle.theory.specs.Model.Responses.{response, hyperperiod, jobs, all_jobs, Accepted}
use Rattle.schedule.specs.Calls.{most_ticks, most_jobs}

-- Tasks that are taken: as many as a sheet has and allowed, with H and J within their limits, and none late.
pub record Taken (ts : List Task) : Type 0 where
  pub count_most : length ts ≤ 16
  pub period_most : (i : ℕ) → i < length ts → period ts i ≤ 100000
  pub accepted : Accepted ts
  pub short : hyperperiod ts ≤ most_ticks
  pub few : all_jobs ts ≤ most_jobs

-- The rows of all tasks stand at the front of a table.
pub record Holds (ts : List Task) (table : List ℕ) : Type 0 where
  pub enough : all_jobs ts ≤ length table
  pub entry : (i k : ℕ) → i < length ts → k < jobs ts i → get_or table (sum i (jobs ts) + k) 0 ≡ response ts i k
