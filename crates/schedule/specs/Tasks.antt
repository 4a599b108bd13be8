-- Tasks as the functions under the calls are given them.
use Rattle.std.specs.Prelude.{◌≡◌, List, ℕ, ◌≤◌, ◌<◌, length, get_or}
use Rattle.theory.specs.declared.Task.{Task}
use Rattle.theory.specs.Model.Schedule.{none, Proper}
use Rattle.theory.specs.Model.Responses.{hyperperiod, all_jobs}
use Rattle.sheet.specs.TaskLaws.{Allowed}
use Rattle.schedule.specs.declared.answer.Size.{Size}
use Rattle.schedule.specs.Calls.{most_ticks}

-- Tasks as a sheet that is judged fine has them.
pub record Fine (ts : List Task) : Type 0 where
  pub some : 0 < length ts
  pub few : length ts ≤ 16
  pub proper : Proper ts
  pub allowed : (i : ℕ) → i < length ts → Allowed (get_or ts i none)

-- Their H and J, with H within its limit.
pub record SizeOf (ts : List Task) (size : Size) : Type 0 where
  pub hyperperiod_is : size.hyperperiod ≡ hyperperiod ts
  pub hyperperiod_most : size.hyperperiod ≤ most_ticks
  pub jobs_are : size.jobs ≡ all_jobs ts
