-- The numbers of refusal that the calls may give.
use Rattle.std.specs.Prelude.{ℕ, ltb, length}
use Rattle.std.proofs.Common.{arith}
use Rattle.theory.specs.Model.Responses.{hyperperiod, all_jobs}
use Rattle.answers.specs.NumberLaws.{Numbered, given_numbered, numbered_wider, when_numbered, after_numbered, also_numbered, Never, given_only, when_only, also_only}
use Rattle.sheet.specs.declared.Sheet.{Sheet}
use Rattle.sheet.specs.NumberLaws.{judge_never, judge_numbered}
use Rattle.sheet.specs.Tasks.{tasks_of}
use Rattle.sheet.specs.LatenessLaws.{lateness_numbered}
use Rattle.schedule.specs.Calls.{most_ticks, most_jobs, late_greatest, sizes_of, responses_of}

-- Those of the fields, "After that 10, 11",
pub sizes_numbered : (s : Sheet) → Numbered 2 17 (sizes_of s)
unfolding sizes_of
sizes_numbered s =
    also_numbered (judge_numbered s)
    (also_numbered (when_numbered (ltb most_ticks (hyperperiod (tasks_of s))) 10 (omega arith) (omega arith))
    (also_numbered (when_numbered (ltb most_jobs (all_jobs (tasks_of s))) 11 (omega arith) (omega arith)) (given_numbered _)))

-- of which none is 15;
pub sizes_never_15 : (s : Sheet) → Never 15 (sizes_of s)
unfolding sizes_of
sizes_never_15 s =
    also_only (judge_never 15 (omega arith) (omega arith) (λ e. omega arith) s)
    (also_only (when_only (ltb most_ticks (hyperperiod (tasks_of s))) 10 (λ e. omega arith))
    (also_only (when_only (ltb most_jobs (all_jobs (tasks_of s))) 11 (λ e. omega arith)) (given_only _)))

-- then "14, 15".
pub responses_numbered : (s : Sheet) (room : ℕ) → Numbered 2 17 (responses_of s room)
unfolding responses_of
responses_numbered s room =
    after_numbered (sizes_numbered s)
    (λ size. also_numbered (when_numbered (ltb room size.jobs) 14 (omega arith) (omega arith)) (also_numbered (numbered_wider (lateness_numbered (late_greatest (tasks_of s) (length (tasks_of s)))) (omega arith) (omega arith)) (given_numbered _)))
