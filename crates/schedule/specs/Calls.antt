-- What `responses` answers, and what it leaves in the table. Quotations are from document 01.
use Rattle.std.specs.Prelude.{List, [], ◌++◌, Bool, cond, ℕ, zero, suc, ltb, eqb, length, drop, replicate}
use Rattle.bits.specs.Bits.{list_of}
use Rattle.theory.specs.declared.Task.{Task}
use Rattle.arith.specs.Ranges.{least}
use Rattle.theory.specs.Model.Schedule.{rank, need, release, Slot, done}
use Rattle.theory.specs.Model.Greatest.{greatest}
use Rattle.theory.specs.Model.Responses.{full, full_budget, response, hyperperiod, jobs, all_jobs, idle_ticks, task_response}
use Rattle.sheet.specs.declared.Sheet.{Sheet}
use Rattle.answers.specs.Answers.{Answer, given, refused, when, after, also}
use Rattle.sheet.specs.Calls.{places, judge_of}
use Rattle.sheet.specs.Tasks.{tasks_of}
use Rattle.sheet.specs.Lateness.{lateness}
use Rattle.schedule.specs.declared.answer.Totals.{Totals}
use Rattle.schedule.specs.declared.answer.TaskResponses.{TaskResponses}
use Rattle.schedule.specs.declared.answer.Size.{Size}

-- Whether job k of task i is "unfinished at its task's next release" "in the full-budget schedule".
abbrev pub late : List Task → ℕ → ℕ → Bool
late ts i k = ltb (done (full_budget ts) i (release ts i (suc k))) (need (full ts) i (suc k))

-- Whether "a job released before H" of task i is late: the first late one is among its H/T jobs.
unfoldable pub late_task : List Task → ℕ → Bool
late_task ts i = ltb (least (jobs ts i) (late ts i)) (jobs ts i)

-- "the greatest-ranked late task" of the first n: busy with it, or idle where none is late.
abbrev pub late_greatest : List Task → ℕ → Slot
late_greatest ts n = greatest (rank ts) (late_task ts) n

-- "Limits: H at most 1,000,000; J at most 8,192".
abbrev pub most_ticks : ℕ
most_ticks = 1000000

abbrev pub most_jobs : ℕ
most_jobs = 8192

-- H and J: the fields, "After that 10, 11".
unfoldable pub sizes_of : Sheet → Answer Size
sizes_of s =
    also (judge_of s)
    (also (when (ltb most_ticks (hyperperiod (tasks_of s))) 10)
    (also (when (ltb most_jobs (all_jobs (tasks_of s))) 11)
    (given (record { hyperperiod = hyperperiod (tasks_of s); jobs = all_jobs (tasks_of s) }))))

-- Then "14, 15": the answer for a table of `room` entries, for tasks of such H and J,
abbrev pub filled_of : List Task → ℕ → Size → Answer Totals
filled_of ts room size =
    also (when (ltb room size.jobs) 14)
    (also (lateness (late_greatest ts (length ts)))
    (given (record { hyperperiod = size.hyperperiod; jobs = size.jobs; idle = idle_ticks ts })))

-- and for a sheet.
unfoldable pub responses_of : Sheet → ℕ → Answer Totals
responses_of s room = after (sizes_of s) (filled_of (tasks_of s) room)

-- A row is a task's responses, "each task's jobs in release order": "H/T entries".
abbrev pub row : List Task → ℕ → List ℕ
row ts i = list_of (jobs ts i) (response ts i)

-- "task by task in sheet order", each "straight after the rows before it": the rows of the first n tasks.
unfoldable pub rows : List Task → ℕ → List ℕ
rows ts zero = []
rows ts (suc n) = rows ts n ++ row ts n

-- "Entries from J on are not touched." "Numbers 1 to 14 leave lent memory untouched. Number 15 leaves zeros in the first J entries."
abbrev pub table_after : {A : Type 0} → Answer A → List Task → List ℕ → List ℕ
table_after (given x) ts old = rows ts (length ts) ++ drop (all_jobs ts) old
table_after (refused number values) ts old = cond (eqb number 15) (replicate (all_jobs ts) 0 ++ drop (all_jobs ts) old) old

-- "R, the greatest response" of each task of the sheet, in its place; zeros with a refusal.
abbrev pub greatest_after : {A : Type 0} → Answer A → Sheet → List ℕ
greatest_after (given x) s = places 16 0 s.count (task_response (tasks_of s))
greatest_after (refused number values) s = places 16 0 0 (task_response (tasks_of s))

-- The totals with R of each task,
abbrev pub with_greatest : Sheet → Totals → TaskResponses
with_greatest s totals = record { totals = totals; greatest = greatest_after (given totals) s }

-- and the answer for a table of `room` entries with it.
unfoldable pub task_responses_of : Sheet → ℕ → Answer TaskResponses
task_responses_of s room = after (responses_of s room) λ totals. given (with_greatest s totals)
