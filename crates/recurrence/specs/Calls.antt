-- What the call answers. Quotations are from document 02, P4, and from document 01.
use Rattle.std.specs.Prelude.{Bool, List, cond, ℕ, ◌+◌, ◌-◌, ltb, length, replicate}
use Rattle.arith.specs.Whole.{gcd, up}
use Rattle.theory.specs.declared.Task.{Task}
use Rattle.theory.specs.Model.Schedule.{period, rank, Slot}
use Rattle.theory.specs.Model.Greatest.{greatest}
use Rattle.theory.specs.Model.Chain.{bound}
use Rattle.theory.specs.Model.Flag.{from_flag}
use Rattle.theory.specs.Model.Recurrence.{quick_response}
use Rattle.answers.specs.Answers.{Answer, Judgement, given, refused, fine, after, also}
use Rattle.sheet.specs.declared.Sheet.{Sheet}
use Rattle.sheet.specs.Calls.{places, judge_of}
use Rattle.sheet.specs.Tasks.{tasks_of, chain_count, lacks, chain_of, first_of, rest_of}
use Rattle.sheet.specs.Lateness.{lateness}
use Rattle.recurrence.specs.declared.answer.Bounds.{Bounds}
use Rattle.recurrence.specs.declared.answer.QuickBound.{QuickBound}
use Rattle.recurrence.specs.declared.answer.QuickSuite.{QuickSuite}

-- Whether the value of task i "passes its period".
abbrev pub passes : List Task → ℕ → Bool
passes ts i = ltb (period ts i) (quick_response ts i)

-- "the greatest-ranked task whose value passes its period", of the first n: busy with it, or idle where there is none.
abbrev pub passing_greatest : List Task → ℕ → Slot
passing_greatest ts n = greatest (rank ts) (passes ts) n

-- What a pair of neighbours adds to the quick bound, the response of the first being this: the period of the second less g, "the greatest common
-- divisor of the two periods", and, if the second outranks the first, "the least multiple of g that is at least" the response. For every pair
-- of tasks, those of period 0 too; less stops at 0.
abbrev pub pair_added : Task → Task → ℕ → ℕ
pair_added producer consumer response =
    let g = gcd producer.period consumer.period in
    (consumer.period - g) + cond (ltb producer.rank consumer.rank) (up g response) 0

-- "the bound from this alone": document 01's quick bound, which counts from a release of the chain's first task,
abbrev pub bound_by : List Task → List ℕ → ℕ
bound_by ts chain = bound ts (quick_response ts) (first_of chain) (rest_of chain)

-- and the bound that counts from a flag.
abbrev pub bounds_of : List Task → List ℕ → Bounds
bounds_of ts chain = record {
  sampling_bound = bound_by ts chain;
  bound = from_flag ts (first_of chain) (bound_by ts chain);
}

-- The fields, "then 17 for a chain number the sheet lacks"; then 15. "10, 11 and 14 do not occur in this call."
unfoldable pub quick_of : Sheet → ℕ → Answer Bounds
quick_of s number =
    also (judge_of s)
    (also (lacks s number)
    (also (lateness (passing_greatest (tasks_of s) (length (tasks_of s))))
    (given (bounds_of (tasks_of s) (chain_of s number)))))

-- The response of each task of the sheet, in its place.
abbrev pub responses_in : Sheet → List ℕ
responses_in s = places 16 0 s.count (quick_response (tasks_of s))

abbrev pub no_responses : List ℕ
no_responses = replicate 16 0

-- Zeros with a refusal.
abbrev pub responses_after : {A : Type 0} → Answer A → Sheet → List ℕ
responses_after (given x) s = responses_in s
responses_after (refused number values) s = no_responses

-- With the bounds stands the response of each task.
abbrev pub quick_bound_of : Sheet → ℕ → Answer QuickBound
quick_bound_of s number = after (quick_of s number) (λ b. given (record { bounds = b; responses = responses_after (given b) s }))

-- Of every chain of the sheet: no number is judged, and the bounds of chain c + 1 are in place c of eight; zeros past the last.
unfoldable pub suite_of : Sheet → Judgement
suite_of s = also (judge_of s) (lateness (passing_greatest (tasks_of s) (length (tasks_of s))))

abbrev pub no_bounds : Bounds
no_bounds = record { sampling_bound = 0; bound = 0 }

abbrev pub bounds_to : Sheet → ℕ → List Bounds
bounds_to s n = places 8 no_bounds n (λ c. bounds_of (tasks_of s) (chain_of s (c + 1)))

abbrev pub quick_suite_of : Sheet → Answer QuickSuite
quick_suite_of s = also (suite_of s) (given (record { responses = responses_after fine s; chains = bounds_to s (chain_count s) }))
