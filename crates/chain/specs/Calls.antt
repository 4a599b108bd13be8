-- What the calls answer. Each leaves in the table what `responses` leaves with an answer, or with a refusal of that number
-- (`table_after` of schedule). Quotations are from document 01.
use Rattle.std.specs.Prelude.{Bool, true, cond, List, ℕ, ◌+◌, ◌%◌, ltb, leb, eqb, ℤ, pos, ◌-ℤ◌, replicate}
use Rattle.theory.specs.declared.Task.{Task}
use Rattle.theory.specs.Model.Schedule.{period}
use Rattle.theory.specs.Model.Responses.{response, hyperperiod, task_response}
use Rattle.theory.specs.Model.Flag.{from_flag}
use Rattle.theory.specs.Model.Chain.{delay, sampling, sampling_release, bound}
use Rattle.sheet.specs.declared.Sheet.{Sheet}
use Rattle.answers.specs.Answers.{Answer, given, refused, Judgement, when, after, also}
use Rattle.sheet.specs.Calls.{places, judge_of}
use Rattle.sheet.specs.Conversions.{old_limit}
use Rattle.sheet.specs.Tasks.{tasks_of, chain_count, lacks, chain_of, limit_of, first_of, rest_of}
use Rattle.schedule.specs.Calls.{sizes_of, responses_of, greatest_after}
use Rattle.schedule.specs.declared.answer.Totals.{Totals}
use Rattle.chain.specs.declared.answer.Figure.{Figure}
use Rattle.chain.specs.declared.answer.Suite.{Suite}
use Rattle.chain.specs.declared.answer.Summary.{Summary}
use Rattle.chain.specs.declared.answer.TaskFigures.{TaskFigures}

-- The figures of a chain, by the responses of the full-budget schedule.
abbrev pub delay_at : List Task → List ℕ → ℕ → ℕ
delay_at ts chain release = delay ts (response ts) (first_of chain) (rest_of chain) release

-- The sampling figure is document 01's worst figure, "the greatest delay over the first task's releases in 0 to H − 1. With it goes the smallest
-- release that gives it."
abbrev pub figure_of : List Task → List ℕ → Figure
figure_of ts chain = record {
  ticks = sampling ts (response ts) (first_of chain) (rest_of chain);
  release = sampling_release ts (response ts) (first_of chain) (rest_of chain);
}

abbrev pub quick_bound : List Task → List ℕ → ℕ
quick_bound ts chain = bound ts (task_response ts) (first_of chain) (rest_of chain)

-- "Margin is a limit less the worst figure, and may fall below zero."
abbrev pub less : ℕ → ℕ → ℤ
less limit figure = pos limit -ℤ pos figure

-- 12: "the release asked for is not a multiple of the first chain task's T, or is H or more"
abbrev pub no_release : List Task → List ℕ → ℕ → Bool
no_release ts chain release = cond (leb (hyperperiod ts) release) true (ltb 0 (release % period ts (first_of chain)))

-- The fields; "then 17 for a chain number the sheet lacks, before 10" (document 02, P3).
abbrev pub named : Sheet → ℕ → Judgement
named s number = also (judge_of s) (lacks s number)

-- "After that 10, 11, 12, 13, 14, 15, each in the calls that have the thing it judges": the answers for a table of `room` entries.
unfoldable pub delay_of : Sheet → ℕ → ℕ → ℕ → Answer ℕ
delay_of s number release room =
    also (named s number)
    (after (sizes_of s) λ size.
    also (when (no_release (tasks_of s) (chain_of s number) release) 12)
    (after (responses_of s room) λ totals.
    given (delay_at (tasks_of s) (chain_of s number) release)))

-- "margin limit 0 to 4,000,000"
abbrev pub most_limit : ℕ
most_limit = 4000000

-- "The margin call without a limit should use 500 ticks." (document 02, P7)
abbrev pub default_limit : ℕ
default_limit = 500

-- The report prints "the margin under its limit" (document 02, P3); an old sheet has none, and its report goes by the limit that a conversion gives it.
abbrev pub report_limit : Sheet → ℕ → ℕ
report_limit s number = cond (eqb s.edition 1) old_limit (limit_of s number)

-- "one answer with sampling figure, its release, bound and idle" (document 02, P8), and what a report says besides: H, J, and from a flag on
-- "the worst figure", "the bound", and the margin under a limit. "The report's worst and bound now add T − 1 of the first task; every margin now
-- uses that worst" (P2).
abbrev pub summary_of : List Task → List ℕ → ℕ → Totals → Summary
summary_of ts chain limit totals = record {
  totals = totals;
  sampling = figure_of ts chain;
  sampling_bound = quick_bound ts chain;
  worst = from_flag ts (first_of chain) (figure_of ts chain).ticks;
  bound = from_flag ts (first_of chain) (quick_bound ts chain);
  margin = less limit (from_flag ts (first_of chain) (figure_of ts chain).ticks);
}

abbrev pub summary_at : Sheet → ℕ → Totals → Summary
summary_at s number totals = summary_of (tasks_of s) (chain_of s number) (report_limit s number) totals

-- "The order of refusals is that of the worst figure": 10, 11, 14, 15.
unfoldable pub figures_of : Sheet → ℕ → ℕ → Answer Summary
figures_of s number room =
    also (named s number)
    (after (responses_of s room) λ totals.
    given (summary_at s number totals))

-- 13: "the limit is over 4,000,000"
unfoldable pub margin_of : Sheet → ℕ → ℕ → ℕ → Answer ℤ
margin_of s number limit room =
    also (named s number)
    (after (sizes_of s) λ size.
    also (when (ltb most_limit limit) 13)
    (after (figures_of s number room) λ x.
    given (less limit x.worst)))

abbrev pub default_margin_of : Sheet → ℕ → ℕ → Answer ℤ
default_margin_of s number room = margin_of s number default_limit room

-- The same for every chain of the sheet, in eight places: the summary of chain c + 1 in place c; zeros past the last.
abbrev pub no_summary : Summary
no_summary = record {
  totals = record { hyperperiod = 0; jobs = 0; idle = 0 };
  sampling = record { ticks = 0; release = 0 };
  sampling_bound = 0;
  worst = 0;
  bound = 0;
  margin = pos 0;
}

abbrev pub summaries_to : Sheet → Totals → ℕ → List Summary
summaries_to s totals n = places 8 no_summary n (λ c. summary_at s (c + 1) totals)

abbrev pub summaries_after : Answer Totals → Sheet → List Summary
summaries_after (given totals) s = summaries_to s totals (chain_count s)
summaries_after (refused number values) s = replicate 8 no_summary

-- The summary with R of each task,
abbrev pub with_tasks : Sheet → Summary → TaskFigures
with_tasks s x = record { summary = x; greatest = greatest_after (given x) s }

unfoldable pub task_figures_of : Sheet → ℕ → ℕ → Answer TaskFigures
task_figures_of s number room = after (figures_of s number room) λ x. given (with_tasks s x)

-- and what a report says: the totals with R of each task, and the summary of each chain.
abbrev pub report_of : Sheet → Totals → Suite
report_of s totals = record { totals = totals; greatest = greatest_after (given totals) s; chains = summaries_after (given totals) s }

unfoldable pub suite_of : Sheet → ℕ → Answer Suite
suite_of s room = after (responses_of s room) λ totals. given (report_of s totals)
