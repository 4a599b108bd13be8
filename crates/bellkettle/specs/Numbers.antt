-- Answers as a program in C gets them: a number that is returned, and values. Quotations are from document 01.
use Rattle.std.specs.Prelude.{Bool, true, cond, List, [], ◌∷◌, ◌++◌, map, ℕ, eqb, ℤ, pos, Option, Some, None, Result, Ok, Err}
use Rattle.answers.specs.declared.Refusal.{Refusal}
use Rattle.answers.specs.Answers.{Answer, given, refused, after, refusal}
use Rattle.sheet.specs.declared.Sheet.{Sheet}
use Rattle.schedule.specs.declared.answer.Totals.{Totals}
use Rattle.schedule.specs.Calls.{responses_of}
use Rattle.recurrence.specs.declared.answer.Bounds.{Bounds}
use Rattle.recurrence.specs.Calls.{quick_of}
use Rattle.chain.specs.declared.answer.Figure.{Figure}
use Rattle.chain.specs.declared.answer.Summary.{Summary}
use Rattle.chain.specs.Calls.{delay_of, margin_of, default_margin_of, figures_of}
use Rattle.night.specs.declared.answer.Longest.{Longest}
use Rattle.night.specs.declared.answer.Replayed.{Replayed}
use Rattle.bellkettle.specs.declared.Question.{Question}
use Rattle.bellkettle.specs.declared.Question.TheVariants.{Responses, Delay, Margin, DefaultMargin, Figures}

-- "A refusal returns its number": 0 where there is none.
abbrev pub number_of : Answer (List ℤ) → ℕ
number_of (given values) = 0
number_of (refused number values) = number

-- The values that are given, or that a refusal returns besides its number.
abbrev pub values_of : Answer (List ℤ) → List ℤ
values_of (given values) = values
values_of (refused number values) = map pos values

-- ---- the numbers of an answer, in order

abbrev pub in_numbers : {A : Type 0} → (A → List ℤ) → Answer A → Answer (List ℤ)
in_numbers numbers answer = after answer λ a. given (numbers a)

abbrev pub alone : ℕ → List ℤ
alone n = pos n ∷ []

abbrev pub signed : ℤ → List ℤ
signed z = z ∷ []

abbrev pub totals_numbers : Totals → List ℤ
totals_numbers t = pos t.hyperperiod ∷ pos t.jobs ∷ pos t.idle ∷ []

abbrev pub figure_numbers : Figure → List ℤ
figure_numbers f = pos f.ticks ∷ pos f.release ∷ []

abbrev pub summary_numbers : Summary → List ℤ
summary_numbers s =
    totals_numbers s.totals ++ figure_numbers s.sampling ++ alone s.sampling_bound ++ alone s.worst ++ alone s.bound ++ signed s.margin

abbrev pub bounds_numbers : Bounds → List ℤ
bounds_numbers b = pos b.sampling_bound ∷ pos b.bound ∷ []

-- Edition, n and the number of chains, which an old sheet does not give.
abbrev pub count_numbers : Sheet → List ℤ
count_numbers s = pos s.edition ∷ pos s.count ∷ pos s.suite ∷ []

-- What a sheet answers to a question, with a table of `room` entries.
abbrev pub answer_to : Question → ℕ → Sheet → Answer (List ℤ)
answer_to Responses room s = in_numbers totals_numbers (responses_of s room)
answer_to (Delay number release) room s = in_numbers alone (delay_of s number release room)
answer_to (Margin number limit) room s = in_numbers signed (margin_of s number limit room)
answer_to (DefaultMargin number) room s = in_numbers signed (default_margin_of s number room)
answer_to (Figures number) room s = in_numbers summary_numbers (figures_of s number room)

-- What it answers with no table.
abbrev pub quick_to : ℕ → Sheet → Answer (List ℤ)
quick_to number s = in_numbers bounds_numbers (quick_of s number)

-- ---- the replay of a log (document 02, P6)

-- Whether there is one, 1 or 0, and what it is: zeros where there is none.
abbrev pub longest_numbers : Option Longest → List ℤ
longest_numbers None = pos 0 ∷ pos 0 ∷ pos 0 ∷ []
longest_numbers (Some l) = pos 1 ∷ pos l.ticks ∷ pos l.job ∷ []

abbrev pub break_numbers : Option ℕ → List ℤ
break_numbers None = pos 0 ∷ pos 0 ∷ []
break_numbers (Some place) = pos 1 ∷ pos place ∷ []

abbrev pub replayed_numbers : Replayed → List ℤ
replayed_numbers r = alone r.records ++ alone r.paths ++ longest_numbers r.longest ++ break_numbers r.breaking ++ figure_numbers r.figure

-- Which file is refused, 0 the sheet and 1 the log: of a sheet that was read 1 and 9 are past, so that they are the log's.
abbrev pub file_of : Bool → ℕ → ℕ
file_of read number = cond read (cond (eqb number 1) 1 (cond (eqb number 9) 1 0)) 0

-- A refusal that returns a value returns the file behind it.
abbrev pub with_file : {A : Type 0} → Bool → Answer A → Answer A
with_file read (given a) = given a
with_file read (refused number []) = refused number []
with_file read (refused number (value ∷ values)) = refused number (value ∷ file_of read number ∷ [])

-- What a replay answers of a sheet that was read.
abbrev pub told_of : Result Replayed Refusal → Answer (List ℤ)
told_of (Ok r) = given (replayed_numbers r)
told_of (Err r) = with_file true (refusal r)
