-- What the call answers. Quotations are from document 02, P6.
use Rattle.std.specs.Prelude.{◌≡◌, List, ℕ, ltb}
use Rattle.answers.specs.Answers.{Answer, given, refused, when, after, also}
use Rattle.sheet.specs.declared.Sheet.{Sheet}
use Rattle.sheet.specs.Tasks.{tasks_of, chain_of, first_of, rest_of}
use Rattle.schedule.specs.Calls.{sizes_of}
use Rattle.chain.specs.declared.answer.Summary.{Summary}
use Rattle.chain.specs.Calls.{figures_of}
use Rattle.clocklog.specs.Format.{count, records, log_judged}
use Rattle.night.specs.declared.answer.Replayed.{Replayed}
use Rattle.night.specs.Agreement.{Replays}

-- "The replay follows chain one."
abbrev pub chain_one : ℕ
chain_one = 1

-- "Refusals, after the sheet's 2 to 14 and before 15": what is judged before the table is filled, and then the figures of chain one, for
-- "the replay" uses "the merged" call (P8).
unfoldable pub figures_after : Sheet → List ℕ → ℕ → Answer Summary
figures_after s bytes room =
    after (sizes_of s) λ size.
    also (when (ltb room size.jobs) 14)
    (also (log_judged bytes s.count)
    (figures_of s chain_one room))

-- What is followed is that of the sheet's tasks and chain one, and of the log's records.
abbrev pub Follows : Sheet → List ℕ → Replayed → Type 0
Follows s bytes r = let chain = chain_of s chain_one in Replays (tasks_of s) (first_of chain) (rest_of chain) (records bytes) r.paths r.longest r.breaking

-- Where the figures are given, the answer has the sampling figure among them, the number of records, and what is followed.
pub record Answered (s : Sheet) (bytes : List ℕ) (x : Summary) (r : Replayed) : Type 0 where
  pub records_are : r.records ≡ count bytes
  pub figure_is : r.figure ≡ x.sampling
  pub follows : Follows s bytes r

abbrev pub AnswersFor : Sheet → List ℕ → Answer Summary → Answer Replayed → Type 0
AnswersFor s bytes (given x) (given r) = Answered s bytes x r
AnswersFor s bytes (given x) (refused number values) = ⊥
AnswersFor s bytes (refused number values) a = a ≡ refused number values
