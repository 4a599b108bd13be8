-- P6 in the words of the call: what an answer of `replay` says. Quotations are from document 02, P6.
use Rattle.std.specs.Prelude.{◌≡◌, ◌↔◌, List, ℕ, ◌+◌, ◌≤◌, Some, None}
use Rattle.std.proofs.Common.{ap, ◌∙◌, subst, arith}
use Rattle.theory.specs.Model.Schedule.{release}
use Rattle.answers.specs.Answers.{given}
use Rattle.sheet.specs.declared.Sheet.{Sheet}
use Rattle.sheet.specs.Tasks.{tasks_of, chain_of, first_of, rest_of}
use Rattle.chain.specs.declared.answer.Figure.{Figure}
use Rattle.chain.specs.declared.answer.Summary.{Summary}
use Rattle.chain.specs.CallLaws.{FiguresGiven, figures_given}
use Rattle.clocklog.specs.Events.{Event}
use Rattle.clocklog.specs.Format.{records}
use Rattle.night.specs.declared.answer.Longest.{Longest}
use Rattle.night.specs.declared.answer.Replayed.{Replayed}
use Rattle.night.specs.Agreement.{Agrees, before_break, Breaks, Completed, IsLongest}
use Rattle.night.specs.Calls.{chain_one, figures_after, Answered}
use Rattle.night.specs.CallLaws.{given_when}
use Rattle.night.specs.Results.{breaks_unique, before_agrees, path_within_figure}

-- `replay` answers r, for a sheet, a log and a table of `room` entries.
pub record ReplayAnswers (s : Sheet) (bytes : List ℕ) (room : ℕ) (r : Replayed) : Type 0 where
  pub figures : Summary
  pub given_are : figures_after s bytes room ≡ given figures
  pub answered : Answered s bytes figures r

module _ (s : Sheet) (bytes : List ℕ) (room : ℕ) (r : Replayed) (answer : ReplayAnswers s bytes room r) where
  abbrev first : ℕ
  first = first_of (chain_of s chain_one)

  abbrev rest : List ℕ
  rest = rest_of (chain_of s chain_one)

  -- The records that are followed.
  abbrev before : List Event
  before = before_break (records bytes) r.breaking

  taken : FiguresGiven s chain_one room answer.figures
  taken = figures_given s chain_one room (given_when s bytes room answer.given_are).1

  -- "A break is named exactly when no such schedule exists."
  pub agrees_named : (r.breaking ≡ None) ↔ Agrees (tasks_of s) (records bytes)
  agrees_named = (
    λ e. subst (Breaks (tasks_of s) (records bytes)) e answer.answered.follows.breaks,
    λ a. breaks_unique taken.taken.tasks.accepted.proper (records bytes) r.breaking None answer.answered.follows.breaks a,
  )

  -- "No delay followed exceeds the sampling figure": that of the answer, for each path that is completed in a schedule which begins with the records followed,
  pub no_path_exceeds : (a : Agrees (tasks_of s) before) (k f : ℕ) → Completed (tasks_of s) first rest before a k f → f ≤ release (tasks_of s) first k + r.figure.ticks
  no_path_exceeds a k f path =
      omega (
        arith,
        path_within_figure taken.taken.tasks.accepted first rest taken.taken.known before a k f path,
        ap (λ (x : Figure). x.ticks) (answer.answered.figure_is ∙ taken.sampling_is),
      )

  -- and so for the longest.
  pub longest_within_figure : (x : Longest) → r.longest ≡ Some x → x.ticks ≤ r.figure.ticks
  longest_within_figure x e =
      let a = before_agrees (records bytes) r.breaking answer.answered.follows.breaks in
      let longest = subst (IsLongest (tasks_of s) first rest before a) e (answer.answered.follows.longest_is a) in
      omega (arith, no_path_exceeds a x.job (release (tasks_of s) first x.job + x.ticks) longest.0)
