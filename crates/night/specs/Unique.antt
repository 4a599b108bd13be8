-- One input, one answer and one content of the table: two that meet the call's promise are equal.
use Rattle.std.specs.Prelude.{◌≡◌, refl, List, ℕ, length, Result, Ok, Err}
use Rattle.std.proofs.Common.{sym, ap, ap₂, ◌∙◌}
use Rattle.theory.specs.Model.Schedule.{Proper}
use Rattle.answers.specs.declared.Refusal.{Refusal}
use Rattle.answers.specs.Answers.{Answer, given, refused, told}
use Rattle.answers.specs.AnswerLaws.{refused_given, refusal_unique}
use Rattle.sheet.specs.declared.Sheet.{Sheet}
use Rattle.sheet.specs.Tasks.{tasks_of, chain_of, first_of, rest_of}
use Rattle.chain.specs.declared.answer.Summary.{Summary}
use Rattle.chain.specs.CallLaws.{figures_given}
use Rattle.clocklog.specs.Format.{records}
use Rattle.night.specs.declared.answer.Replayed.{Replayed}
use Rattle.night.specs.Calls.{chain_one, figures_after, Answered, AnswersFor}
use Rattle.night.specs.CallLaws.{given_when}
use Rattle.night.specs.Promises.{ReplayPromise}
use Rattle.night.specs.Results.{Same, replays_unique}

answered_unique : (s : Sheet) (bytes : List ℕ) (x : Summary) → Proper (tasks_of s) → (q r : Replayed) → Answered s bytes x q → Answered s bytes x r → q ≡ r
answered_unique s bytes x good q r h g =
    ap₂ (λ n f. record { records = n; paths = q.paths; longest = q.longest; breaking = q.breaking; figure = f }) (h.records_are ∙ sym g.records_are) (h.figure_is ∙ sym g.figure_is)
    ∙ ap₂ (λ n l. record { records = r.records; paths = n; longest = l; breaking = q.breaking; figure = r.figure }) same.paths same.longest
    ∙ ap (λ b. record { records = r.records; paths = r.paths; longest = r.longest; breaking = b; figure = r.figure }) same.breaking
  where
    chain : List ℕ
    chain = chain_of s chain_one

    same : Same q.paths r.paths q.longest r.longest q.breaking r.breaking
    same = replays_unique good (first_of chain) (rest_of chain) (records bytes) q.paths r.paths q.longest r.longest q.breaking r.breaking h.follows g.follows

answers_unique : (s : Sheet) (bytes : List ℕ) (room : ℕ) (definition : Answer Summary) → figures_after s bytes room ≡ definition
    → (x y : Result Replayed Refusal) → AnswersFor s bytes definition (told x) → AnswersFor s bytes definition (told y) → x ≡ y
answers_unique s bytes room (given z) e (Ok q) (Ok r) h g =
    ap Ok (answered_unique s bytes z (figures_given s chain_one room (given_when s bytes room e).1).taken.tasks.accepted.proper q r h g)
answers_unique s bytes room (given z) e (Ok q) (Err r) h g = absurd g
answers_unique s bytes room (given z) e (Err q) y h g = absurd h
answers_unique s bytes room (refused number values) e (Ok q) y h g = refused_given (sym h)
answers_unique s bytes room (refused number values) e (Err q) (Ok r) h g = refused_given (sym g)
answers_unique s bytes room (refused number values) e (Err q) (Err r) h g = ap Err (refusal_unique q r (h ∙ sym g))

pub replay_unique : (s : Sheet) (bytes old table table' : List ℕ) (x y : Result Replayed Refusal) → ReplayPromise s bytes old x table → ReplayPromise s bytes old y table' → (x ≡ y) × (table ≡ table')
replay_unique s bytes old table table' x y p q =
    (answers_unique s bytes (length old) (figures_after s bytes (length old)) refl x y p.0 q.0, p.1 ∙ sym q.1)
