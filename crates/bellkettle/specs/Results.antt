-- What the returned number tells a program in C: a refusal's number is never 0, so 0 tells that the answer is given.
use Rattle.std.specs.Prelude.{◌≡◌, refl, ◌↔◌, Bool, true, false, List, [], ◌∷◌, ℕ, ◌≤◌, ltb, ℤ, length, Ok, Err}
use Rattle.std.proofs.Common.{sym, ap, ◌∙◌, subst, inl, inr, arith}
use Rattle.answers.specs.declared.Refusal.{Refusal}
use Rattle.answers.specs.Answers.{Answer, given, refused, after, number_in, values_in, refusal}
use Rattle.answers.specs.AnswerLaws.{refused_given}
use Rattle.answers.specs.NumberLaws.{Numbered, given_numbered, numbered_wider, when_numbered, after_numbered, also_numbered}
use Rattle.sheet.specs.declared.Sheet.{Sheet}
use Rattle.sheet.specs.Calls.{read_of}
use Rattle.sheet.specs.NumberLaws.{read_numbered, write_numbered}
use Rattle.schedule.specs.NumberLaws.{sizes_numbered, responses_numbered}
use Rattle.recurrence.specs.NumberLaws.{quick_numbered}
use Rattle.chain.specs.Calls.{default_limit}
use Rattle.chain.specs.NumberLaws.{delay_numbered, margin_numbered, figures_numbered}
use Rattle.chain.specs.declared.answer.Summary.{Summary}
use Rattle.clocklog.specs.Format.{log_judged}
use Rattle.clocklog.specs.NumberLaws.{OfLog, log_numbers}
use Rattle.night.specs.declared.answer.Replayed.{Replayed}
use Rattle.night.specs.Calls.{chain_one, figures_after, AnswersFor}
use Rattle.night.specs.CallResults.{ReplayAnswers}
use Rattle.telltale.specs.declared.Record.{Record}
use Rattle.telltale.specs.Calls.{stamp_of}
use Rattle.telltale.specs.CallLaws.{stamp_numbered}
use Rattle.bellkettle.specs.declared.Question.{Question}
use Rattle.bellkettle.specs.declared.Question.TheVariants.{Responses, Delay, Margin, DefaultMargin, Figures}
use Rattle.bellkettle.specs.Numbers.{number_of, in_numbers, alone, signed, totals_numbers, summary_numbers, bounds_numbers, count_numbers, answer_to, quick_to, with_file}
use Rattle.bellkettle.specs.Promises.{quick_in, counts_in, size_for, ReplayOf, ReplayAsked}

-- The number is 0 exactly when the answer is given.
pub record ZeroWhenGiven (answer : Answer (List ℤ)) : Type 0 where
  pub zero_given : number_of answer ≡ 0 → (values : List ℤ) × (answer ≡ given values)
  pub given_zero : (values : List ℤ) → answer ≡ given values → number_of answer ≡ 0

numbered_given : {answer : Answer (List ℤ)} {high : ℕ} → Numbered 1 high answer → number_of answer ≡ 0 → (values : List ℤ) × (answer ≡ given values)
numbered_given {answer = given values} n e = (values, refl)
numbered_given {answer = refused number values} n e = absurd (omega (arith, n.least refl, e))

numbered_zero : {answer : Answer (List ℤ)} {high : ℕ} → Numbered 1 high answer → ZeroWhenGiven answer
numbered_zero n = record { zero_given = numbered_given n; given_zero = λ values e. ap number_of e }

-- An answer keeps its refusals when it is told in numbers.
told_numbered : {A : Type 0} {answer : Answer A} {low high : ℕ} (numbers : A → List ℤ) → Numbered low high answer → Numbered low high (in_numbers numbers answer)
told_numbered numbers n = after_numbered n (λ a. given_numbered (numbers a))

answer_numbered : (question : Question) (room : ℕ) (s : Sheet) → Numbered 2 17 (answer_to question room s)
answer_numbered Responses room s = told_numbered totals_numbers (responses_numbered s room)
answer_numbered (Delay number release) room s = told_numbered alone (delay_numbered s number room release)
answer_numbered (Margin number limit) room s = told_numbered signed (margin_numbered s number room limit)
answer_numbered (DefaultMargin number) room s = told_numbered signed (margin_numbered s number room default_limit)
answer_numbered (Figures number) room s = told_numbered summary_numbers (figures_numbered s number room)

pub asked_zero : (question : Question) (bytes : List ℕ) (room : ℕ) → ZeroWhenGiven (after (read_of bytes) (answer_to question room))
asked_zero question bytes room =
    numbered_zero {high = 17}
    (after_numbered (numbered_wider (read_numbered bytes) (omega arith) (omega arith))
    (λ s. numbered_wider (answer_numbered question room s) (omega arith) (omega arith)))

pub quick_zero : (bytes : List ℕ) (number : ℕ) → ZeroWhenGiven (quick_in bytes number)
quick_zero bytes number =
    numbered_zero {high = 17}
    (after_numbered {next = quick_to number} (numbered_wider (read_numbered bytes) (omega arith) (omega arith))
    (λ s. numbered_wider (told_numbered bounds_numbers (quick_numbered s number)) (omega arith) (omega arith)))

pub read_zero : (bytes : List ℕ) → ZeroWhenGiven (counts_in bytes)
read_zero bytes = numbered_zero {high = 17} (told_numbered count_numbers (numbered_wider (read_numbered bytes) (omega arith) (omega arith)))

pub write_zero : (s : Sheet) (room : ℕ) → ZeroWhenGiven (size_for s room)
write_zero s room = numbered_zero {high = 17} (told_numbered alone (numbered_wider (write_numbered s room) (omega arith) (omega arith)))

pub stamp_zero : (was : Record) (counter : ℕ) → ZeroWhenGiven (in_numbers alone (stamp_of was counter))
stamp_zero was counter = numbered_zero {high = 26} (told_numbered alone (numbered_wider (stamp_numbered was counter) (omega arith) (omega arith)))

-- ---- the replay

log_bounds : {n : ℕ} → OfLog n → (1 ≤ n) × (n ≤ 21)
log_bounds (inl e) = (omega arith, omega arith)
log_bounds (inr (inl e)) = (omega arith, omega arith)
log_bounds (inr (inr (inl e))) = (omega arith, omega arith)
log_bounds (inr (inr (inr (inl e)))) = (omega arith, omega arith)
log_bounds (inr (inr (inr (inr e)))) = (omega arith, omega arith)

log_numbered : (log : List ℕ) (tasks : ℕ) → Numbered 1 21 (log_judged log tasks)
log_numbered log tasks = record { least = λ e. (log_bounds ((log_numbers log tasks).holds e)).0; most = λ e. (log_bounds ((log_numbers log tasks).holds e)).1 }

figures_after_numbered : (s : Sheet) (log : List ℕ) (room : ℕ) → Numbered 1 21 (figures_after s log room)
unfolding figures_after
figures_after_numbered s log room =
    after_numbered (numbered_wider (sizes_numbered s) (omega arith) (omega arith))
    (λ size. also_numbered (when_numbered (ltb room size.jobs) 14 (omega arith) (omega arith))
    (also_numbered (log_numbered log s.count) (numbered_wider (figures_numbered s chain_one room) (omega arith) (omega arith))))

-- The file does not change the number.
file_number : (read : Bool) (number : ℕ) (values : List ℕ) → number_of (with_file read (refused number values)) ≡ number
file_number read number [] = refl
file_number read number (value ∷ values) = refl

module _ (s : Sheet) (log : List ℕ) (room : ℕ) where
  given_answers : (r : Replayed) (definition : Answer Summary) → figures_after s log room ≡ definition → AnswersFor s log definition (given r) → ReplayAnswers s log room r
  given_answers r (given x) e h = record { figures = x; given_are = e; answered = h }
  given_answers r (refused number values) e h = refused_given (sym h)

  refused_numbered_one : (q : Refusal) (definition : Answer Summary) → figures_after s log room ≡ definition → AnswersFor s log definition (refusal q) → 1 ≤ number_in q
  refused_numbered_one q (given x) e h = absurd h
  refused_numbered_one q (refused number values) e h = (figures_after_numbered s log room).least (e ∙ same h)
    where
      same : {vs : List ℕ} → ◌≡◌ {A = Answer Replayed} (refused (number_in q) vs) (refused number values) → ◌≡◌ {A = Answer Summary} (refused number values) (refused (number_in q) vs)
      same h = cc

  never_both : (q : Refusal) (r : Replayed) (definition : Answer Summary) → figures_after s log room ≡ definition → AnswersFor s log definition (refusal q) → ¬ (ReplayAnswers s log room r)
  never_both q r (given x) e h a = h
  never_both q r (refused number values) e h a = refused_given (sym e ∙ a.given_are)

replay_of_zero : (source : Answer Sheet) → Numbered 1 17 source → (log : List ℕ) (returned : ℕ) (old-values values : List ℤ) (old-table table : List ℕ)
    → ReplayOf source log returned old-values values old-table table
    → (returned ≡ 0) ↔ ((s : Sheet) × (r : Replayed) × (source ≡ given s) × ReplayAnswers s log (length old-table) r)
replay_of_zero (given s) n log returned old-values values old-table table (Ok r, p, h) =
    (λ e. (s, r, refl, given_answers s log (length old-table) r (figures_after s log (length old-table)) refl h.0), λ x. p.0)
replay_of_zero (given s) n log returned old-values values old-table table (Err q, p, h) = (
  λ e. absurd (omega (arith, e, p.0, file_number true (number_in q) (values_in q), refused_numbered_one s log (length old-table) q (figures_after s log (length old-table)) refl h.0)),
  λ x. absurd (never_both s log (length old-table) q x.1 (figures_after s log (length old-table)) refl h.0 (subst (λ s'. ReplayAnswers s' log (length old-table) x.1) (back x.2) x.3)),
)
  where
    back : {s' : Sheet} → ◌≡◌ {A = Answer Sheet} (given s) (given s') → s' ≡ s
    back e = cc
replay_of_zero (refused number bits) n log returned old-values values old-table table p =
    (λ e. absurd (omega (arith, e, p.0.0, file_number false number bits, n.least refl)), λ x. refused_given x.2)

-- 0 is returned exactly when the sheet is read and the replay answers.
pub replay_zero : (bytes log : List ℕ) (returned : ℕ) (old-values values : List ℤ) (old-table table : List ℕ) → ReplayAsked bytes log returned old-values values old-table table
    → (returned ≡ 0) ↔ ((s : Sheet) × (r : Replayed) × (read_of bytes ≡ given s) × ReplayAnswers s log (length old-table) r)
replay_zero bytes log returned old-values values old-table table p =
    replay_of_zero (read_of bytes) (numbered_wider (read_numbered bytes) (omega arith) (omega arith)) log returned old-values values old-table table p
