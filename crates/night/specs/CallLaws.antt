-- The answer case by case: what is known of the sheet and the log where an answer is given, and what a refusal on the way comes to.
use Rattle.std.specs.Prelude.{◌≡◌, refl, ◌≢◌, List, [], ℕ, ◌≤◌, ◌<◌, ltb, length}
use Rattle.std.proofs.Common.{sym, ◌∙◌, subst, lt-ltb, le-ltb, ne_eqb}
use Rattle.std.proofs.Math.Path.{ap}
use Rattle.answers.specs.declared.Refusal.{Refusal}
use Rattle.answers.specs.Answers.{Answer, given, refused, Judgement, fine, when, after, also, number_in, refusal}
use Rattle.answers.specs.AnswerLaws.{after_given, also_given}
use Rattle.sheet.specs.declared.Sheet.{Sheet}
use Rattle.sheet.specs.Tasks.{tasks_of}
use Rattle.schedule.specs.declared.answer.Size.{Size}
use Rattle.schedule.specs.Calls.{sizes_of, table_after}
use Rattle.chain.specs.declared.answer.Summary.{Summary}
use Rattle.chain.specs.Calls.{with_tasks, figures_of, task_figures_of}
use Rattle.clocklog.specs.Format.{log_judged}
use Rattle.night.specs.declared.answer.Replayed.{Replayed}
use Rattle.night.specs.Calls.{chain_one, figures_after, Answered, AnswersFor}

module _ (s : Sheet) (bytes : List ℕ) (room : ℕ) where
  abbrev log : Judgement
  log = log_judged bytes s.count

  abbrev figures : Answer Summary
  figures = figures_of s chain_one room

  pub sizes_first : (r : Refusal) → sizes_of s ≡ refusal r → figures_after s bytes room ≡ refusal r
  unfolding figures_after
  sizes_first r e = ap (λ a. after a (λ size. also (when (ltb room size.jobs) 14) (also log figures))) e

  module _ (size : Size) (e : sizes_of s ≡ given size) where
    sized : figures_after s bytes room ≡ also (when (ltb room size.jobs) 14) (also log figures)
    unfolding figures_after
    sized = ap (λ a. after a (λ size. also (when (ltb room size.jobs) 14) (also log figures))) e

    pub room_next : room < size.jobs → figures_after s bytes room ≡ refused 14 []
    room_next l = sized ∙ ap (λ b. also (when b 14) (also log figures)) (lt-ltb room size.jobs l)

    module _ (l : size.jobs ≤ room) where
      fits : figures_after s bytes room ≡ also log figures
      fits = sized ∙ ap (λ b. also (when b 14) (also log figures)) (le-ltb room size.jobs l)

      pub log_next : (r : Refusal) → log ≡ refusal r → figures_after s bytes room ≡ refusal r
      log_next r q = fits ∙ ap (λ j. also j figures) q

      pub figures_last : log ≡ fine → figures_after s bytes room ≡ figures
      figures_last q = fits ∙ ap (λ j. also j figures) q

  -- Where figures are given, the log is fine and the figures are those of chain one.
  pub given_when : {x : Summary} → figures_after s bytes room ≡ given x → (log ≡ fine) × (figures ≡ given x)
  unfolding figures_after
  given_when e =
      let sizes = after_given (sizes_of s) (λ size. also (when (ltb room size.jobs) 14) (also log figures)) e in
      also_given log figures (also_given (when (ltb room sizes.0.jobs) 14) (also log figures) sizes.2).1

-- ---- how the call ends

module _ (s : Sheet) (bytes old : List ℕ) where
  abbrev definition : Answer Summary
  definition = figures_after s bytes (length old)

  -- "lent memory untouched"
  pub replay_refused : (r : Refusal) → definition ≡ refusal r → number_in r ≢ 15 → AnswersFor s bytes definition (refusal r) × (old ≡ table_after definition (tasks_of s) old)
  replay_refused r e n = rw e (refl, rw (ne_eqb (number_in r) 15 n) refl)

  -- What `figures` leaves.
  module _ {table : List ℕ} (last : definition ≡ figures_of s chain_one (length old)) (left : table ≡ table_after (figures_of s chain_one (length old)) (tasks_of s) old) where
    same_table : table ≡ table_after definition (tasks_of s) old
    same_table = left ∙ ap (λ a. table_after a (tasks_of s) old) (sym last)

    pub replay_late : (r : Refusal) → figures_of s chain_one (length old) ≡ refusal r → AnswersFor s bytes definition (refusal r) × (table ≡ table_after definition (tasks_of s) old)
    replay_late r e = (subst (λ a. AnswersFor s bytes a (refusal r)) (sym (last ∙ e)) refl, same_table)

    pub replay_given : (x : Summary) (r : Replayed) → figures_of s chain_one (length old) ≡ given x → Answered s bytes x r
        → AnswersFor s bytes definition (given r) × (table ≡ table_after definition (tasks_of s) old)
    replay_given x r e a = (subst (λ d. AnswersFor s bytes d (given r)) (sym (last ∙ e)) a, same_table)

-- ---- the figures, with each task's greatest response beside them

module _ (s : Sheet) (number room : ℕ) where
  pub figures_table : (old : List ℕ) → table_after (task_figures_of s number room) (tasks_of s) old ≡ table_after (figures_of s number room) (tasks_of s) old
  unfolding task_figures_of
  figures_table old = go (figures_of s number room)
    where
      go : (a : Answer Summary) → table_after (after a (λ x. given (with_tasks s x))) (tasks_of s) old ≡ table_after a (tasks_of s) old
      go (given x) = refl
      go (refused n values) = refl
