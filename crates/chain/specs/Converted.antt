-- The report on an old sheet is the report on its conversion: both go by one limit.
use Rattle.std.specs.Prelude.{◌≡◌, Bool, true, false, cond, ℕ, ◌+◌, ◌<◌, length}
use Rattle.std.proofs.Math.Path.{refl, ap₂}
use Rattle.std.proofs.Common.{sym, ap, ◌∙◌, subst, arith, eq-eqb}
use Rattle.answers.specs.Answers.{Answer, given, refused, fine, when, after, also}
use Rattle.sheet.specs.declared.Sheet.{Sheet}
use Rattle.sheet.specs.Calls.{places, judge_of}
use Rattle.sheet.specs.Fields.{outside}
use Rattle.sheet.specs.Conversions.{old_limit, second}
use Rattle.sheet.specs.PlaceLaws.{places_same}
use Rattle.sheet.specs.SoundLaws.{inside}
use Rattle.sheet.specs.Tasks.{tasks_of, lacks, limit_of}
use Rattle.sheet.specs.ThereAndBack.{second_chain, second_limit, second_judged}
use Rattle.schedule.specs.declared.answer.Totals.{Totals}
use Rattle.schedule.specs.Calls.{sizes_of, responses_of, greatest_after}
use Rattle.chain.specs.declared.answer.Summary.{Summary}
use Rattle.chain.specs.Calls.{report_limit, summary_of, summary_at, no_summary, summaries_after, with_tasks, report_of, figures_of, task_figures_of, suite_of}

module _ (s : Sheet) (some : 0 < length s.chains) (old : s.edition ≡ 1) where
  limit_same : report_limit (second s) 1 ≡ report_limit s 1
  limit_same = second_limit s some ∙ sym (ap (λ b. cond b old_limit (limit_of s 1)) (eq-eqb s.edition 1 old))

  summary_same : (totals : Totals) → summary_at (second s) 1 totals ≡ summary_at s 1 totals
  unfolding tasks_of
  summary_same totals = ap₂ (λ chain limit. summary_of (tasks_of s) chain limit totals) (second_chain s some) limit_same

  summaries_same : (answer : Answer Totals) → summaries_after answer (second s) ≡ summaries_after answer s
  summaries_same (refused number values) = refl
  summaries_same (given totals) =
      places_same 8 no_summary 1 (λ c. summary_at (second s) (c + 1) totals) (λ c. summary_at s (c + 1) totals)
      (λ c one _. subst (λ k. summary_at (second s) (k + 1) totals ≡ summary_at s (k + 1) totals) {x = 0} {y = c} (omega arith) (summary_same totals))
      ∙ sym (ap (λ b. places 8 no_summary (cond b 1 s.suite) (λ c. summary_at s (c + 1) totals)) (eq-eqb s.edition 1 old))

  greatest_same : (answer : Answer Totals) → greatest_after answer (second s) ≡ greatest_after answer s
  unfolding tasks_of
  greatest_same (given totals) = refl
  greatest_same (refused number values) = refl

  -- Neither has a chain but chain 1.
  summary_known : (number : ℕ) (answer : Answer Totals) → also (lacks (second s) number) (after answer (λ totals. given (summary_at (second s) number totals)))
      ≡ also (lacks s number) (after answer (λ totals. given (summary_at s number totals)))
  summary_known number answer =
      go (outside 1 1 number) refl answer
      ∙ sym (ap (λ b. also (when (outside 1 (cond b 1 s.suite) number) 17) (after answer (λ totals. given (summary_at s number totals)))) (eq-eqb s.edition 1 old))
    where
      go : (b : Bool) → outside 1 1 number ≡ b → (answer : Answer Totals) → also (when (outside 1 1 number) 17) (after answer (λ totals. given (summary_at (second s) number totals)))
          ≡ also (when (outside 1 1 number) 17) (after answer (λ totals. given (summary_at s number totals)))
      go true e answer = rw e
      go false e (refused n values) = refl
      go false e (given totals) =
          ap (λ x. also (when (outside 1 1 number) 17) (given x))
          (subst (λ k. summary_at (second s) k totals ≡ summary_at s k totals) {x = 1} {y = number} (omega (arith, inside 1 1 number e)) (summary_same totals))

  module _ (ok : judge_of s ≡ fine) (room : ℕ) where
    responses_same : responses_of (second s) room ≡ responses_of s room
    unfolding responses_of sizes_of tasks_of
    responses_same = rw (second_judged s some ok, ok)

    -- What `suite` answers of both, and so what the report prints of them.
    pub report_same : (responses_of (second s) room ≡ responses_of s room)
        × (greatest_after (responses_of (second s) room) (second s) ≡ greatest_after (responses_of s room) s)
        × (summaries_after (responses_of (second s) room) (second s) ≡ summaries_after (responses_of s room) s)
    report_same = (
      responses_same,
      ap (λ a. greatest_after a (second s)) responses_same ∙ greatest_same (responses_of s room),
      ap (λ a. summaries_after a (second s)) responses_same ∙ summaries_same (responses_of s room),
    )

    -- So the calls answer the same of both: `suite`, which gives the report,
    pub suite_same : suite_of (second s) room ≡ suite_of s room
    unfolding suite_of
    suite_same = ap (λ a. after a (λ totals. given (report_of (second s) totals))) responses_same ∙ go (responses_of s room)
      where
        go : (a : Answer Totals) → after a (λ totals. given (report_of (second s) totals)) ≡ after a (λ totals. given (report_of s totals))
        go (given totals) =
            ap₂ (λ greatest chains. given (record { totals = totals; greatest = greatest; chains = chains })) (greatest_same (given totals)) (summaries_same (given totals))
        go (refused number values) = refl

    -- and `figures`, whatever the chain's number.
    pub figures_same : (number : ℕ) → figures_of (second s) number room ≡ figures_of s number room
    unfolding figures_of
    figures_same number = rw (second_judged s some ok, ok, responses_same) (summary_known number (responses_of s room))

    pub task_figures_same : (number : ℕ) → task_figures_of (second s) number room ≡ task_figures_of s number room
    unfolding task_figures_of tasks_of
    task_figures_same number = ap (λ a. after a (λ x. given (with_tasks (second s) x))) (figures_same number) ∙ go (figures_of s number room)
      where
        go : (a : Answer Summary) → after a (λ x. given (with_tasks (second s) x)) ≡ after a (λ x. given (with_tasks s x))
        go (given x) = refl
        go (refused n values) = refl
