-- The numbers of refusal that the calls may give.
use Rattle.std.specs.Prelude.{ℕ, ltb}
use Rattle.std.proofs.Common.{arith}
use Rattle.answers.specs.Answers.{Answer, given, after, also}
use Rattle.answers.specs.NumberLaws.{Numbered, given_numbered, when_numbered, after_numbered, also_numbered, Never, refused_only, when_only, after_only, also_only}
use Rattle.sheet.specs.declared.Sheet.{Sheet}
use Rattle.sheet.specs.Fields.{outside}
use Rattle.sheet.specs.NumberLaws.{judge_never, judge_numbered}
use Rattle.sheet.specs.Tasks.{tasks_of, chain_count, chain_of}
use Rattle.schedule.specs.declared.answer.Totals.{Totals}
use Rattle.schedule.specs.declared.answer.Size.{Size}
use Rattle.schedule.specs.Calls.{sizes_of, responses_of}
use Rattle.schedule.specs.NumberLaws.{sizes_numbered, responses_numbered, sizes_never_15}
use Rattle.chain.specs.Calls.{delay_at, less, no_release, named, summary_at, most_limit, delay_of, margin_of, figures_of}
use Rattle.chain.specs.Conditions.{over_limit}

module _ (s : Sheet) (number : ℕ) where
  -- 15 is given for a late task alone.
  pub named_never_15 : Never 15 (named s number)
  named_never_15 =
      also_only (judge_never 15 (omega arith) (omega arith) (λ e. omega arith) s) (when_only (outside 1 (chain_count s) number) 17 (λ e. omega arith))

  pub over_never_15 : Never 15 (over_limit s number)
  over_never_15 = also_only named_never_15 (after_only (sizes_never_15 s) (λ size. refused_only 13 _ (λ e. omega arith)))

  named_numbered : {A : Type 0} {rest : Answer A} → Numbered 2 17 rest → Numbered 2 17 (also (named s number) rest)
  named_numbered n = also_numbered (also_numbered (judge_numbered s) (when_numbered (outside 1 (chain_count s) number) 17 (omega arith) (omega arith))) n

  module _ (room : ℕ) where
    filled_numbered : {A : Type 0} (x : Totals → A) → Numbered 2 17 (after (responses_of s room) (λ totals. given (x totals)))
    filled_numbered x = after_numbered (responses_numbered s room) (λ totals. given_numbered (x totals))

    sized_numbered : {A : Type 0} {rest : Size → Answer A} → ((size : Size) → Numbered 2 17 (rest size)) → Numbered 2 17 (after (sizes_of s) rest)
    sized_numbered n = after_numbered (sizes_numbered s) n

    pub figures_numbered : Numbered 2 17 (figures_of s number room)
    unfolding figures_of
    figures_numbered = named_numbered (filled_numbered (summary_at s number))

    pub delay_numbered : (release : ℕ) → Numbered 2 17 (delay_of s number release room)
    unfolding delay_of
    delay_numbered release =
        named_numbered
        (sized_numbered (λ size. also_numbered (when_numbered (no_release (tasks_of s) (chain_of s number) release) 12 (omega arith) (omega arith))
        (filled_numbered (λ totals. delay_at (tasks_of s) (chain_of s number) release))))

    pub margin_numbered : (limit : ℕ) → Numbered 2 17 (margin_of s number limit room)
    unfolding margin_of
    margin_numbered limit =
        named_numbered
        (sized_numbered (λ size. also_numbered (when_numbered (ltb most_limit limit) 13 (omega arith) (omega arith))
        (after_numbered figures_numbered (λ x. given_numbered (less limit x.worst)))))
