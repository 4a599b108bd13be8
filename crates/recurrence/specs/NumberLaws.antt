-- The numbers of refusal that the call may give.
use Rattle.std.specs.Prelude.{◌≢◌, ℕ, ◌≤◌, length}
use Rattle.std.proofs.Common.{arith}
use Rattle.answers.specs.NumberLaws.{Numbered, given_numbered, numbered_wider, when_numbered, also_numbered, Never, given_only, when_only, also_only}
use Rattle.sheet.specs.declared.Sheet.{Sheet}
use Rattle.sheet.specs.Fields.{outside}
use Rattle.sheet.specs.NumberLaws.{judge_never, judge_numbered}
use Rattle.sheet.specs.Tasks.{tasks_of, chain_count}
use Rattle.sheet.specs.LatenessLaws.{lateness_numbered, lateness_never}
use Rattle.recurrence.specs.Calls.{passing_greatest, quick_of}

module _ (s : Sheet) (number : ℕ) where
  pub quick_numbered : Numbered 2 17 (quick_of s number)
  unfolding quick_of
  quick_numbered =
      also_numbered (judge_numbered s)
      (also_numbered (when_numbered (outside 1 (chain_count s) number) 17 (omega arith) (omega arith))
      (also_numbered (numbered_wider (lateness_numbered (passing_greatest (tasks_of s) (length (tasks_of s)))) (omega arith) (omega arith)) (given_numbered _)))

  -- What no field is refused with, and is not 15,
  never : (n : ℕ) → 9 ≤ n → n ≤ 14 → n ≢ 13 → Never n (quick_of s number)
  unfolding quick_of
  never n least most other =
      also_only (judge_never n least (omega arith) other s)
      (also_only (when_only (outside 1 (chain_count s) number) 17 (λ e. omega arith))
      (also_only (lateness_never (λ e. omega arith) (passing_greatest (tasks_of s) (length (tasks_of s)))) (given_only _)))

  -- is not given: "10, 11 and 14 do not occur in this call."
  pub quick_never : Never 10 (quick_of s number) × Never 11 (quick_of s number) × Never 14 (quick_of s number)
  quick_never =
      (never 10 (omega arith) (omega arith) (λ e. omega arith), never 11 (omega arith) (omega arith) (λ e. omega arith), never 14 (omega arith) (omega arith) (λ e. omega arith))
