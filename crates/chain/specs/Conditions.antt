-- What the functions under the calls promise each other.
use Rattle.std.specs.Prelude.{◌≡◌, List, [], ℕ, ◌≤◌, ℤ, length, Result, Ok, Err}
use Rattle.theory.specs.declared.Task.{Task}
use Rattle.theory.specs.Model.Chain.{Chain}
use Rattle.answers.specs.declared.Refusal.{Refusal}
use Rattle.answers.specs.Answers.{Answer, refused, fine, after, also, refusal}
use Rattle.sheet.specs.declared.Sheet.{Sheet}
use Rattle.sheet.specs.Tasks.{lacks, first_of, rest_of}
use Rattle.schedule.specs.Calls.{sizes_of}
use Rattle.schedule.specs.Taken.{Taken}
use Rattle.chain.specs.Calls.{named}

-- A chain of tasks that are taken, no longer than a sheet's.
pub record TakenChain (ts : List Task) (chain : List ℕ) : Type 0 where
  pub tasks : Taken ts
  pub known : Chain ts (first_of chain) (rest_of chain)
  pub few : length chain ≤ 16

-- The sheet has the chain of a number; or the refusal, of a field or for the number.
abbrev pub Lacking : Sheet → ℕ → Result Unit Refusal → Type 0
Lacking s number (Ok u) = lacks s number ≡ fine
Lacking s number (Err r) = named s number ≡ refusal r

-- What is refused up to a limit that is over 4,000,000, and then this.
abbrev pub over_limit : Sheet → ℕ → Answer ℤ
over_limit s number = also (named s number) (after (sizes_of s) (λ size. refused 13 []))
