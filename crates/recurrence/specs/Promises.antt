-- What each call promises of its inputs and its answer.
use Rattle.std.specs.Prelude.{◌≡◌, ℕ, Result}
use Rattle.theory.specs.declared.Task.{Task}
use Rattle.answers.specs.declared.Refusal.{Refusal}
use Rattle.answers.specs.Answers.{told}
use Rattle.sheet.specs.declared.Sheet.{Sheet}
use Rattle.recurrence.specs.declared.answer.QuickBound.{QuickBound}
use Rattle.recurrence.specs.declared.answer.QuickSuite.{QuickSuite}
use Rattle.recurrence.specs.Calls.{pair_added, quick_bound_of, quick_suite_of}

abbrev pub PairBoundPromise : Task → Task → ℕ → ℕ → Type 0
PairBoundPromise producer consumer response r = r ≡ pair_added producer consumer response

abbrev pub BoundPromise : Sheet → ℕ → Result QuickBound Refusal → Type 0
BoundPromise s number r = told r ≡ quick_bound_of s number

abbrev pub SuitePromise : Sheet → Result QuickSuite Refusal → Type 0
SuitePromise s r = told r ≡ quick_suite_of s
