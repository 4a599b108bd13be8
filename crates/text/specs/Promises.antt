-- What each call promises of its inputs, its answer, and lent memory before and after.
use Rattle.std.specs.Prelude.{◌≡◌, List, ℕ, length, Result}
use Rattle.answers.specs.declared.Refusal.{Refusal}
use Rattle.answers.specs.Answers.{told}
use Rattle.sheet.specs.declared.Sheet.{Sheet}
use Rattle.text.specs.declared.Wrong.{Wrong}
use Rattle.text.specs.declared.Fault.{Fault}
use Rattle.text.specs.Calls.{show_of, page_after}
use Rattle.text.specs.Grammar.{number_of}
use Rattle.text.specs.Run.{parse_of}

abbrev pub ShowPromise : Sheet → List ℕ → Result ℕ Refusal → List ℕ → Type 0
ShowPromise s old w new = (told w ≡ show_of s (length old)) × (new ≡ page_after (told w) s old)

abbrev pub ParsePromise : List ℕ → Result Sheet Fault → Type 0
ParsePromise text r = r ≡ parse_of text

abbrev pub NumberPromise : Wrong → ℕ → Type 0
NumberPromise wrong number = number ≡ number_of wrong
