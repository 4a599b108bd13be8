-- What each call promises of its inputs, its answer, and lent memory before and after.
use Rattle.std.specs.Prelude.{◌≡◌, List, ℕ, length, Result}
use Rattle.answers.specs.declared.Refusal.{Refusal}
use Rattle.answers.specs.Answers.{given, after, also, told}
use Rattle.theory.specs.declared.Task.{Task}
use Rattle.sheet.specs.declared.Chain.{Chain}
use Rattle.sheet.specs.declared.Sheet.{Sheet}
use Rattle.sheet.specs.declared.sound.Judged.{Judged}
use Rattle.sheet.specs.Calls.{judge_of, read_of, write_of, buffer_after}
use Rattle.sheet.specs.Conversions.{to_second, to_first}
use Rattle.sheet.specs.Tasks.{tasks_of, chain_count, lacks, chain_at, entries_of}

abbrev pub JudgePromise : Sheet → Result Unit Refusal → Type 0
JudgePromise s v = told v ≡ judge_of s

abbrev pub JudgedPromise : Sheet → Result Judged Refusal → Type 0
JudgedPromise s r = after (told r) (λ x. given x.sheet) ≡ also (judge_of s) (given s)

abbrev pub ReadPromise : List ℕ → Result Sheet Refusal → Type 0
ReadPromise bytes r = told r ≡ read_of bytes

abbrev pub ToSecondPromise : Sheet → Result Sheet Refusal → Type 0
ToSecondPromise s r = told r ≡ to_second s

abbrev pub ToFirstPromise : Sheet → Result Sheet Refusal → Type 0
ToFirstPromise s r = told r ≡ to_first s

abbrev pub WritePromise : Sheet → List ℕ → Result ℕ Refusal → List ℕ → Type 0
WritePromise s old w new = (told w ≡ write_of s (length old)) × (new ≡ buffer_after (told w) s old)

abbrev pub ChainCountPromise : Sheet → ℕ → Type 0
ChainCountPromise s r = r ≡ chain_count s

abbrev pub NumberedPromise : Sheet → ℕ → Result Unit Refusal → Type 0
NumberedPromise s number v = told v ≡ lacks s number

abbrev pub ChainPromise : Judged → ℕ → Result Chain Refusal → Type 0
ChainPromise s number r = told r ≡ also (lacks s.sheet number) (given (chain_at s.sheet number))

abbrev pub TasksPromise : Judged → List Task → Type 0
TasksPromise s r = r ≡ tasks_of s.sheet

abbrev pub EntriesPromise : Chain → List ℕ → Type 0
EntriesPromise c r = r ≡ entries_of c
