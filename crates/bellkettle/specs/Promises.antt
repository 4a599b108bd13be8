-- What the calls promise: the number that is returned, and what is left in each slice that was lent.
use Rattle.std.specs.Prelude.{◌≡◌, false, List, ℕ, ℤ, length, Result}
use Rattle.std.proofs.lemmas.List.Edits.{sets}
use Rattle.answers.specs.declared.Refusal.{Refusal}
use Rattle.answers.specs.Answers.{Answer, given, refused, after}
use Rattle.sheet.specs.declared.Sheet.{Sheet}
use Rattle.sheet.specs.Calls.{read_of, write_of, buffer_after}
use Rattle.sheet.specs.Tasks.{tasks_of}
use Rattle.schedule.specs.Calls.{table_after}
use Rattle.night.specs.declared.answer.Replayed.{Replayed}
use Rattle.night.specs.Promises.{ReplayPromise}
use Rattle.telltale.specs.declared.Record.{Record}
use Rattle.telltale.specs.Calls.{stamp_of, record_after}
use Rattle.telltale.specs.Promises.{BeginPromise}
use Rattle.bellkettle.specs.declared.Question.{Question}
use Rattle.bellkettle.specs.Numbers.{number_of, values_of, in_numbers, alone, count_numbers, answer_to, quick_to, with_file, told_of}
use Rattle.bellkettle.specs.Fields.{periods_in, budgets_in, ranks_in, limits_in, lengths_in, entries_in, spread, sheet_from}

-- The number of an answer is returned, and its values stand at the front of the lent slice, as many as it has places for.
abbrev pub Returned : Answer (List ℤ) → ℕ → List ℤ → List ℤ → Type 0
Returned answer returned old values = (returned ≡ number_of answer) × (values ≡ sets old 0 (values_of answer))

-- What a sheet leaves in lent memory; bytes that are refused leave it untouched.
abbrev pub lent_after : {A : Type 0} → Answer Sheet → (Sheet → List A) → List A → List A
lent_after (given s) next old = next s
lent_after (refused number values) next old = old

-- A question is asked of a sheet's bytes: these are judged first, and then the sheet.
abbrev pub SheetAsked : Question → List ℕ → ℕ → List ℤ → List ℤ → List ℕ → List ℕ → Type 0
SheetAsked question bytes returned old-values values old-table table =
    Returned (after (read_of bytes) (answer_to question (length old-table))) returned old-values values
    × (table ≡ lent_after (read_of bytes) (λ s. table_after (answer_to question (length old-table) s) (tasks_of s) old-table) old-table)

-- The quick bound is asked of them, with no table.
abbrev pub quick_in : List ℕ → ℕ → Answer (List ℤ)
quick_in bytes number = after (read_of bytes) (quick_to number)

abbrev pub QuickAsked : List ℕ → ℕ → ℕ → List ℤ → List ℤ → Type 0
QuickAsked bytes number returned old-values values = Returned (quick_in bytes number) returned old-values values

-- A sheet's bytes are read: edition, n and the number of chains, and the fields in their slices.
abbrev pub counts_in : List ℕ → Answer (List ℤ)
counts_in bytes = in_numbers count_numbers (read_of bytes)

abbrev pub fields_after : List ℕ → ℕ → (Sheet → ℕ → ℕ) → List ℕ → List ℕ
fields_after bytes n fields old = lent_after (read_of bytes) (λ s. spread n (fields s) old) old

abbrev pub SheetRead : List ℕ → ℕ → List ℤ → List ℤ → List ℕ → List ℕ → List ℕ → List ℕ → List ℕ → List ℕ → List ℕ → List ℕ → List ℕ → List ℕ → List ℕ → List ℕ → Type 0
SheetRead bytes returned old-values values old-periods periods old-budgets budgets old-ranks ranks old-limits limits old-lengths lengths old-entries entries =
    Returned (counts_in bytes) returned old-values values
    × (periods ≡ fields_after bytes 16 periods_in old-periods)
    × (budgets ≡ fields_after bytes 16 budgets_in old-budgets)
    × (ranks ≡ fields_after bytes 16 ranks_in old-ranks)
    × (limits ≡ fields_after bytes 8 limits_in old-limits)
    × (lengths ≡ fields_after bytes 8 lengths_in old-lengths)
    × (entries ≡ fields_after bytes 128 entries_in old-entries)

-- The sheet that fields make is written: how many bytes, and these in the buffer.
abbrev pub size_for : Sheet → ℕ → Answer (List ℤ)
size_for s room = in_numbers alone (write_of s room)

abbrev pub SheetWritten : ℕ → List ℕ → List ℕ → List ℕ → List ℕ → List ℕ → List ℕ → ℕ → List ℤ → List ℤ → List ℕ → List ℕ → Type 0
SheetWritten edition periods budgets ranks limits lengths entries returned old-values values old out =
    let s = sheet_from edition periods budgets ranks limits lengths entries in
    Returned (size_for s (length old)) returned old-values values × (out ≡ buffer_after (write_of s (length old)) s old)

-- A log is held to the sheet that was read: what is returned and left is what the replay answers and leaves.
abbrev pub ReplayOf : Answer Sheet → List ℕ → ℕ → List ℤ → List ℤ → List ℕ → List ℕ → Type 0
ReplayOf (given s) log returned old-values values old-table table =
    (answer : Result Replayed Refusal) × Returned (told_of answer) returned old-values values × ReplayPromise s log old-table answer table
ReplayOf (refused number bits) log returned old-values values old-table table =
    Returned (with_file false (refused number bits)) returned old-values values × (table ≡ old-table)

abbrev pub ReplayAsked : List ℕ → List ℕ → ℕ → List ℤ → List ℤ → List ℕ → List ℕ → Type 0
ReplayAsked bytes log returned old-values values old-table table = ReplayOf (read_of bytes) log returned old-values values old-table table

-- The tell-tale's record, was before the call and left after it.
abbrev pub RecordBegun : Record → ℕ → Record → Type 0
RecordBegun was counter left = BeginPromise was counter left

abbrev pub RecordStamped : Record → ℕ → ℕ → List ℤ → List ℤ → Record → Type 0
RecordStamped was counter returned old values left = Returned (in_numbers alone (stamp_of was counter)) returned old values × (left ≡ record_after (stamp_of was counter) was)
