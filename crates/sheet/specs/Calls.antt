-- What reading, judging and writing a timing sheet answer, and what they leave in memory.
use Rattle.std.specs.Prelude.{Bool, cond, List, [], ◌∷◌, ◌++◌, ℕ, zero, suc, ◌+◌, ◌*◌, ◌<◌, min, ltb, eqb, length}
use Rattle.bits.specs.Bits.{bits, unpack, number, list_of, bytes_for, bytes_of, written}
pub use Rattle.bits.specs.Bits.{first_one, wrong_bit}
use Rattle.theory.specs.declared.Task.{Task}
use Rattle.theory.specs.Model.Schedule.{none}
use Rattle.sheet.specs.declared.Sheet.{Sheet}
use Rattle.sheet.specs.declared.Chain.{Chain}
use Rattle.sheet.specs.declared.Field.{Field}
use Rattle.sheet.specs.declared.Field.TheVariants.{Mark, Edition, Count, Period, Budget, Rank, Chains, Limit, Length, Entry}
use Rattle.answers.specs.Answers.{Answer, given, refused, Judgement, when, with_value, also}
use Rattle.sheet.specs.Fields.{Values, Kind, old, new, kind_of, chains, fields, width, widths, value, judged, with_offset, in_order}

-- ---- a sheet in memory

-- A field's judgement comes with "the offset the field would have if written".
abbrev pub judged_on : Values → ℕ → Field → Judgement
judged_on v at f = with_offset at (judged (kind_of v) v f)

-- "A sheet handed over in memory is judged .. in the same field order."
unfoldable pub judge_of : Sheet → Judgement
judge_of s = in_order (judged_on (value s)) 0 (fields (value s))

-- ---- its bits

unfoldable pub bits_of : Values → List Field → List Bool
bits_of v [] = []
bits_of v (f ∷ fs) = bits (width f) (v f) ++ bits_of v fs

abbrev pub packed : Sheet → List Bool
packed s = bits_of (value s) (fields (value s))

-- The bytes of a sheet, in "the edition the sheet carries".
abbrev pub encoded : Sheet → List ℕ
encoded s = bytes_of (packed s)

-- The last field's end.
abbrev pub end_of : Sheet → ℕ
end_of s = widths (fields (value s))

abbrev pub size_of : Sheet → ℕ
size_of s = bytes_for (end_of s)

-- The writer judges the fields "and then 14 only".
unfoldable pub write_of : Sheet → ℕ → Answer ℕ
write_of s room = also (judge_of s) (also (when (ltb room (size_of s)) 14) (given (size_of s)))

-- "A written sheet leaves bytes past its length untouched"; a refusal leaves all of them.
abbrev pub buffer_after : Answer ℕ → Sheet → List ℕ → List ℕ
buffer_after (given size) s before = written (packed s) before
buffer_after (refused number values) s before = before

-- ---- a sheet by its values

-- "its ranks are 8-bit numbers": what the struct's type says of every sheet in memory.
abbrev pub RanksFit : Sheet → Type 0
RanksFit s = (i : ℕ) → value s (Rank i) < 256

-- So many places, the first k as f says, "unused ones zero".
abbrev pub places : {A : Type 0} → ℕ → A → ℕ → (ℕ → A) → List A
places room blank k f = list_of room (λ i. cond (ltb i k) (f i) blank)

abbrev pub task_by : Values → ℕ → Task
task_by v i = record { period = v (Period i); budget = v (Budget i); rank = v (Rank i) }

abbrev pub unused : Chain
unused = record { entries = places 16 0 0 (λ i. 0); length = 0; limit = 0 }

-- "count and limits, read as zero" for old sheets.
abbrev pub if_new : Kind → ℕ → ℕ → ℕ
if_new old x y = y
if_new new x y = x

abbrev pub chain_by : Kind → Values → ℕ → Chain
chain_by kind v c = record { entries = places 16 0 (v (Length c)) (λ i. v (Entry c i)); length = v (Length c); limit = if_new kind (v (Limit c)) 0 }

-- Behind a mark a 1 is no edition either: 1 in memory is an old sheet.
abbrev pub edition_by : Values → ℕ
edition_by v = cond (eqb (v Edition) 1) 0 (v Edition)

-- The sheet that holds these values, its unused places zero.
abbrev pub sheet_by : Kind → Values → Sheet
sheet_by kind v =
    record {
      edition = if_new kind (edition_by v) 1;
      tasks = places 16 none (v Count) (task_by v);
      count = v Count;
      chains = places 8 unused (chains kind v) (chain_by kind v);
      suite = if_new kind (v Chains) 0;
    }

abbrev pub sheet_of : Values → Sheet
sheet_of v = sheet_by (kind_of v) v

abbrev pub cleared : Sheet → Sheet
cleared s = sheet_of (value s)

-- ---- the values that bits spell

-- Bits that an old sheet lacks.
abbrev pub extra : Kind → ℕ → ℕ
extra kind w = if_new kind w 0

abbrev pub task_bits : ℕ
task_bits = width (Period 0) + width (Budget 0) + width (Rank 0)

-- Where task i begins; what follows the tasks begins where one more would.
abbrev pub task_begin : Kind → ℕ → ℕ
task_begin kind i = extra kind (width Mark + width Edition) + width Count + task_bits * i

-- Where a field begins on a sheet of n tasks whose chain c begins at `begin c`: the end of the field before it, as a law says.
abbrev pub place : Kind → ℕ → (ℕ → ℕ) → Field → ℕ
place kind n begin Mark = 0
place kind n begin Edition = width Mark
place kind n begin Count = extra kind (width Mark + width Edition)
place kind n begin (Period i) = task_begin kind i
place kind n begin (Budget i) = task_begin kind i + width (Period i)
place kind n begin (Rank i) = task_begin kind i + width (Period i) + width (Budget i)
place kind n begin Chains = task_begin kind n
place kind n begin (Limit c) = begin c
place kind n begin (Length c) = begin c + extra kind (width (Limit c))
place kind n begin (Entry c i) = begin c + extra kind (width (Limit c)) + width (Length c) + width (Entry c i) * i

-- Where chain c begins if the first begins at bit `at` and each limit takes w bits, the lengths as the bits spell them.
unfoldable pub chain_from : List Bool → ℕ → ℕ → ℕ → ℕ
chain_from bs w at zero = at
chain_from bs w at (suc c) =
    let begin = chain_from bs w at c in
    begin + w + width (Length c) + width (Entry c 0) * min (number bs (begin + w) (width (Length c))) 16

abbrev pub begin_in : List Bool → Kind → ℕ → ℕ → ℕ
begin_in bs kind n = chain_from bs (extra kind (width (Limit 0))) (task_begin kind n + extra kind (width Chains))

abbrev pub spelt_by : List Bool → Kind → ℕ → Values
spelt_by bs kind n f = number bs (place kind n (begin_in bs kind n) f) (width f)

-- The mark and the task count stand before what they decide.
abbrev pub kind_in : List Bool → Kind
kind_in bs = cond (eqb (number bs 0 (width Mark)) 31) new old

abbrev pub tasks_in : List Bool → Kind → ℕ
tasks_in bs kind = min (number bs (extra kind (width Mark + width Edition)) (width Count)) 16

unfoldable pub spelt : List Bool → Values
spelt bs = spelt_by bs (kind_in bs) (tasks_in bs (kind_in bs))

-- ---- bytes read

-- "each field when it is read: 1 first, then the field's own number"
abbrev pub judged_whole : ℕ → Values → ℕ → Field → Judgement
judged_whole room v at f = also (when (ltb room (at + width f)) 1) (judged (kind_of v) v f)

abbrev pub judged_in : ℕ → Values → ℕ → Field → Judgement
judged_in room v at f = with_offset at (judged_whole room v at f)

-- "a bit after the last field is 1, or a byte follows the last needed", with "the earlier of the first wrong bit and the surplus byte's first"
abbrev pub tail_of : List ℕ → ℕ → Judgement
tail_of bytes end =
    let wrong = wrong_bit (unpack bytes) end in
    with_value wrong (also (when (ltb wrong (bytes_for end * 8)) 9) (when (ltb (bytes_for end) (length bytes)) 9))

-- "A sheet's bytes are judged front to back": the fields that they spell, and then what follows.
abbrev pub read_as : List ℕ → Sheet → Answer Sheet
read_as bytes s = also (in_order (judged_in (length bytes * 8) (value s)) 0 (fields (value s))) (also (tail_of bytes (end_of s)) (given s))

unfoldable pub read_of : List ℕ → Answer Sheet
read_of bytes = read_as bytes (sheet_of (spelt (unpack bytes)))
