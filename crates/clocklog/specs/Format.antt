-- The log's bits, what its records say, and what is judged of it. Quotations are from document 02, P6.
use Rattle.std.specs.Prelude.{ℕ, zero, suc, ◌+◌, ◌-◌, ◌*◌, ◌%◌, true, cond, not, List, [], ◌∷◌, length, ◌==◌, nat_le, nat_lt}
use Rattle.arith.specs.Ranges.{sum}
use Rattle.bits.specs.Bits.{unpack, number}
use Rattle.answers.specs.Answers.{Judgement, fine, when, with_value, also}
use Rattle.sheet.specs.Calls.{tail_of}
use Rattle.clocklog.specs.declared.answer.Kind.{Kind}
use Rattle.clocklog.specs.declared.answer.Kind.TheVariants.{Start, Finish}
use Rattle.clocklog.specs.Events.{Event, start, finish}

-- "a 32-bit origin counter at some multiple of H, a record count of 12 bits, then per record a task index (4), a kind (1; zero is a start)
-- and a counter (32), then zero padding"
abbrev pub origin_bits : ℕ
origin_bits = 32

abbrev pub count_bits : ℕ
count_bits = 12

abbrev pub index_bits : ℕ
index_bits = 4

abbrev pub kind_bits : ℕ
kind_bits = 1

abbrev pub counter_bits : ℕ
counter_bits = 32

-- The bit at which record r begins.
abbrev pub begin : ℕ → ℕ
begin r = (origin_bits + count_bits) + (index_bits + kind_bits + counter_bits) * r

-- ---- what the bytes say

abbrev pub origin : List ℕ → ℕ
origin bytes = number (unpack bytes) 0 origin_bits

abbrev pub count : List ℕ → ℕ
count bytes = number (unpack bytes) origin_bits count_bits

abbrev pub task : List ℕ → ℕ → ℕ
task bytes r = number (unpack bytes) (begin r) index_bits

abbrev pub kind : List ℕ → ℕ → ℕ
kind bytes r = number (unpack bytes) (begin r + index_bits) kind_bits

-- The code's kinds by their numbers: "zero is a start".
abbrev pub kind_in : Kind → ℕ
kind_in Start = 0
kind_in Finish = 1

abbrev pub counter : List ℕ → ℕ → ℕ
counter bytes r = number (unpack bytes) (begin r + index_bits + kind_bits) counter_bits

-- The counter before that of record r.
abbrev pub before : List ℕ → ℕ → ℕ
before bytes zero = origin bytes
before bytes (suc r) = counter bytes r

-- "The counter rolls over past its top value and carries on from zero. Time is the sum of the differences between neighbours, taken across it."
abbrev pub turn : ℕ
turn = 4294967296

abbrev pub across : ℕ → ℕ → ℕ
across from to = (to + turn - from) % turn

abbrev pub gap : List ℕ → ℕ → ℕ
gap bytes r = across (before bytes r) (counter bytes r)

-- The time before record r, and at it.
unfoldable pub time_before : List ℕ → ℕ → ℕ
unfolding sum
time_before bytes r = sum r (gap bytes)

abbrev pub time_at : List ℕ → ℕ → ℕ
time_at bytes r = time_before bytes (suc r)

abbrev pub event : ℕ → ℕ → ℕ → Event
event task kind time = cond (kind == 0) (start task time) (finish task time)

abbrev pub record_at : List ℕ → ℕ → Event
record_at bytes r = event (task bytes r) (kind bytes r) (time_at bytes r)

-- So many records from record r on.
unfoldable pub records_from : List ℕ → ℕ → ℕ → List Event
unfolding time_before
records_from bytes r zero = []
records_from bytes r (suc left) = record_at bytes r ∷ records_from bytes (suc r) left

abbrev pub records : List ℕ → List Event
records bytes = records_from bytes 0 (count bytes)

-- ---- what is judged

-- "1 .. as for sheets": "the bytes end inside a field", with the bit at which it begins.
abbrev pub within : ℕ → ℕ → ℕ → Judgement
within room at width = with_value at (when (nat_lt room (at + width)) 1)

-- "19 a record names no task"
abbrev pub index_judged : ℕ → ℕ → ℕ → ℕ → Judgement
index_judged room at tasks task = also (within room at index_bits) (when (nat_le tasks task) 19)

-- The kind that the next record of task i must have before record r: a finish during its job, else a start.
unfoldable pub expected : List ℕ → ℕ → ℕ → ℕ
expected bytes zero i = 0
expected bytes (suc r) i = cond (task bytes r == i) (1 - kind bytes r) (expected bytes r i)

-- "20 a start during that task's job, or a finish without one"
abbrev pub kind_judged : ℕ → ℕ → ℕ → ℕ → Judgement
kind_judged room at kind expected = also (within room (at + index_bits) kind_bits) (when (not (kind == expected)) 20)

-- "21 a difference, or the time so far, of 2,147,483,648 or more"
abbrev pub most_time : ℕ
most_time = 2147483648

abbrev pub counter_judged : ℕ → ℕ → ℕ → ℕ → Judgement
counter_judged room at gap time =
    also (within room (at + index_bits + kind_bits) counter_bits) (when (cond (nat_le most_time gap) true (nat_le most_time (time + gap))) 21)

-- "front to back": the fields of a record that begins at a bit, each when it is read
abbrev pub entry_judged : ℕ → ℕ → ℕ → ℕ → ℕ → ℕ → ℕ → ℕ → Judgement
entry_judged room at tasks task kind gap expected time =
    also (index_judged room at tasks task) (also (kind_judged room at kind expected) (counter_judged room at gap time))

abbrev pub record_judged : List ℕ → ℕ → ℕ → Judgement
record_judged bytes tasks r =
    entry_judged (length bytes * 8) (begin r) tasks (task bytes r) (kind bytes r) (gap bytes r) (expected bytes r (task bytes r)) (time_before bytes r)

unfoldable pub records_judged : List ℕ → ℕ → ℕ → ℕ → Judgement
unfolding expected time_before
records_judged bytes tasks r zero = fine
records_judged bytes tasks r (suc left) = also (record_judged bytes tasks r) (records_judged bytes tasks (suc r) left)

abbrev pub head_judged : ℕ → Judgement
head_judged room = also (within room 0 origin_bits) (within room origin_bits count_bits)

-- The log for a sheet of so many tasks; last 9 "as for sheets", of what follows the last record.
unfoldable pub log_judged : List ℕ → ℕ → Judgement
unfolding records_judged
log_judged bytes tasks =
    also (head_judged (length bytes * 8)) (also (records_judged bytes tasks 0 (count bytes)) (tail_of bytes (begin (count bytes))))
