-- What each call answers, and the record that it leaves. Quotations are from document 02, P13.
use Rattle.std.specs.Prelude.{ℕ, ◌+◌, ◌-◌, ◌%◌, ◌^◌, min, max, Bool, true, false, cond, nat_le}
use Rattle.answers.specs.Answers.{Answer, given, refused, when, also}
use Rattle.telltale.specs.declared.Record.{Record}

-- "A fresh record has none under way and zeros"
abbrev pub fresh : Record
fresh = record { underway = false; counter = 0; longest = 0; count = 0 }

-- "the elapsed ticks across the rollover": from one counter on to the other, where 2^32 - 1 is followed by zero.
unfoldable pub elapsed : ℕ → ℕ → ℕ
elapsed from to = (to + (2 ^ 32 - from)) % 2 ^ 32

-- The record after begin: "Begin while one is under way keeps the older counter."
unfoldable pub begun_of : Record → ℕ → Record
begun_of r counter = cond r.underway r (record { underway = true; counter = counter; longest = r.longest; count = r.count })

-- "26 an elapsed time of 2,147,483,648 or more"
abbrev pub too_long : ℕ → Bool
too_long ticks = nat_le 2147483648 ticks

-- "25 a stamp with none under way"; then 26; else "the elapsed ticks".
unfoldable pub stamp_of : Record → ℕ → Answer ℕ
stamp_of r counter =
    also (when (cond r.underway false true) 25)
    (also (when (too_long (elapsed r.counter counter)) 26)
    (given (elapsed r.counter counter)))

-- The record after a stamp with this answer: "Stamp ends it [..] and adds one to the count", "a count that stays at 65,535 once there"; "an
-- accepted stamp zeroes the counter"; refusals "leave the record unchanged".
abbrev pub record_after : Answer ℕ → Record → Record
record_after (given ticks) r = record { underway = false; counter = 0; longest = max r.longest ticks; count = min (r.count + 1) 65535 }
record_after (refused number values) r = r
