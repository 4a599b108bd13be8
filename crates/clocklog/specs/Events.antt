-- What a log records: "the clock's log of starts and finishes" (document 02, P6).
use Rattle.std.specs.Prelude.{ℕ}

-- A start or a finish of a task, at a tick.
pub data Event : Type 0 where
  start : ℕ → ℕ → Event
  finish : ℕ → ℕ → Event

abbrev pub time : Event → ℕ
time (start i t) = t
time (finish i t) = t
