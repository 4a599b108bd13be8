-- A log as the clock writes it. (No call does: this is for the law that what is written is read back.)
use Rattle.std.specs.Prelude.{ℕ, suc, ◌+◌, ◌-◌, ◌%◌, ◌<◌, ◌≤◌, Bool, List, [], ◌∷◌, ◌++◌, length, slice_index_or}
use Rattle.bits.specs.Bits.{bits, bytes_of}
use Rattle.clocklog.specs.Events.{Event, start, finish, time}
use Rattle.clocklog.specs.Format.{origin_bits, count_bits, index_bits, kind_bits, counter_bits, turn}

abbrev pub task_of : Event → ℕ
task_of (start i t) = i
task_of (finish i t) = i

-- "a kind (1; zero is a start)"
abbrev pub kind_of : Event → ℕ
kind_of (start i t) = 0
kind_of (finish i t) = 1

unfoldable pub record_bits : ℕ → Event → List Bool
record_bits origin e = bits index_bits (task_of e) ++ (bits kind_bits (kind_of e) ++ bits counter_bits ((origin + time e) % turn))

unfoldable pub records_bits : ℕ → List Event → List Bool
unfolding record_bits
records_bits origin [] = []
records_bits origin (e ∷ es) = record_bits origin e ++ records_bits origin es

-- The records by a clock whose counter was `origin` at the origin.
unfoldable pub written : ℕ → List Event → List ℕ
unfolding records_bits
written origin es = bytes_of (bits origin_bits origin ++ (bits count_bits (length es) ++ records_bits origin es))

abbrev pub record_in : List Event → ℕ → Event
record_in es r = slice_index_or es r (start 0 0)

-- What fits the format: its widths, and times that rise by less than a turn of the counter.
pub record Writable (origin : ℕ) (es : List Event) : Type 0 where
  pub origin_fits : origin < turn
  pub count_fits : length es < 4096
  pub tasks_fit : (r : ℕ) → r < length es → task_of (record_in es r) < 16
  pub first : time (record_in es 0) < turn
  pub rises : (r : ℕ) → suc r < length es → time (record_in es r) ≤ time (record_in es (suc r))
  pub slowly : (r : ℕ) → suc r < length es → time (record_in es (suc r)) - time (record_in es r) < turn
