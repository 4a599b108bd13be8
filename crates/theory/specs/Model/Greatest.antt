-- The greatest-ranked of some tasks.
use Rattle.std.specs.Prelude.{Bool, cond, ℕ, zero, suc, ltb}
use Rattle.theory.specs.Model.Schedule.{Slot, idle, busy}

-- Task i, or the slot's task if that has no smaller rank.
abbrev pub outranking : (ℕ → ℕ) → ℕ → Slot → Slot
outranking rank i idle = busy i
outranking rank i (busy j) = cond (ltb (rank j) (rank i)) (busy i) (busy j)

-- Of the tasks 0 .. n - 1 that pass the test, the one of greatest rank.
unfoldable pub greatest : (ℕ → ℕ) → (ℕ → Bool) → ℕ → Slot
greatest rank test zero = idle
greatest rank test (suc n) = cond (test n) (outranking rank n (greatest rank test n)) (greatest rank test n)
