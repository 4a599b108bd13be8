-- The law of `greatest`: of the tasks that pass a test it gives the one of greatest rank.
use Rattle.std.specs.Prelude.{◌≡◌, Bool, true, false, ℕ, ◌≤◌, ◌<◌}
use Rattle.theory.specs.Model.Schedule.{Slot, idle, busy}

-- The slot holds the task below n of greatest rank that passes the test, or is idle where none does.
abbrev pub IsGreatest : (ℕ → ℕ) → (ℕ → Bool) → ℕ → Slot → Type 0
IsGreatest rank test n idle = (j : ℕ) → j < n → test j ≡ false
IsGreatest rank test n (busy i) = (i < n) × (test i ≡ true) × ((j : ℕ) → j < n → test j ≡ true → rank j ≤ rank i)
