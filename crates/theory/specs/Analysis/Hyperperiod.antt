-- Laws of the hyperperiod: the least common multiple of the periods, and a whole number of jobs of each task.
use Rattle.std.specs.Prelude.{◌≡◌, ℕ, ◌*◌, ◌/◌, ◌<◌}

-- H is a cycle of n tasks: some whole number of periods of each.
pub record Cycle (n H : ℕ) (T : ℕ → ℕ) : Type 0 where
  pub some : 0 < H
  pub positive : (i : ℕ) → i < n → 0 < T i
  pub whole : (i : ℕ) → i < n → H / T i * T i ≡ H
