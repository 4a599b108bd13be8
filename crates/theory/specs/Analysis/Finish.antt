-- In every schedule a job that is on time finishes at the first zero of its level's backlog after its release.
use Rattle.std.specs.Prelude.{◌≡◌, ℕ, ◌≤◌, ◌<◌}

-- After tick r the function f is first 0 at z.
pub record FirstZero (f : ℕ → ℕ) (r z : ℕ) : Type 0 where
  pub after : r < z
  pub is_zero : f z ≡ 0
  pub first : (x : ℕ) → r < x → f x ≡ 0 → z ≤ x
