-- Laws of `done`, `need` and `due`: how they go on by a tick or a job, and that the work due is that of the jobs released.
-- One tick's share
use Rattle.std.specs.Prelude.{◌≡◌}
use Prim.Native.Nat.{ℕ, ◌<◌}
use Rattle.theory.specs.Model.Schedule.{busy, Run, done}

-- A count that a task passes by f, it has at a tick before f in which it runs.
pub record Passes (run : Run) (i x f : ℕ) : Type 0 where
  pub at : ℕ
  pub before : at < f
  pub runs_then : run at ≡ busy i
  pub counts : done run i at ≡ x
