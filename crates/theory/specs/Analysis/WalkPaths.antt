-- The paths of a run that keeps to a walk's responses: from each job there is one, and it is no longer than the delay of its chain.
use Rattle.std.specs.Prelude.{◌≡◌, ◌≢◌, false, ℕ, ◌+◌, ◌*◌, ◌≤◌, ◌<◌}
use Rattle.theory.specs.Model.Schedule.{Demands, Run, Starts, Finishes}
use Rattle.theory.specs.Model.Chain.{Waits, Table}

-- What a walk needs of a run: jobs start, at or after their release, and finish, within their response after it; responses are within periods;
-- and where a hand-over does not wait, no job of the consumer starts before one of the producer that is released no later has finished.
pub record Keeps (n : ℕ) (T : ℕ → ℕ) (waits : Waits) (table : Table) (d : Demands) (run : Run) : Type 0 where
  pub positive : (i : ℕ) → i < n → 0 < T i
  pub starts : (i k : ℕ) → i < n → (t : ℕ) × Starts d run i k t
  pub finishes : (i k : ℕ) → i < n → (f : ℕ) × Finishes d run i k f
  pub released : (i k t : ℕ) → i < n → Starts d run i k t → k * T i ≤ t
  pub in_time : (i k f : ℕ) → i < n → Finishes d run i k f → f ≤ k * T i + table i k
  pub by_next : (i k : ℕ) → i < n → table i k ≤ T i
  pub in_order : (p c k m f t : ℕ) → p < n → c < n → p ≢ c → waits p c ≡ false → k * T p ≤ m * T c
      → Finishes d run p k f → Starts d run c m t → f ≤ t
