-- What a job has read, and whose reading a write carries along a chain. Quotations are from document 01.
use Rattle.std.specs.Prelude.{List, [], ◌∷◌, ℕ, ◌≤◌}
use Rattle.theory.specs.Model.Schedule.{Demands, Run, Starts, Finishes}
use Rattle.theory.specs.Model.Chain.{InTime}

-- "A read at tick t has the newest write made at or before t": job m of c reads what job j of p wrote.
pub record Reads (d : Demands) (run : Run) (p c j m : ℕ) : Type 0 where
  pub read : ℕ
  pub starts : Starts d run c m read
  pub write : ℕ
  pub finishes : Finishes d run p j write
  pub in_time : InTime read write
  pub newest : (x f : ℕ) → Finishes d run p x f → InTime read f → f ≤ write

-- A job carries on what it has read: the write that the chain's last task makes at f carries the reading of job j of p, its first.
abbrev pub Carries : Demands → Run → ℕ → List ℕ → ℕ → ℕ → Type 0
Carries d run p [] j f = Finishes d run p j f
Carries d run p (c ∷ rest) j f = (m : ℕ) × Reads d run p c j m × Carries d run c rest m f

-- The reading of job k of p or a newer one arrives at f: the write at f carries one of these, none that is earlier does, and none that is later
-- carries an older one.
pub record Arrives (d : Demands) (run : Run) (p : ℕ) (rest : List ℕ) (k f : ℕ) : Type 0 where
  pub source : ℕ
  pub carries : Carries d run p rest source f
  pub newer : k ≤ source
  pub none_earlier : (j g : ℕ) → Carries d run p rest j g → k ≤ j → f ≤ g
  pub none_older : (j g : ℕ) → Carries d run p rest j g → f ≤ g → k ≤ j
