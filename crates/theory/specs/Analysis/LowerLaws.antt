-- A task's responses do not know the tasks that are ranked below it: its level names none of them, so its backlog is the same without them.
use Rattle.std.specs.Prelude.{◌≡◌, List, cond, leb, eqb}
use Prim.Native.Nat.{ℕ, ◌%◌, ◌≤◌, ◌<◌}
use Rattle.std.proofs.Math.ListN.{length, get_or}
use Rattle.theory.specs.declared.Task.{Task}
use Rattle.theory.specs.Model.Schedule.{none, rank}

-- Task i of the list has at least this rank.
pub record From (rank₀ : ℕ) (ts : List Task) (i : ℕ) : Type 0 where
  pub known : i < length ts
  pub ranked : rank₀ ≤ rank ts i

-- Wherever a task of either list has at least this rank, both lists hold the same.
pub record SameFrom (rank₀ : ℕ) (ts us : List Task) : Type 0 where
  pub left : (i : ℕ) → From rank₀ ts i → (i < length us) × (get_or ts i none ≡ get_or us i none)
  pub right : (i : ℕ) → From rank₀ us i → (i < length ts) × (get_or ts i none ≡ get_or us i none)

-- What task y gives at tick t to the load of the level of task x.
abbrev pub share : ℕ → Task → Task → ℕ
share t x y = cond (leb x.rank y.rank) (cond (eqb (t % y.period) 0) y.budget 0) 0
