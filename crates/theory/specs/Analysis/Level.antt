-- The level of a task is the tasks of rank at least its own; sums over it.
use Rattle.std.specs.Prelude.{List, Bool, ℕ, leb, length}
use Rattle.std.proofs.Math.Bool.{cond}
use Rattle.theory.specs.declared.Task.{Task}
use Rattle.arith.specs.Ranges.{sum}
use Rattle.theory.specs.Model.Schedule.{rank}

-- Task j is of the level of task i where its rank is at least i's.
abbrev pub in_level : List Task → ℕ → ℕ → Bool
in_level ts i j = leb (rank ts i) (rank ts j)

-- The sum of f over the level of task i.
unfoldable pub level : List Task → ℕ → (ℕ → ℕ) → ℕ
unfolding sum
level ts i f = sum (length ts) (λ j. cond (in_level ts i j) (f j) 0)
