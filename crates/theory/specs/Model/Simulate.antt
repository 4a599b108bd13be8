-- The run that follows the rule from tick 0 on, as a function that computes. `Existence` shows that it is the only schedule.
use Rattle.std.specs.Prelude.{List, ℕ, zero, suc, ◌+◌, ltb, length}
use Rattle.theory.specs.declared.Task.{Task}
use Rattle.theory.specs.Model.Schedule.{rank, Demands, due, Slot, Run, runs}
use Rattle.theory.specs.Model.Greatest.{greatest}

-- "At each tick the processor runs the released, unfinished job of greatest rank": what runs at t after the ticks counted in ran.
unfoldable pub choice : List Task → Demands → ℕ → (ℕ → ℕ) → Slot
choice ts d t ran = greatest (rank ts) (λ i. ltb (ran i) (due ts d i (suc t))) (length ts)

-- The run that follows this rule from tick 0 on; `ticks` counts those of task i before t.
unfoldable pub ticks : List Task → Demands → ℕ → ℕ → ℕ
ticks ts d zero i = 0
ticks ts d (suc t) i = ticks ts d t i + runs i (choice ts d t (ticks ts d t))

unfoldable pub simulate : List Task → Demands → Run
simulate ts d t = choice ts d t (ticks ts d t)
