-- The level backlog: the unfinished work of a task and of those that outrank it obeys a recursion that forgets who runs.
use Rattle.std.specs.Prelude.{List}
use Prim.Native.Nat.{ℕ, zero, suc, ◌+◌, ◌-◌}
use Rattle.theory.specs.declared.Task.{Task}
use Rattle.theory.specs.Model.Schedule.{Demands, released, due, Slot, Run, runs, done}
use Rattle.theory.specs.Model.Responses.{full}
use Rattle.theory.specs.Analysis.Level.{level}

-- The work of the level that is released at tick t.
unfoldable pub load : List Task → Demands → ℕ → ℕ → ℕ
unfolding level released
load ts d i t = level ts i (λ j. released ts d j t)

-- What is left before tick t where work comes in, a x of it at tick x, and one unit is done at each tick while there is any.
unfoldable pub drain : (ℕ → ℕ) → ℕ → ℕ
drain a zero = 0
drain a (suc t) = (drain a t + a t) - 1

-- The backlog of the level of task i, just before the releases of tick t.
abbrev pub backlog : List Task → Demands → ℕ → ℕ → ℕ
backlog ts d i = drain (load ts d i)

abbrev pub full_backlog : List Task → ℕ → ℕ → ℕ
full_backlog ts = backlog ts (full ts)

-- What the tasks of a level have done before tick t, what is due of them, and their ticks in a slot.
abbrev pub level_done : List Task → Run → ℕ → ℕ → ℕ
level_done ts run i t = level ts i (λ j. done run j t)

abbrev pub level_due : List Task → Demands → ℕ → ℕ → ℕ
level_due ts d i t = level ts i (λ j. due ts d j t)

abbrev pub level_runs : List Task → ℕ → Slot → ℕ
level_runs ts i x = level ts i (λ j. runs j x)
