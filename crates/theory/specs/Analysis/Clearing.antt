-- A response is evaluated by its backlog: the ticks from the release until the backlog of the level is 0.
use Rattle.std.specs.Prelude.{List}
use Prim.Native.Nat.{ℕ, zero, suc, ◌+◌}
use Rattle.theory.specs.declared.Task.{Task}
use Rattle.theory.specs.Model.Schedule.{period, release}
use Rattle.theory.specs.Model.Responses.{full}
use Rattle.theory.specs.Analysis.Backlog.{load, drain, full_backlog}

-- From the backlog b just before the releases of tick t: the ticks until it is 0, or n where that is not below n.
unfoldable pub until : (ℕ → ℕ) → ℕ → ℕ → ℕ → ℕ
until a zero b t = 0
until a (suc n) zero t = 0
until a (suc n) (suc b) t = suc (until a n (b + a t) (suc t))

-- The ticks from the release of job k of task i until the backlog of its level is 0, or T + 1 where that is after the next release.
unfoldable pub clearing : List Task → ℕ → ℕ → ℕ
unfolding until load drain
clearing ts i k = suc (until (load ts (full ts) i) (period ts i) (full_backlog ts i (suc (release ts i k))) (suc (release ts i k)))
