-- Every tick is a task's or idle; on an accepted sheet each task runs C·H/T of the ticks 0 .. H - 1.
use Rattle.std.specs.Prelude.{◌≡◌, refl, List, length}
use Prim.Native.Nat.{ℕ, zero, suc, ◌+◌, ◌-◌, ◌*◌, ◌≤◌, ◌<◌}
use native.Mathlib.Omega.{arith}
use Rattle.theory.specs.declared.Task.{Task}
use Rattle.arith.specs.Ranges.{sum}
use Rattle.arith.specs.RangeLaws.{sum_add, sum_eq, sum_zero, sum_const, sum_point}
use Rattle.theory.specs.Model.Schedule.{budget, rank, Demands, need, released, due, Slot, idle, busy, Run, runs, done, Schedule}
use Rattle.theory.specs.Model.Responses.{full, full_budget, hyperperiod, jobs, rests, idle_ticks, Accepted}
use Rattle.theory.proofs.Analysis.Work.{runs_self, runs_other, due_most}
use Rattle.theory.proofs.Analysis.Level.{level_add, level_all}
use Rattle.theory.specs.Analysis.Backlog.{load, backlog}
use Rattle.theory.proofs.Analysis.Backlog.{drain_step, done_most, backlog_unfinished}
use Rattle.theory.proofs.Analysis.Existence.{full_schedule}
use Rattle.theory.proofs.Analysis.Hyperperiod.{jobs_whole}
use Rattle.theory.proofs.Analysis.Repetition.{hyperperiod_done}

module _ {ts : List Task} {d : Demands} {run : Run} (s : Schedule ts d run) where
  tick_shared : (t : ℕ) → sum (length ts) (λ j. runs j (run t)) + rests (run t) ≡ 1
  tick_shared t = go (run t) refl
    where
      go : (x : Slot) → run t ≡ x → sum (length ts) (λ j. runs j x) + rests x ≡ 1
      go idle e = omega (arith, sum_zero (length ts) (λ j. 0) (λ j l. refl))
      go (busy i) e =
          omega (arith, sum_point (length ts) i (λ j. runs j (busy i)) (s.runs_known t i e) (λ j l q. runs_other q), runs_self i)

  -- The ticks of the tasks and the idle ticks add up.
  pub ticks_add_up : (t : ℕ) → sum (length ts) (λ j. done run j t) + sum t (λ x. rests (run x)) ≡ t
  unfolding done sum
  ticks_add_up zero = omega (arith, sum_zero (length ts) (λ j. 0) (λ j l. refl))
  ticks_add_up (suc t) = omega (arith, sum_add (length ts) (λ j. done run j t) (λ j. runs j (run t)), ticks_add_up t, tick_shared t)

  -- A tick is idle exactly where the level of the lowest rank, which is all tasks, has no work left and gets none.
  pub idle_backlog : (i : ℕ) → ((j : ℕ) → j < length ts → rank ts i ≤ rank ts j) → (t : ℕ)
      → rests (run t) ≡ 1 - (backlog ts d i t + load ts d i t)
  unfolding done due sum load
  idle_backlog i lowest t = omega (
    arith,
    tick_shared t,
    level_all ts i lowest (λ j. runs j (run t)),
    backlog_unfinished s i t,
    backlog_unfinished s i (suc t),
    drain_step (load ts d i) t,
    level_add ts i (λ j. done run j t) (λ j. runs j (run t)),
    level_add ts i (λ j. due ts d j t) (λ j. released ts d j t),
  )

module _ {ts : List Task} (ok : Accepted ts) where
  -- "On an accepted sheet each task runs exactly C·H/T of those ticks,
  pub runs_exactly : (i : ℕ) → i < length ts → done (full_budget ts) i (hyperperiod ts) ≡ budget ts i * jobs ts i
  unfolding need
  runs_exactly i l =
      omega (
        arith,
        hyperperiod_done ok i l,
        sum_const (jobs ts i) (budget ts i),
        done_most (full_schedule ts) i (hyperperiod ts),
        due_most ts (full ts) i (ok.proper.period_positive i l) (jobs ts i) (hyperperiod ts) (omega (arith, jobs_whole ok.proper i l)),
      )

  -- and these and the idle ticks add up to H."
  pub idle_adds_up : sum (length ts) (λ i. budget ts i * jobs ts i) + idle_ticks ts ≡ hyperperiod ts
  unfolding idle_ticks
  idle_adds_up = omega (
    arith,
    ticks_add_up (full_schedule ts) (hyperperiod ts),
    sum_eq (length ts) (λ i. done (full_budget ts) i (hyperperiod ts)) (λ i. budget ts i * jobs ts i) runs_exactly,
  )
