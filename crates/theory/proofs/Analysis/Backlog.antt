-- The level backlog: the unfinished work of a task and of those that outrank it obeys a recursion that forgets who runs.
use Rattle.std.specs.Prelude.{◌≡◌, refl, ◌⊎◌, List, eqb, length}
use Rattle.std.proofs.Common.{ap, ◌∙◌, inl, inr, add-zero, arith}
use Prim.Native.Nat.{ℕ, zero, suc, ◌+◌, ◌-◌, ◌/◌, ◌%◌, ◌≤◌, ◌<◌}
use Rattle.std.proofs.Math.Nat.{le_refl}
use Rattle.std.proofs.Math.Decide.{dec_le, dec_lt}
use Rattle.theory.specs.declared.Task.{Task}
use Rattle.theory.specs.Model.Schedule.{period, rank, Demands, released, due, Slot, idle, busy, Run, runs, done, Pending, Schedule}
use Rattle.arith.specs.Ranges.{sum}
use Rattle.theory.proofs.Analysis.Level.{cond_le, level_zero, level_add, level_le, level_tight, level_runs_lem}
use Rattle.theory.proofs.Analysis.Work.{runs_most, runs_busy, done_step, due_step}
use Rattle.theory.specs.Analysis.Backlog.{load, drain, backlog, level_done, level_due, level_runs}

pub drain_step : (a : ℕ → ℕ) (t : ℕ) → drain a (suc t) ≡ (drain a t + a t) - 1
unfolding drain
drain_step a t = refl

-- Over ticks in which nothing comes in, one unit leaves at each while there is any.
pub drain_stretch : (a : ℕ → ℕ) (t n : ℕ) → ((x : ℕ) → t < x → x ≤ t + n → a x ≡ 0) → drain a (suc (t + n)) ≡ (drain a t + a t) - suc n
drain_stretch a t zero quiet = ap (λ x. drain a (suc x)) (add-zero t) ∙ drain_step a t
drain_stretch a t (suc n) quiet = ap (λ x. drain a (suc x)) next ∙ drain_step a (suc (t + n))
    ∙ omega (arith, drain_stretch a t n (λ x l m. quiet x l (omega arith)), quiet (suc (t + n)) (omega arith) (omega arith))
  where
    next : t + suc n ≡ suc (t + n)
    next = omega arith

-- The recursion of the backlog: nothing at 0, and in each tick what is released comes in and one unit is done.
pub backlog_start : (ts : List Task) (d : Demands) (i : ℕ) → backlog ts d i 0 ≡ 0
unfolding drain
backlog_start ts d i = refl

pub backlog_step : (ts : List Task) (d : Demands) (i t : ℕ) → backlog ts d i (suc t) ≡ (backlog ts d i t + load ts d i t) - 1
backlog_step ts d i t = drain_step (load ts d i) t

module _ {ts : List Task} {d : Demands} {run : Run} (s : Schedule ts d run) where
  -- Never ahead: no task has done more than is due.
  pub done_most : (i t : ℕ) → done run i t ≤ due ts d i t
  unfolding done due sum
  done_most i zero = le_refl _
  done_most i (suc t) = go (dec_lt 0 (runs i (run t))) (done_most i t)
    where
      go : Dec (0 < runs i (run t)) → done run i t ≤ due ts d i t → done run i (suc t) ≤ due ts d i (suc t)
      go (yes h) rec = omega (arith, s.runs_pending t i (runs_busy i (run t) h), runs_most i (run t), done_step run i t)
      go (no h) rec = omega (arith, done_step run i t, due_step ts d i t)

  -- In each tick the level runs once, or all that is due of it is done.
  level_works : (i t : ℕ) → (level_runs ts i (run t) ≡ 1) ⊎ (level_due ts d i (suc t) ≤ level_done ts run i t)
  level_works i t = go (run t) refl
    where
      idles : ((j : ℕ) → j < length ts → rank ts i ≤ rank ts j → ¬ (Pending ts d run j t)) → level_due ts d i (suc t) ≤ level_done ts run i t
      idles none = level_le ts i _ _ (λ j l r. omega (arith, none j l r))

      go : (x : Slot) → run t ≡ x → (level_runs ts i (run t) ≡ 1) ⊎ (level_due ts d i (suc t) ≤ level_done ts run i t)
      go idle e = inr (idles (λ j l r. s.idle_empty t j e l))
      go (busy k) e = pick (dec_le (rank ts i) (rank ts k))
        where
          pick : Dec (rank ts i ≤ rank ts k) → (level_runs ts i (run t) ≡ 1) ⊎ (level_due ts d i (suc t) ≤ level_done ts run i t)
          pick (yes r) = inl (ap (level_runs ts i) e ∙ level_runs_lem ts i k (s.runs_known t k e) r)
          pick (no r) = inr (idles (λ j l q p. omega (arith, s.runs_greatest t k j e l p)))

  -- The backlog is the work of the level that is due and not done.
  pub backlog_unfinished : (i t : ℕ) → backlog ts d i t + level_done ts run i t ≡ level_due ts d i t
  unfolding drain load done due sum
  backlog_unfinished i zero = omega (arith, level_zero ts i)
  backlog_unfinished i (suc t) = go (level_works i t) (backlog_unfinished i t)
    where
      ahead : level_done ts run i (suc t) ≤ level_due ts d i (suc t)
      ahead = level_le ts i _ _ (λ j l r. done_most j (suc t))

      more_done : level_done ts run i (suc t) ≡ level_done ts run i t + level_runs ts i (run t)
      more_done = level_add ts i _ _

      more_due : level_due ts d i (suc t) ≡ level_due ts d i t + load ts d i t
      more_due = level_add ts i _ _

      go : (level_runs ts i (run t) ≡ 1) ⊎ (level_due ts d i (suc t) ≤ level_done ts run i t)
          → backlog ts d i t + level_done ts run i t ≡ level_due ts d i t
          → backlog ts d i (suc t) + level_done ts run i (suc t) ≡ level_due ts d i (suc t)
      go (inl e) h = omega (arith, ahead, more_done, more_due)
      go (inr e) h = omega (arith, ahead, more_done, more_due)

  -- Where the backlog of a level is 0, each of its tasks has done all that is due,
  pub backlog_empty : (i j t : ℕ) → backlog ts d i t ≡ 0 → j < length ts → rank ts i ≤ rank ts j → done run j t ≡ due ts d j t
  backlog_empty i j t z = level_tight ts i _ _ (λ j m. done_most j t) (omega (arith, backlog_unfinished i t)) j

  -- and where each of them has, it is 0.
  pub empty_backlog : (i t : ℕ) → ((j : ℕ) → j < length ts → rank ts i ≤ rank ts j → due ts d j t ≤ done run j t) → backlog ts d i t ≡ 0
  empty_backlog i t h = omega (arith, backlog_unfinished i t, level_le ts i (λ j. due ts d j t) (λ j. done run j t) h)

-- The backlog grows with the demands.
module _ (ts : List Task) (d e : Demands) (more : (j k : ℕ) → j < length ts → d j k ≤ e j k) where
  load_mono : (i t : ℕ) → load ts d i t ≤ load ts e i t
  unfolding load released
  load_mono i t = level_le ts i _ _ (λ j l r. cond_le (eqb (t % period ts j) 0) (λ q. more j (t / period ts j) l))

  pub backlog_mono : (i t : ℕ) → backlog ts d i t ≤ backlog ts e i t
  unfolding drain
  backlog_mono i zero = le_refl _
  backlog_mono i (suc t) = omega (arith, backlog_mono i t, load_mono i t)
