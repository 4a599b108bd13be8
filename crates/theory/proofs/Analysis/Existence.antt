-- For every choice of demands there is exactly one schedule: `simulate` is one, and every other equals it.
use Rattle.std.specs.Prelude.{◌≡◌, List, Bool, true, ltb, length}
use Rattle.std.proofs.Math.Path.{refl, ap, ap₂, subst, fun_ext}
use Rattle.std.proofs.Common.{sym, ◌∙◌, arith}
use Rattle.std.proofs.Math.Bool.{false≢true}
use Prim.Native.Nat.{ℕ, zero, suc, ◌+◌, ◌<◌}
use borrow.Author.Tests.{ltb-true, lt-ltb}
use Rattle.theory.specs.declared.Task.{Task}
use Rattle.theory.specs.Model.Schedule.{rank, Proper, Demands, due, Slot, idle, busy, Run, runs, done, Pending, Schedule}
use Rattle.theory.proofs.Analysis.Work.{due_demands}
use Rattle.theory.specs.Model.Responses.{full, full_budget}
use Rattle.theory.specs.Analysis.GreatestLaws.{IsGreatest}
use Rattle.theory.proofs.Analysis.GreatestLaws.{greatest_is}
use Rattle.theory.specs.Model.Simulate.{choice, ticks, simulate}
use Rattle.arith.specs.Ranges.{sum}

module _ (ts : List Task) (d : Demands) where
  ticks_done : (t i : ℕ) → ticks ts d t i ≡ done (simulate ts d) i t
  unfolding ticks simulate done sum
  ticks_done zero i = refl
  ticks_done (suc t) i = ap (λ x. x + runs i (simulate ts d t)) (ticks_done t i)

  ready : ℕ → ℕ → Bool
  ready t i = ltb (ticks ts d t i) (due ts d i (suc t))

  pending_ready : (t i : ℕ) → Pending ts d (simulate ts d) i t → ready t i ≡ true
  unfolding ready
  pending_ready t i p = lt-ltb (ticks ts d t i) (due ts d i (suc t)) (rw (ticks_done t i) p)

  chosen : (t : ℕ) (x : Slot) → simulate ts d t ≡ x → IsGreatest (rank ts) (ready t) (length ts) x
  unfolding simulate choice ready
  chosen t x e = subst (IsGreatest (rank ts) (ready t) (length ts)) e (greatest_is (rank ts) (ready t) (length ts))

  -- A schedule exists.
  pub simulate_schedule : Schedule ts d (simulate ts d)
  unfolding ready
  simulate_schedule = record {
    runs_known = λ t i e. (chosen t (busy i) e).0;
    runs_pending = λ t i e. rw (ticks_done t i) at (ltb-true (ticks ts d t i) (due ts d i (suc t)) (chosen t (busy i) e).1);
    runs_greatest = λ t i j e l p. (chosen t (busy i) e).2 j l (pending_ready t j p);
    idle_empty = λ t j e l p. false≢true (sym (chosen t idle e j l) ∙ pending_ready t j p);
  }

pub full_schedule : (ts : List Task) → Schedule ts (full ts) (full_budget ts)
full_schedule ts = simulate_schedule ts (full ts)

-- Two runs that are schedules for the same demands agree in every tick, as ranks differ.
module _ {ts : List Task} (good : Proper ts) {d : Demands} {run run' : Run} (s : Schedule ts d run) (s' : Schedule ts d run') where
  slot_unique : (t : ℕ) → ((j : ℕ) → done run j t ≡ done run' j t) → (x y : Slot) → run t ≡ x → run' t ≡ y → x ≡ y
  slot_unique t h idle idle p q = refl
  slot_unique t h idle (busy j) p q = absurd (s.idle_empty t j p (s'.runs_known t j q) (rw (h j) (s'.runs_pending t j q)))
  slot_unique t h (busy i) idle p q = absurd (s'.idle_empty t i q (s.runs_known t i p) (rw (h i) at (s.runs_pending t i p)))
  slot_unique t h (busy i) (busy j) p q =
      ap busy (good.ranks_differ i j li lj (omega (
        arith,
        s.runs_greatest t i j p lj (rw (h j) (s'.runs_pending t j q)),
        s'.runs_greatest t j i q li (rw (h i) at (s.runs_pending t i p)),
      )))
    where
      li : i < length ts
      li = s.runs_known t i p

      lj : j < length ts
      lj = s'.runs_known t j q

  pub done_unique : (t j : ℕ) → done run j t ≡ done run' j t
  unfolding done sum
  done_unique zero j = refl
  done_unique (suc t) j = ap₂ (λ x y. x + runs j y) (done_unique t j) (slot_unique t (done_unique t) (run t) (run' t) refl refl)

  pub run_unique : (t : ℕ) → run t ≡ run' t
  run_unique t = slot_unique t (done_unique t) (run t) (run' t) refl refl

-- The schedule is unique: every run that is one is the simulated run.
pub schedule_unique : {ts : List Task} → Proper ts → {d : Demands} {run : Run} → Schedule ts d run → (t : ℕ) → run t ≡ simulate ts d t
schedule_unique {ts} good {d} s = run_unique good s (simulate_schedule ts d)

-- Demands that agree on the tasks of the list have the same schedules.
pub schedule_same : {ts : List Task} {d e : Demands} {run : Run} → ((i k : ℕ) → i < length ts → d i k ≡ e i k)
    → Schedule ts d run → Schedule ts e run
schedule_same {ts} {d} {e} {run} same s = record {
  runs_known = s.runs_known;
  runs_pending = λ t i r. rw (due_same i t (s.runs_known t i r)) at (s.runs_pending t i r);
  runs_greatest = λ t i j r l p. s.runs_greatest t i j r l (rw (due_same j t l) p);
  idle_empty = λ t j r l p. s.idle_empty t j r l (rw (due_same j t l) p);
}
  where
    due_same : (i t : ℕ) → i < length ts → due ts d i (suc t) ≡ due ts e i (suc t)
    due_same i t l = due_demands ts d e i (suc t) (fun_ext (λ k. same i k l))
