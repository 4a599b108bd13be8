-- The laws of a flag: one job takes it, and is released at most T − 1 after the flag is raised, since the job before it had started by then.
use Rattle.std.specs.Prelude.{◌≡◌, refl, List, Bool, leb, length}
use Rattle.std.proofs.Common.{ap, ◌∙◌, le_refl, le_antisymm, mul-le-mul, leb-true, le-leb}
use Prim.Native.Nat.{ℕ, zero, suc, ◌+◌, ◌≤◌, ◌<◌}
use native.Mathlib.Omega.{arith}
use Rattle.arith.specs.Ranges.{sum, least}
use Rattle.arith.specs.RangeLaws.{least_passes, least_first}
use Rattle.theory.specs.declared.Task.{Task}
use Rattle.theory.specs.Model.Schedule.{period, release, rank, Proper, Demands, Within, need, Slot, idle, busy, Run, done, Pending, Schedule, Starts}
use Rattle.theory.specs.Model.Responses.{Accepted}
use Rattle.theory.specs.Model.Flag.{Takes, flag_wait, FlagWithin}
use Rattle.theory.proofs.Analysis.Work.{done_grows, need_step, due_covers, due_most}
use Rattle.theory.proofs.Analysis.Backlog.{done_most}
use Rattle.theory.proofs.Analysis.Finish.{done_starts, start_later, start_unique, start_released}
use Rattle.theory.proofs.Analysis.Repetition.{response_period}
use Rattle.theory.proofs.Analysis.NeverLater.{job_starts, job_finishes, finish_response}

-- One job takes a flag.
pub takes_unique : {d : Demands} {run : Run} {p e j k : ℕ} → Takes d run p e j → Takes d run p e k → j ≡ k
takes_unique {j = j} {k = k} x y =
    le_antisymm (x.first k y.start y.starts y.in_time) (y.first j x.start x.starts x.in_time)

-- A flag that is stamped within some ticks is stamped within more.
pub flag_later : {d : Demands} {run : Run} {p : ℕ} {rest : List ℕ} {e ticks more : ℕ} → ticks ≤ more
    → FlagWithin d run p rest e ticks → FlagWithin d run p rest e more
flag_later l x = record {
  job = x.job;
  takes = x.takes;
  stamp = x.stamp;
  path = x.path;
  in_time = omega (arith, x.in_time);
  arrives = x.arrives;
  read = x.read;
  reads = x.reads;
  since = x.since;
}

module _ {ts : List Task} (good : Proper ts) {d : Demands} {run : Run} (s : Schedule ts d run) (p : ℕ) (known : p < length ts) where
  -- A job that starts before e was released before e,
  pub missed_released : (e k t : ℕ) → Starts d run p k t → t < e → release ts p k < e
  missed_released e k t x l = omega (arith, start_released good s p k known t x)

  -- so the next release is at most e + T − 1;
  pub missed_next : (e k t : ℕ) → Starts d run p k t → t < e → release ts p (suc k) ≤ e + flag_wait ts p
  missed_next e k t x l = omega (arith, missed_released e k t x l, good.period_positive p known)

  -- and the job that takes a flag is the first of all, or next after one that starts before e.
  pub wait_most : Within ts d → (e k : ℕ) → Takes d run p e k → release ts p k ≤ e + flag_wait ts p
  wait_most w e zero x = omega arith
  wait_most w e (suc k) x =
      missed_next e k before.0 before.1 (let no : ¬ (e ≤ before.0) = λ h. omega (arith, x.first k before.0 before.1 h) in omega arith)
    where
      before : (t : ℕ) × Starts d run p k t
      before = done_starts d run p k x.start (w.least_one p k known) (omega (arith, x.starts.done_before))

module _ {ts : List Task} (ok : Accepted ts) {d : Demands} {run : Run} (s : Schedule ts d run) (w : Within ts d) (p : ℕ) (known : p < length ts) where
  start : (k : ℕ) → (t : ℕ) × Starts d run p k t
  start k = job_starts ok s w p k known

  -- Every flag is taken: job e, for one, starts at or after e.
  pub flag_taken : (e : ℕ) → (k : ℕ) × Takes d run p e k
  flag_taken e = (k, record { start = (start k).0; starts = (start k).1; in_time = in_time; first = first })
    where
      test : ℕ → Bool
      test x = leb e (start x).0

      k : ℕ
      k = least (suc e) test

      late : e ≤ (start e).0
      late = omega (arith, start_released ok.proper s p e known (start e).0 (start e).1, mul-le-mul (le_refl e) (ok.proper.period_positive p known))

      in_time : e ≤ (start k).0
      in_time = leb-true e (start k).0 (least_passes (suc e) test (omega (arith, least_first (suc e) test e (le-leb e (start e).0 late))))

      first : (x t : ℕ) → Starts d run p x t → e ≤ t → k ≤ x
      first x t y h = least_first (suc e) test x (le-leb e (start x).0 (omega (arith, start_unique y (start x).1)))

  -- The wait is exact: where a job starts at its release, a flag raised in the next tick is taken by the next job, released T − 1 later.
  pub wait_reached : (k : ℕ) → Starts d run p k (release ts p k)
      → Takes d run p (suc (release ts p k)) (suc k) × (release ts p (suc k) ≡ suc (release ts p k) + flag_wait ts p)
  wait_reached k x = (record { start = (start (suc k)).0; starts = (start (suc k)).1; in_time = in_time; first = first }, omega (arith, positive))
    where
      positive : 0 < period ts p
      positive = ok.proper.period_positive p known

      in_time : suc (release ts p k) ≤ (start (suc k)).0
      in_time = omega (arith, positive, start_released ok.proper s p (suc k) known (start (suc k)).0 (start (suc k)).1)

      first : (j t : ℕ) → Starts d run p j t → suc (release ts p k) ≤ t → suc k ≤ j
      first j t y h = let no : ¬ (j ≤ k) = λ l. omega (arith, start_later l y x) in omega arith

  -- By its release the jobs before a job are finished,
  earlier_finished : (k : ℕ) → need d p k ≤ done run p (release ts p k)
  unfolding need sum
  earlier_finished zero = omega arith
  earlier_finished (suc k) =
      let x = job_finishes ok s w p k known in
      omega (
        arith,
        x.1.done_by,
        done_grows run p x.0 (release ts p (suc k)) (omega (arith, finish_response ok s w p k known x.0 x.1, response_period ok p known k)),
      )

  -- so each job of the greatest-ranked task starts at its release.
  pub greatest_starts : ((j : ℕ) → j < length ts → rank ts j ≤ rank ts p) → (k : ℕ) → Starts d run p k (release ts p k)
  greatest_starts greatest k = record { runs_first = runs (run (release ts p k)) refl; done_before = done_before }
    where
      done_before : done run p (release ts p k) ≡ need d p k
      done_before = omega (
        arith,
        earlier_finished k,
        done_most s p (release ts p k),
        due_most ts d p (ok.proper.period_positive p known) k (release ts p k) (le_refl _),
      )

      pending : Pending ts d run p (release ts p k)
      pending = omega (
        arith,
        done_before,
        need_step d p k,
        w.least_one p k known,
        due_covers ts d p (ok.proper.period_positive p known) k (suc (release ts p k)) (omega arith),
      )

      runs : (x : Slot) → run (release ts p k) ≡ x → run (release ts p k) ≡ busy p
      runs idle e = absurd (s.idle_empty (release ts p k) p e known pending)
      runs (busy i) e =
          let l = s.runs_known (release ts p k) i e in
          let same = le_antisymm (greatest i l) (s.runs_greatest (release ts p k) i p e known pending) in
          e ∙ ap busy (ok.proper.ranks_differ i p l known same)
