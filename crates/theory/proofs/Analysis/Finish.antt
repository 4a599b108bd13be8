-- In every schedule a job that is on time finishes at the first zero of its level's backlog after its release.
use Rattle.std.specs.Prelude.{◌≡◌, refl, List, ℕ, suc, ◌-◌, ◌≤◌, ◌<◌, length}
use Rattle.std.proofs.Common.{ap, subst, le_refl, le_antisymm, arith}
use Rattle.std.proofs.Math.Decide.{ℕ_discrete}
use Rattle.theory.specs.declared.Task.{Task}
use Rattle.theory.specs.Model.Schedule.{release, rank, Proper, Demands, need, due, Run, done, Pending, Schedule, Starts, Finishes}
use Rattle.theory.proofs.Analysis.Work.{done_busy, done_grows, done_passes, need_step, need_grows, due_covers, due_most}
use Rattle.theory.specs.Analysis.Backlog.{backlog}
use Rattle.theory.proofs.Analysis.Backlog.{backlog_empty, empty_backlog}
use Rattle.theory.specs.Analysis.Finish.{FirstZero}

pub first_zero_unique : {f : ℕ → ℕ} {r y z : ℕ} → FirstZero f r y → FirstZero f r z → y ≡ z
first_zero_unique {y = y} {z = z} p q = le_antisymm (p.first z q.after q.is_zero) (q.first y p.after p.is_zero)

-- A job whose work is done has started and finished

module _ (d : Demands) (run : Run) (i k f : ℕ) (some : 1 ≤ d i k) (worked : need d i (suc k) ≤ done run i f) where
  pub done_starts : (t : ℕ) × Starts d run i k t
  done_starts =
      let x = done_passes run i (need d i k) f (omega (arith, need_step d i k)) in
      (x.at, record { runs_first = x.runs_then; done_before = x.counts })

  pub done_finishes : (g : ℕ) × (g ≤ f) × Finishes d run i k g
  done_finishes =
      let x = done_passes run i (need d i (suc k) - 1) f (omega (arith, need_step d i k)) in
      let upto : done run i (suc x.at) ≡ need d i (suc k) = omega (arith, done_busy run i x.at x.runs_then, x.counts, need_step d i k) in
      (suc x.at, x.before, record { last = x.at; is_next = refl; runs_last = x.runs_then; done_by = upto })

-- A later job starts no sooner

pub start_later : {d : Demands} {run : Run} {i k m t u : ℕ} → k ≤ m → Starts d run i k t → Starts d run i m u → t ≤ u
start_later {d} {run} {i} {k} {m} {t} {u} l p q = let no : ¬ (u < t) = sooner in omega arith
  where
    sooner : ¬ (u < t)
    sooner h = omega (
      arith,
      p.done_before,
      q.done_before,
      need_grows d i k m l,
      done_busy run i u q.runs_first,
      done_grows run i (suc u) t h,
    )

-- A job starts once, and finishes once

module _ {d : Demands} {run : Run} {i k : ℕ} where
  pub start_unique : {t u : ℕ} → Starts d run i k t → Starts d run i k u → t ≡ u
  start_unique p q = le_antisymm (start_later (le_refl _) p q) (start_later (le_refl _) q p)

  finish_last : {f : ℕ} (fin : Finishes d run i k f) → suc (done run i fin.last) ≡ need d i (suc k)
  finish_last fin = omega (arith, fin.done_by, ap (done run i) fin.is_next, done_busy run i fin.last fin.runs_last)

  -- Before it finishes its work is not done.
  pub finish_before : {f : ℕ} → Finishes d run i k f → (x : ℕ) → x < f → done run i x < need d i (suc k)
  finish_before fin x l = omega (arith, finish_last fin, done_grows run i x fin.last (omega (arith, fin.is_next)))

  pub finish_least : {f : ℕ} → Finishes d run i k f → (x : ℕ) → need d i (suc k) ≤ done run i x → f ≤ x
  finish_least {f} fin x h = let no : ¬ (x < f) = λ l. omega (arith, finish_before fin x l) in omega arith

  pub finish_unique : {f g : ℕ} → Finishes d run i k f → Finishes d run i k g → f ≡ g
  finish_unique {f} {g} p q = le_antisymm (finish_least p g (omega (arith, q.done_by))) (finish_least q f (omega (arith, p.done_by)))

-- A later job finishes no sooner,
pub finish_later : {d : Demands} {run : Run} {i k m f g : ℕ} → k ≤ m → Finishes d run i k f → Finishes d run i m g → f ≤ g
finish_later {d} {run} {i} {k} {m} {f} {g} l x y =
    finish_least x g (omega (arith, y.done_by, need_grows d i (suc k) (suc m) (omega arith)))

-- and what finishes no sooner is no earlier job.
pub finish_order : {d : Demands} {run : Run} {i k m f g : ℕ} → 1 ≤ d i k → Finishes d run i k f → Finishes d run i m g → f ≤ g → k ≤ m
finish_order {d} {run} {i} {k} {m} {f} {g} some x y l = let no : ¬ (m < k) = earlier in omega arith
  where
    earlier : ¬ (m < k)
    earlier h = omega (arith, x.done_by, y.done_by, done_grows run i f g l, need_step d i k, need_grows d i (suc m) k h)

module _ {ts : List Task} (good : Proper ts) {d : Demands} {run : Run} (s : Schedule ts d run) (i k : ℕ) (known : i < length ts) where
  -- A job starts at or after its release, and finishes after it.
  pub start_released : (t : ℕ) → Starts d run i k t → release ts i k ≤ t
  start_released t x = let no : ¬ (t < release ts i k) = early in omega arith
    where
      early : ¬ (t < release ts i k)
      early l =
          omega (arith, x.done_before, s.runs_pending t i x.runs_first, due_most ts d i (good.period_positive i known) k (suc t) l)

  pub finish_released : (f : ℕ) → 1 ≤ d i k → Finishes d run i k f → release ts i k < f
  finish_released f some x = let no : ¬ (f ≤ release ts i k) = early in omega arith
    where
      early : ¬ (f ≤ release ts i k)
      early l = omega (
        arith,
        finish_last x,
        need_step d i k,
        s.runs_pending x.last i x.runs_last,
        due_most ts d i (good.period_positive i known) k (suc x.last) (omega (arith, x.is_next)),
      )

  -- A released job is done wherever the backlog of its level is 0.
  pub zero_done : (z : ℕ) → release ts i k < z → backlog ts d i z ≡ 0 → need d i (suc k) ≤ done run i z
  zero_done z l e = omega (arith, backlog_empty s i i z e known (le_refl _), due_covers ts d i (good.period_positive i known) k z l)

  -- Where a job finishes by its task's next release, that backlog is 0: in its last tick nothing above it was pending.
  finish_zero : (f : ℕ) → f ≤ release ts i (suc k) → Finishes d run i k f → backlog ts d i f ≡ 0
  finish_zero f l x = empty_backlog s i f (λ j m r. go j m r (ℕ_discrete i j))
    where
      t : ℕ
      t = x.last

      go : (j : ℕ) → j < length ts → rank ts i ≤ rank ts j → Dec (i ≡ j) → due ts d j f ≤ done run j f
      go j m r (yes e) =
          subst (λ y. due ts d y f ≤ done run y f) e (omega (arith, x.done_by, due_most ts d i (good.period_positive i known) (suc k) f l))
      go j m r (no e) = rw x.is_next (omega (arith, over, done_grows run j t (suc t) (omega arith)))
        where
          over : ¬ (Pending ts d run j t)
          over p = e (good.ranks_differ i j known m (omega (arith, s.runs_greatest t i j x.runs_last m p)))

  -- A job that finishes by its task's next release finishes at the first zero of the backlog after its release.
  pub finish_first_zero : (f : ℕ) → 1 ≤ d i k → f ≤ release ts i (suc k) → Finishes d run i k f
      → FirstZero (backlog ts d i) (release ts i k) f
  finish_first_zero f some l x =
      record { after = finish_released f some x; is_zero = finish_zero f l x; first = λ z m e. finish_least x z (zero_done z m e) }

  -- There is such a zero where its work is done by the next release,
  pub on_time_zero : 1 ≤ d i k → need d i (suc k) ≤ done run i (release ts i (suc k))
      → (z : ℕ) × (z ≤ release ts i (suc k)) × FirstZero (backlog ts d i) (release ts i k) z
  on_time_zero some h =
      let g = done_finishes d run i k (release ts i (suc k)) some h in (g.0, g.1, finish_first_zero g.0 some g.1 g.2)

  -- and it finishes there.
  pub first_zero_finish : (z : ℕ) → 1 ≤ d i k → z ≤ release ts i (suc k) → FirstZero (backlog ts d i) (release ts i k) z
      → Finishes d run i k z
  first_zero_finish z some l x =
      let g = done_finishes d run i k z some (zero_done z x.after x.is_zero) in
      subst (Finishes d run i k) (first_zero_unique (finish_first_zero g.0 some (omega (arith, g.1)) g.2) x) g.2
