-- Laws of `done`, `need` and `due`: how they go on by a tick or a job, and that the work due is that of the jobs released.
-- One tick's share
use Rattle.std.specs.Prelude.{◌≡◌, refl, ◌≢◌, List, Bool, true, false, cond, eqb}
use Rattle.std.proofs.Common.{sym, ◌∙◌, div-add-mod', mod-lt, mod-eq_of_lt, le-div_iff_mul-le, div-lt_iff_lt-mul, eqb-true, eq-eqb, ne_eqb}
use Rattle.std.proofs.Math.Path.{ap}
use Prim.Native.Nat.{ℕ, zero, suc, ◌+◌, ◌*◌, ◌/◌, ◌%◌, ◌≤◌, ◌<◌}
use Rattle.std.proofs.Math.Nat.{mod_self, suc-mod, div-eq_of_lt-le, zero-mod, zero-div}
use native.Mathlib.Omega.{arith}
use Rattle.std.proofs.Math.Decide.{ℕ_discrete}
use Rattle.theory.specs.declared.Task.{Task}
use Rattle.theory.specs.Model.Schedule.{period, release, Demands, need, released, due, Slot, idle, busy, Run, runs, done}
use Rattle.arith.specs.Ranges.{sum}
use Rattle.arith.specs.RangeLaws.{sum_grows}
use Rattle.theory.specs.Analysis.Work.{Passes}

pub runs_self : (i : ℕ) → runs i (busy i) ≡ 1
runs_self i = rw (eq-eqb i i refl)

pub runs_other : {i j : ℕ} → j ≢ i → runs j (busy i) ≡ 0
runs_other {i} {j} h = rw (ne_eqb i j (λ e. h (sym e)))

pub runs_most : (i : ℕ) (s : Slot) → runs i s ≤ 1
runs_most i idle = omega arith
runs_most i (busy j) = go (eqb j i)
  where
    go : (b : Bool) → cond b 1 0 ≤ 1
    go true = omega arith
    go false = omega arith

pub runs_busy : (i : ℕ) (s : Slot) → 0 < runs i s → s ≡ busy i
runs_busy i idle h = absurd (omega arith)
runs_busy i (busy j) h = go (eqb j i) refl h
  where
    go : (b : Bool) → eqb j i ≡ b → 0 < cond b 1 0 → busy j ≡ busy i
    go true e h = ap busy (eqb-true j i e)
    go false e h = absurd (omega arith)

-- Work done

pub done_step : (run : Run) (i t : ℕ) → done run i (suc t) ≡ done run i t + runs i (run t)
unfolding done sum
done_step run i t = refl

pub done_busy : (run : Run) (i t : ℕ) → run t ≡ busy i → done run i (suc t) ≡ suc (done run i t)
done_busy run i t e = omega (arith, done_step run i t, ap (runs i) e, runs_self i)

pub done_grows : (run : Run) (i t u : ℕ) → t ≤ u → done run i t ≤ done run i u
unfolding done
done_grows run i = sum_grows (λ x. runs i (run x))

pub done_passes : (run : Run) (i x f : ℕ) → x < done run i f → Passes run i x f
unfolding done sum
done_passes run i x zero h = absurd (omega arith)
done_passes run i x (suc f) h = go (ℕ_discrete (done run i f) x) (done_passes run i x f)
  where
    go : Dec (done run i f ≡ x) → (x < done run i f → Passes run i x f) → Passes run i x (suc f)
    go (yes e) rec = record { at = f; before = omega arith; runs_then = runs_busy i (run f) (omega arith); counts = e }
    go (no e) rec =
        let p = rec (omega (arith, runs_most i (run f))) in
        record { at = p.at; before = omega (arith, p.before); runs_then = p.runs_then; counts = p.counts }

-- Work needed

pub need_step : (d : Demands) (i k : ℕ) → need d i (suc k) ≡ need d i k + d i k
unfolding need sum
need_step d i k = refl

pub need_grows : (d : Demands) (i k m : ℕ) → k ≤ m → need d i k ≤ need d i m
unfolding need
need_grows d i = sum_grows (d i)

-- Work due

pub due_step : (ts : List Task) (d : Demands) (i t : ℕ) → due ts d i (suc t) ≡ due ts d i t + released ts d i t
unfolding due sum
due_step ts d i t = refl

pub due_demands : (ts : List Task) (d e : Demands) (i t : ℕ) → d i ≡ e i → due ts d i t ≡ due ts e i t
unfolding due released
due_demands ts d e i t same = ap (λ demand. sum t (λ x. cond (eqb (x % period ts i) 0) (demand (x / period ts i)) 0)) same

module _ (ts : List Task) (d : Demands) (i : ℕ) (positive : 0 < period ts i) where
  abbrev T : ℕ
  T = period ts i

  -- What is due after tick t is what the jobs 0 .. t / T need.
  pub due_jobs : (t : ℕ) → due ts d i (suc t) ≡ need d i (suc (t / period ts i))
  unfolding due need released sum
  due_jobs zero = rw (zero-mod T, zero-div T)
  due_jobs (suc t) = go (ℕ_discrete (suc (t % T)) T) (due_jobs t)
    where
      go : Dec (suc (t % T) ≡ T) → due ts d i (suc t) ≡ need d i (suc (t / T)) → due ts d i (suc (suc t)) ≡ need d i (suc (suc t / T))
      go (yes e) h = rw (over, next) (omega (arith, h))
        where
          over : suc t % T ≡ 0
          over = suc-mod t T ∙ ap (λ x. x % T) e ∙ mod_self T

          next : suc t / T ≡ suc (t / T)
          next = div-eq_of_lt-le T (omega (arith, div-add-mod' t T)) (omega (arith, div-add-mod' t T))
      go (no e) h = rw (ne_eqb (suc t % T) 0 within, same) (omega (arith, h))
        where
          within : suc t % T ≢ 0
          within z = omega (arith, mod-eq_of_lt {n = suc (t % T)} {m = T} (omega (arith, mod-lt t positive)), suc-mod t T)

          same : suc t / T ≡ t / T
          same = div-eq_of_lt-le T (omega (arith, div-add-mod' t T)) (omega (arith, div-add-mod' t T, mod-lt t positive))

  -- A job that is released before t is due by t.
  pub due_covers : (k t : ℕ) → release ts i k < t → need d i (suc k) ≤ due ts d i t
  due_covers k zero l = omega arith
  due_covers k (suc t) l = rw (due_jobs t) (need_grows d i (suc k) (suc (t / T)) (omega (arith, (le-div_iff_mul-le positive).1 upto)))
    where
      upto : k * T ≤ t
      upto = omega arith

  -- Up to the release of job k no more is due than the jobs before it need.
  pub due_most : (k t : ℕ) → t ≤ release ts i k → due ts d i t ≤ need d i k
  unfolding due sum
  due_most k zero l = omega arith
  due_most k (suc t) l = rw (due_jobs t) (need_grows d i (suc (t / T)) k ((div-lt_iff_lt-mul positive).1 l))
