-- Laws of the hyperperiod: the least common multiple of the periods, and a whole number of jobs of each task.
use Rattle.std.specs.Prelude.{◌≡◌, List, [], ◌∷◌, ℕ, zero, suc, ◌*◌, ◌/◌, ◌<◌, length}
use Rattle.std.proofs.Common.{ap, mul-le-mul_right, lt_of_not-le, pos_of_ne-zero, arith}
use Rattle.std.specs.Int.{◌∣◌}
use Rattle.std.proofs.Math.Nat.{dvd_trans, one-dvd, div-mul_cancel}
use Rattle.arith.specs.WholeLaws.{lcm_divides_left, lcm_divides_right, lcm_least, lcm_pos}
use Rattle.theory.specs.declared.Task.{Task}
use Rattle.theory.specs.Model.Schedule.{period, release, Proper}
use Rattle.theory.specs.Model.Responses.{hyperperiod, jobs}
use Rattle.theory.specs.Analysis.Hyperperiod.{Cycle}

pub hyperperiod_multiple : (ts : List Task) (i : ℕ) → i < length ts → period ts i ∣ hyperperiod ts
unfolding hyperperiod
hyperperiod_multiple [] i l = absurd (omega arith)
hyperperiod_multiple (x ∷ ts) zero l = lcm_divides_left x.period (hyperperiod ts)
hyperperiod_multiple (x ∷ ts) (suc i) l =
    dvd_trans (period ts i) (hyperperiod_multiple ts i (omega arith)) (lcm_divides_right x.period (hyperperiod ts))

pub hyperperiod_least : (ts : List Task) (m : ℕ) → ((i : ℕ) → i < length ts → period ts i ∣ m) → hyperperiod ts ∣ m
unfolding hyperperiod
hyperperiod_least [] m h = one-dvd m
hyperperiod_least (x ∷ ts) m h =
    lcm_least x.period (hyperperiod ts) (h 0 (omega arith)) (hyperperiod_least ts m (λ i l. h (suc i) (omega arith)))

pub hyperperiod_positive : (ts : List Task) → ((i : ℕ) → i < length ts → 0 < period ts i) → 0 < hyperperiod ts
unfolding hyperperiod
hyperperiod_positive [] h = omega arith
hyperperiod_positive (x ∷ ts) h =
    lcm_pos x.period (hyperperiod ts) (h 0 (omega arith)) (hyperperiod_positive ts (λ i l. h (suc i) (omega arith)))

module _ {n H : ℕ} {T : ℕ → ℕ} (cycle : Cycle n H T) (i : ℕ) (known : i < n) where
  pub cycle_jobs : 0 < H / T i
  cycle_jobs = pos_of_ne-zero (λ e. omega (arith, cycle.some, cycle.whole i known, ap (λ x. x * T i) e))

  -- Job k is released before H exactly when it is one of the first H/T.
  pub cycle_before : (k : ℕ) → k < H / T i → k * T i < H
  cycle_before k l = omega (arith, cycle.whole i known, mul-le-mul_right {m = suc k} {n = H / T i} (T i) l, cycle.positive i known)

  pub before_cycle : (k : ℕ) → k * T i < H → k < H / T i
  before_cycle k l = lt_of_not-le (λ h. omega (arith, cycle.whole i known, mul-le-mul_right {m = H / T i} {n = k} (T i) h))

module _ {ts : List Task} (good : Proper ts) where
  -- The hyperperiod is a cycle of a sheet's tasks.
  pub hyperperiod_cycle : Cycle (length ts) (hyperperiod ts) (period ts)
  hyperperiod_cycle = record {
    some = hyperperiod_positive ts good.period_positive;
    positive = good.period_positive;
    whole = λ i l. div-mul_cancel (period ts i) (hyperperiod_multiple ts i l);
  }

  module _ (i : ℕ) (known : i < length ts) where
    pub jobs_whole : jobs ts i * period ts i ≡ hyperperiod ts
    jobs_whole = hyperperiod_cycle.whole i known

    pub jobs_positive : 0 < jobs ts i
    jobs_positive = cycle_jobs hyperperiod_cycle i known

    pub jobs_released : (k : ℕ) → k < jobs ts i → release ts i k < hyperperiod ts
    jobs_released = cycle_before hyperperiod_cycle i known

    pub released_jobs : (k : ℕ) → release ts i k < hyperperiod ts → k < jobs ts i
    released_jobs = before_cycle hyperperiod_cycle i known
