-- A response is evaluated by its backlog: the ticks from the release until the backlog of the level is 0.
use Rattle.std.specs.Prelude.{◌≡◌, refl, List, length}
use Rattle.std.proofs.Math.Path.{ap}
use Rattle.std.proofs.Common.{◌∙◌, lt_of_not-le}
use Prim.Native.Nat.{ℕ, zero, suc, ◌+◌, ◌-◌, ◌≤◌, ◌<◌}
use native.Mathlib.Omega.{arith}
use Rattle.std.proofs.Math.Decide.{dec_lt}
use Rattle.theory.specs.declared.Task.{Task}
use Rattle.theory.specs.Model.Schedule.{period, release, Proper, need, done}
use Rattle.theory.specs.Model.Responses.{full, full_budget, response, Late}
use Rattle.theory.specs.Analysis.Backlog.{load, drain}
use Rattle.theory.proofs.Analysis.Backlog.{drain_step}
use Rattle.theory.specs.Analysis.Finish.{FirstZero}
use Rattle.theory.proofs.Analysis.ResponseLaws.{late_response, zero_on_time, response_first_zero, response_most}
use Rattle.theory.specs.Analysis.Clearing.{until, clearing}

-- The count stops at the first zero, if it comes within n

module _ (a : ℕ → ℕ) where
  until_within : (n b t : ℕ) → until a n b t ≤ n
  unfolding until
  until_within zero b t = omega arith
  until_within (suc n) zero t = omega arith
  until_within (suc n) (suc b) t = omega (arith, until_within n (b + a t) (suc t))

  until_zero : (n b t : ℕ) → drain a t ≡ b → until a n b t < n → drain a (t + until a n b t) ≡ 0
  unfolding until
  until_zero zero b t e l = absurd (omega arith)
  until_zero (suc n) zero t e l = ap (drain a) (omega arith) ∙ e
  until_zero (suc n) (suc b) t e l =
      ap (drain a) (omega arith) ∙ until_zero n (b + a t) (suc t) (omega (arith, drain_step a t)) (omega arith)

  until_first : (n b t m : ℕ) → drain a t ≡ b → drain a (t + m) ≡ 0 → until a n b t ≤ m
  unfolding until
  until_first zero b t m e z = omega arith
  until_first (suc n) zero t m e z = omega arith
  until_first (suc n) (suc b) t zero e z = absurd (omega (arith, ap (drain a) here))
    where
      here : t + 0 ≡ t
      here = omega arith
  until_first (suc n) (suc b) t (suc m) e z =
      omega (arith, until_first n (b + a t) (suc t) m (omega (arith, drain_step a t)) (ap (drain a) next ∙ z))
    where
      next : suc t + m ≡ t + suc m
      next = omega arith

-- A response is evaluated by its backlog.
pub response_clearing : {ts : List Task} → Proper ts → (i k : ℕ) → i < length ts → response ts i k ≡ clearing ts i k
unfolding clearing
response_clearing {ts} good i k known = go (dec_lt (done (full_budget ts) i (release ts i (suc k))) (need (full ts) i (suc k)))
  where
    a : ℕ → ℕ
    a = load ts (full ts) i

    r : ℕ
    r = release ts i k

    w : ℕ
    w = until a (period ts i) (drain a (suc r)) (suc r)

    zero_there : w < period ts i → drain a (suc r + w) ≡ 0
    zero_there = until_zero a (period ts i) (drain a (suc r)) (suc r) refl

    go : Dec (Late ts i k) → response ts i k ≡ suc w
    go (yes late) =
        let no : ¬ (w < period ts i) = λ l. zero_on_time good i k known (suc r + w) (omega arith) (omega arith) (zero_there l) late in
        omega (arith, late_response ts i k late, until_within a (period ts i) (drain a (suc r)) (suc r))
    go (no on_time) =
        omega (arith, early, x.first (suc r + w) (omega arith) (zero_there (omega (arith, early, response_most good i k known on_time))))
      where
        x : FirstZero (drain a) r (r + response ts i k)
        x = response_first_zero good i k known on_time

        same : suc r + (response ts i k - 1) ≡ r + response ts i k
        same = omega (arith, x.after)

        early : suc w ≤ response ts i k
        early =
            omega (arith, until_first a (period ts i) (drain a (suc r)) (suc r) (response ts i k - 1) refl (ap (drain a) same ∙ x.is_zero), x.after)

-- A job is late exactly where that takes longer than the period.
module _ {ts : List Task} (good : Proper ts) (i k : ℕ) (known : i < length ts) where
  pub clearing_late : period ts i < clearing ts i k → Late ts i k
  clearing_late l = lt_of_not-le (λ h. omega (arith, response_most good i k known (λ late. omega arith), response_clearing good i k known))

  pub late_clearing : Late ts i k → period ts i < clearing ts i k
  late_clearing late = omega (arith, late_response ts i k late, response_clearing good i k known)
