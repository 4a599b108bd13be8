-- The least fixed point: a search that climbs finds it, and where it does not pass the period the level's backlog, each job at its cost,
-- is empty within that time of every tick.
-- The quotient
use Rattle.std.specs.Prelude.{◌≡◌, List, Bool, eqb, length}
use Rattle.std.proofs.Common.{sym, ◌∙◌, subst, le_refl, le_trans, le_antisymm, add-zero, mul_comm, div-lt_iff_lt-mul, mul-le-mul_left, mul-le-mul_right, pos_of_ne-zero}
use Rattle.std.proofs.Math.Path.{ap, ap₂}
use Rattle.std.proofs.Math.Bool.{cond}
use Prim.Native.Nat.{ℕ, zero, suc, ◌+◌, ◌-◌, ◌*◌, ◌/◌, ◌≤◌, ◌<◌}
use Rattle.std.proofs.Math.Nat.{add-div_right, div-eq_of_lt}
use native.Mathlib.Omega.{arith}
use Rattle.std.proofs.Math.Decide.{ℕ_discrete, dec_lt}
use borrow.Author.Tests.{eqb-true, eq-eqb}
use Rattle.arith.specs.Whole.{up}
use Rattle.arith.specs.WholeLaws.{up_above, up_near}
use Rattle.arith.specs.Ranges.{sum, least}
use Rattle.arith.specs.RangeLaws.{sum_le, sum_eq, sum_const, least_within, least_passes, least_first}
use Rattle.theory.specs.declared.Task.{Task}
use Rattle.theory.specs.Model.Schedule.{period, rank, Proper, need, due}
use Rattle.theory.specs.Model.Chain.{outranks}
use Rattle.theory.specs.Model.Recurrence.{Costs, quotient, claim, fixed_point}
use Rattle.theory.proofs.Analysis.Work.{due_jobs}
use Rattle.theory.proofs.Analysis.Level.{cond_le, level_zero, level_add, level_le, level_own}
use Rattle.theory.specs.Analysis.Backlog.{load, backlog, level_due}
use Rattle.theory.proofs.Analysis.Backlog.{backlog_start, backlog_step}
use Rattle.theory.specs.Analysis.RecurrenceLaws.{at_cost}

module _ (T : ℕ) (positive : 0 < T) where
  quotient_zero : quotient 0 T ≡ 0
  unfolding quotient
  quotient_zero = div-eq_of_lt {n = 0 + (T - 1)} {m = T} (omega arith)

  quotient_suc : (x : ℕ) → quotient (suc x) T ≡ suc (x / T)
  unfolding quotient
  quotient_suc x = ap (λ y. y / T) same ∙ add-div_right x positive ∙ omega arith
    where
      same : suc x + (T - 1) ≡ x + T
      same = omega arith

  -- So many periods are at least x,
  quotient_above : (x : ℕ) → x ≤ quotient x T * T
  unfolding quotient up
  quotient_above x = up_above T x positive

  -- one fewer are not,
  quotient_near : (x : ℕ) → quotient x T * T < x + T
  unfolding quotient up
  quotient_near x = up_near T x positive

  -- and no smaller number of them is.
  quotient_least : (x q : ℕ) → x ≤ q * T → quotient x T ≤ q
  unfolding quotient
  quotient_least x q h = omega (arith, (div-lt_iff_lt-mul {x = x + (T - 1)} {y = suc q} positive).1 (omega arith))

  quotient_mono : (x y : ℕ) → x ≤ y → quotient x T ≤ quotient y T
  quotient_mono x y h = quotient_least x (quotient y T) (le_trans h (quotient_above y))

  quotient_split : (x y : ℕ) → quotient (x + y) T ≤ quotient x T + quotient y T
  quotient_split x y = quotient_least (x + y) (quotient x T + quotient y T) (omega (arith, quotient_above x, quotient_above y))

  -- A cost that is at most the period, times the quotient, is less than the candidate and the period.
  pub share_most : (cost x : ℕ) → cost ≤ T → cost * quotient x T < x + T
  share_most cost x l = omega (arith, mul-le-mul_right {m = cost} {n = T} (quotient x T) l, mul_comm T (quotient x T), quotient_near x)

-- The claim and its least fixed point

module _ (ts : List Task) (cost : Costs) (i : ℕ) where
  -- No claim is below the own cost,
  pub claim_own : (x : ℕ) → cost i ≤ claim ts cost i x
  unfolding claim
  claim_own x = omega arith

  -- and none falls.
  pub claim_mono : Proper ts → (x y : ℕ) → x ≤ y → claim ts cost i x ≤ claim ts cost i y
  unfolding claim
  claim_mono good x y h = omega (arith, sum_le (length ts) (share x) (share y) (λ j l. cond_le (outranks ts j i) (λ e. more j l)))
    where
      share : ℕ → ℕ → ℕ
      share x j = cond (outranks ts j i) (cost j * quotient x (period ts j)) 0

      more : (j : ℕ) → j < length ts → cost j * quotient x (period ts j) ≤ cost j * quotient y (period ts j)
      more j l = mul-le-mul_left (cost j) (quotient_mono (period ts j) (good.period_positive j l) x y h)

  fixed : ℕ → Bool
  fixed x = eqb (claim ts cost i x) x

  pub fixed_point_most : fixed_point ts cost i ≤ suc (period ts i)
  unfolding fixed_point fixed
  fixed_point_most = least_within (suc (period ts i)) fixed

  -- The value is its own claim where it does not pass the period,
  pub fixed_point_fixed : fixed_point ts cost i ≤ period ts i → claim ts cost i (fixed_point ts cost i) ≡ fixed_point ts cost i
  unfolding fixed_point fixed
  fixed_point_fixed l = eqb-true _ _ (least_passes (suc (period ts i)) fixed (omega arith))

  -- so it is no less than the own cost,
  pub fixed_point_own : fixed_point ts cost i ≤ period ts i → cost i ≤ fixed_point ts cost i
  fixed_point_own l = omega (arith, fixed_point_fixed l, claim_own (fixed_point ts cost i))

  -- and none below it is its own claim.
  pub fixed_point_least : (x : ℕ) → claim ts cost i x ≡ x → fixed_point ts cost i ≤ x
  unfolding fixed_point fixed
  fixed_point_least x e = least_first (suc (period ts i)) fixed x (eq-eqb (claim ts cost i x) x e)

  -- A search for it has come to x: the claim is no less, and no fixed point was passed on the way.
  pub record Climbs (x : ℕ) : Type 0 where
    pub rises : x ≤ claim ts cost i x
    pub unpassed : (y : ℕ) → claim ts cost i y ≡ y → x ≤ y

-- It begins at the own cost,
pub climb_start : (ts : List Task) (cost : Costs) (i : ℕ) → Climbs ts cost i (cost i)
climb_start ts cost i = record { rises = claim_own ts cost i (cost i); unpassed = λ y e. omega (arith, claim_own ts cost i y) }

module _ {ts : List Task} {cost : Costs} {i x : ℕ} (at : Climbs ts cost i x) where
  -- goes on to the claim,
  pub climb_step : Proper ts → Climbs ts cost i (claim ts cost i x)
  climb_step good = record {
    rises = claim_mono ts cost i good x (claim ts cost i x) at.rises;
    unpassed = λ y e. omega (arith, claim_mono ts cost i good x y (at.unpassed y e));
  }

  -- and stops at the first that repeats,
  pub climb_fixed : x ≤ period ts i → claim ts cost i x ≡ x → x ≡ fixed_point ts cost i
  climb_fixed l e =
      let early = fixed_point_least ts cost i x e in
      le_antisymm (at.unpassed (fixed_point ts cost i) (fixed_point_fixed ts cost i (le_trans early l))) early

  -- or once it passes the period.
  pub climb_over : period ts i < x → suc (period ts i) ≡ fixed_point ts cost i
  climb_over l = let no : ¬ (fixed_point ts cost i ≤ period ts i) = inside in omega (arith, fixed_point_most ts cost i)
    where
      inside : ¬ (fixed_point ts cost i ≤ period ts i)
      inside h = omega (arith, at.unpassed (fixed_point ts cost i) (fixed_point_fixed ts cost i h))

-- What is due where each job needs its task's cost

-- Before tick x as many jobs are released as x holds periods, rounded up.
due_cost : (ts : List Task) (cost : Costs) (j x : ℕ) → 0 < period ts j → due ts (at_cost cost) j x ≡ cost j * quotient x (period ts j)
unfolding due need sum
due_cost ts cost j zero positive = rw (quotient_zero (period ts j) positive) (omega arith)
due_cost ts cost j (suc x) positive =
    due_jobs ts (at_cost cost) j positive x ∙ sum_const (suc (x / period ts j)) (cost j) ∙ mul_comm (suc (x / period ts j)) (cost j)
    ∙ ap (λ q. cost j * q) (sym (quotient_suc (period ts j) positive x))

module _ {ts : List Task} (good : Proper ts) (cost : Costs) (i : ℕ) (known : i < length ts) where
  abbrev dues : ℕ → ℕ
  dues = level_due ts (at_cost cost) i

  abbrev left : ℕ → ℕ
  left = backlog ts (at_cost cost) i

  pub dues_start : dues 0 ≡ 0
  unfolding due sum
  dues_start = level_zero ts i

  pub dues_step : (t : ℕ) → dues (suc t) ≡ dues t + load ts (at_cost cost) i t
  unfolding load due sum
  dues_step t = level_add ts i _ _

  -- No stretch of ticks has more releases than the one from 0 on.
  dues_window : (t n : ℕ) → dues (t + n) ≤ dues t + dues n
  dues_window t n = omega (arith, level_le ts i _ (λ j. owed t j + owed n j) each, level_add ts i (owed t) (owed n))
    where
      owed : ℕ → ℕ → ℕ
      owed x j = due ts (at_cost cost) j x

      each : (j : ℕ) → j < length ts → rank ts i ≤ rank ts j → owed (t + n) j ≤ owed t j + owed n j
      each j l r = omega (
        arith,
        due_cost ts cost j (t + n) (good.period_positive j l),
        due_cost ts cost j t (good.period_positive j l),
        due_cost ts cost j n (good.period_positive j l),
        mul-le-mul_left (cost j) (quotient_split (period ts j) (good.period_positive j l) t n),
      )

  -- Up to the period one job of the task itself is due, so what is due of the level is the claim.
  pub dues_claim : (x : ℕ) → 0 < x → x ≤ period ts i → dues x ≡ claim ts cost i x
  unfolding claim
  dues_claim x some most = level_own good i known (λ j. due ts (at_cost cost) j x) ∙ ap₂ ◌+◌ own above
    where
      T : 0 < period ts i
      T = good.period_positive i known

      one : quotient x (period ts i) ≡ 1
      one = le_antisymm (quotient_least (period ts i) T x 1 (omega arith))
          (pos_of_ne-zero (λ e. omega (arith, quotient_above (period ts i) T x, ap (λ q. q * period ts i) e)))

      own : due ts (at_cost cost) i x ≡ cost i
      own = due_cost ts cost i x T ∙ ap (λ q. cost i * q) one ∙ omega arith

      above : sum (length ts) (λ j. cond (outranks ts j i) (due ts (at_cost cost) j x) 0)
          ≡ sum (length ts) (λ j. cond (outranks ts j i) (cost j * quotient x (period ts j)) 0)
      above = sum_eq (length ts) _ _ (λ j l. ap (λ y. cond (outranks ts j i) y 0) (due_cost ts cost j x (good.period_positive j l)))

  -- From an empty backlog on, while it does not run empty again, it is what has come due less a unit a tick.
  pub busy_backlog : (t n : ℕ) → left t ≡ 0 → ((x : ℕ) → t < x → x ≤ t + n → 0 < left x) → left (t + n) + n + dues t ≡ dues (t + n)
  busy_backlog t zero z h = rw (add-zero t) (omega arith)
  busy_backlog t (suc n) z h = rw next (omega (
    arith,
    busy_backlog t n z (λ x p l. h x p (omega arith)),
    backlog_step ts (at_cost cost) i (t + n),
    dues_step (t + n),
    h (suc (t + n)) (omega arith) (omega arith),
  ))
    where
      next : t + suc n ≡ suc (t + n)
      next = omega arith

  module _ (some : 0 < cost i) (in_time : fixed_point ts cost i ≤ period ts i) where
    abbrev w : ℕ
    w = fixed_point ts cost i

    -- Where the backlog is empty it is empty again within the least fixed point,
    again_empty : (t : ℕ) → left t ≡ 0 → ¬ ((x : ℕ) → t < x → x ≤ t + w → 0 < left x)
    again_empty t z h = omega (
      arith,
      busy_backlog t w z h,
      dues_window t w,
      dues_claim w positive in_time,
      fixed_point_fixed ts cost i in_time,
      h (t + w) (omega (arith, positive)) (le_refl _),
    )
      where
        positive : 0 < w
        positive = omega (arith, fixed_point_own ts cost i in_time)

    next_empty : (t : ℕ) → left t ≡ 0 → (z : ℕ) × (t < z) × (z ≤ t + w) × (left z ≡ 0)
    next_empty t z = go (dec_lt (least w test) w)
      where
        test : ℕ → Bool
        test x = eqb (left (suc (t + x))) 0

        none : ¬ (least w test < w) → (x : ℕ) → t < x → x ≤ t + w → 0 < left x
        none l x p q =
            pos_of_ne-zero (λ e. l (omega (arith, least_first w test (x - suc t) (eq-eqb (left (suc (t + (x - suc t)))) 0 (ap left back ∙ e)))))
          where
            back : suc (t + (x - suc t)) ≡ x
            back = omega arith

        go : Dec (least w test < w) → (z : ℕ) × (t < z) × (z ≤ t + w) × (left z ≡ 0)
        go (yes l) = (suc (t + least w test), omega arith, omega arith, eqb-true (left (suc (t + least w test))) 0 (least_passes w test l))
        go (no l) = absurd (again_empty t z (none l))

    -- and so it is within that of every tick.
    pub fixed_point_empty : (r : ℕ) → (z : ℕ) × (r < z) × (z ≤ r + fixed_point ts cost i) × (backlog ts (at_cost cost) i z ≡ 0)
    fixed_point_empty zero = next_empty 0 (backlog_start ts (at_cost cost) i)
    fixed_point_empty (suc r) = go (fixed_point_empty r)
      where
        go : (z : ℕ) × (r < z) × (z ≤ r + w) × (left z ≡ 0) → (z : ℕ) × (suc r < z) × (z ≤ suc r + w) × (left z ≡ 0)
        go x = pick (ℕ_discrete x.0 (suc r))
          where
            pick : Dec (x.0 ≡ suc r) → (z : ℕ) × (suc r < z) × (z ≤ suc r + w) × (left z ≡ 0)
            pick (yes e) = next_empty (suc r) (subst (λ y. left y ≡ 0) e x.3)
            pick (no e) = (x.0, omega (arith, x.1), omega (arith, x.2), x.3)
