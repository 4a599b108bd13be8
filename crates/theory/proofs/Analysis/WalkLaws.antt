-- The arithmetic of a chain's figures, for all periods, hand-overs that wait and responses: where responses repeat with H, so do delays;
-- the worst figure is then the greatest of all delays, and it is at most the quick bound.
use Rattle.std.specs.Prelude.{◌≡◌, refl, Bool, true, false, cond}
use Rattle.std.proofs.Common.{sym, ◌∙◌, subst, le_antisymm, mod-lt, div-add-mod', mul-div_cancel, eqb-true, eq-eqb}
use Rattle.std.proofs.Math.Path.{ap, ap₂, fun_ext}
use mathlib.Core.List.{List, [], ◌∷◌}
use Prim.Native.Nat.{ℕ, zero, suc, ◌+◌, ◌-◌, ◌*◌, ◌/◌, ◌%◌, ◌≤◌, ◌<◌, ◌∣◌}
use Rattle.std.proofs.Math.Nat.{dvd_trans, dvd-add, dvd-mul_left, le_of_dvd, div-mul_cancel, add-mul-div_right, mul-le-mul_right}
use native.Mathlib.Omega.{arith}
use Rattle.std.proofs.Math.Dec.{eqb}
use Rattle.arith.specs.Whole.{gcd, up}
use Rattle.arith.specs.WholeLaws.{gcd_divides_left, gcd_divides_right, gcd_pos, gap_multiple, up_divides, up_above, up_near, up_mono, up_shift}
use Rattle.arith.specs.Ranges.{maximum, least}
use Rattle.arith.specs.RangeLaws.{maximum_above, maximum_least, maximum_reached, least_passes, least_first}
use Rattle.theory.specs.Analysis.Hyperperiod.{Cycle}
use Rattle.theory.proofs.Analysis.Hyperperiod.{cycle_jobs, cycle_before}
use Rattle.theory.specs.Model.Chain.{ChainOf, Waits, Table, walk_next, walk_delay, walk_worst, walk_worst_release, walk_bound, GreatestOf}
use Rattle.theory.specs.Analysis.WalkLaws.{Along, Alike}

pub chain_first : (n p : ℕ) (rest : List ℕ) → ChainOf n p rest → p < n
chain_first n p [] l = l
chain_first n p (c ∷ rest) l = l.0

-- The next release

module _ (T : ℕ → ℕ) (waits : Waits) (table : Table) (p c r : ℕ) where
  pub walk_next_finish : waits p c ≡ true → walk_next T waits table p c r ≡ up (T c) (r + table p (r / T p))
  unfolding walk_next
  walk_next_finish e = rw e

  pub walk_next_release : waits p c ≡ false → walk_next T waits table p c r ≡ up (T c) r
  unfolding walk_next
  walk_next_release e = rw e

  -- It is the release of a job of c,
  pub walk_next_job : walk_next T waits table p c r / T c * T c ≡ walk_next T waits table p c r
  unfolding walk_next
  walk_next_job = div-mul_cancel (T c) (up_divides (T c) _)

  -- and not before that of p.
  pub walk_next_later : 0 < T c → r ≤ walk_next T waits table p c r
  walk_next_later positive = go (waits p c) refl
    where
      go : (b : Bool) → waits p c ≡ b → r ≤ walk_next T waits table p c r
      go true e = omega (arith, walk_next_finish e, up_above (T c) (r + table p (r / T p)) positive)
      go false e = omega (arith, walk_next_release e, up_above (T c) r positive)

  -- A longer chain's delay ends where that of its rest ends from the next release.
  pub walk_delay_step : (rest : List ℕ) → 0 < T c
      → r + walk_delay T waits table p (c ∷ rest) r ≡ walk_next T waits table p c r + walk_delay T waits table c rest (walk_next T waits table p c r)
  unfolding walk_delay
  walk_delay_step rest positive = omega (arith, walk_next_later positive)

-- The first of some numbers that gives their maximum.
first_greatest : (n : ℕ) (f : ℕ → ℕ) → 0 < n
    → let k = least n (λ k. eqb (f k) (maximum n f)) in (k < n) × (f k ≡ maximum n f) × ((j : ℕ) → f j ≡ maximum n f → k ≤ j)
first_greatest n f some = (early, eqb-true _ _ (least_passes n gives early), λ j e. least_first n gives j (eq-eqb _ _ e))
  where
    gives : ℕ → Bool
    gives k = eqb (f k) (maximum n f)

    x : (k : ℕ) × (k < n) × (f k ≡ maximum n f)
    x = maximum_reached n f some

    early : least n gives < n
    early = omega (arith, least_first n gives x.0 (eq-eqb _ _ x.2), x.1)

-- One hyperperiod on

module _ {n H : ℕ} {T : ℕ → ℕ} (cycle : Cycle n H T) (waits : Waits) (table : Table)
    (repeats : (i k : ℕ) → i < n → table i (k + H / T i) ≡ table i k) where
  table_again : (p r : ℕ) → p < n → table p ((r + H) / T p) ≡ table p (r / T p)
  table_again p r l = ap (table p) turn ∙ repeats p (r / T p) l
    where
      turn : (r + H) / T p ≡ r / T p + H / T p
      turn = ap (λ x. (r + x) / T p) (sym (cycle.whole p l)) ∙ add-mul-div_right r (H / T p) (cycle.positive p l)

  up_again : (c x : ℕ) → c < n → up (T c) (x + H) ≡ up (T c) x + H
  up_again c x l = rw (cycle.whole c l) at (up_shift (T c) x (H / T c))

  next_again : (p c r : ℕ) → p < n → c < n → walk_next T waits table p c (r + H) ≡ walk_next T waits table p c r + H
  next_again p c r lp lc = go (waits p c) refl
    where
      go : (b : Bool) → waits p c ≡ b → walk_next T waits table p c (r + H) ≡ walk_next T waits table p c r + H
      go true e = rw (walk_next_finish T waits table p c (r + H) e, walk_next_finish T waits table p c r e, table_again p r lp)
          (ap (up (T c)) (omega arith) ∙ up_again c (r + table p (r / T p)) lc)
      go false e = rw (walk_next_release T waits table p c (r + H) e, walk_next_release T waits table p c r e) (up_again c r lc)

  -- Delays repeat with H.
  pub walk_delay_again : (p : ℕ) (rest : List ℕ) (r : ℕ) → ChainOf n p rest → walk_delay T waits table p rest (r + H) ≡ walk_delay T waits table p rest r
  unfolding walk_delay
  walk_delay_again p [] r l = table_again p r l
  walk_delay_again p (c ∷ rest) r l =
      ap₂ ◌+◌ (ap (λ x. x - (r + H)) next ∙ omega arith) (ap (walk_delay T waits table c rest) next ∙ walk_delay_again c rest _ l.2)
    where
      next : walk_next T waits table p c (r + H) ≡ walk_next T waits table p c r + H
      next = next_again p c r l.0 (chain_first n c rest l.2)

  pub walk_delay_turns : (p : ℕ) (rest : List ℕ) (r m : ℕ) → ChainOf n p rest
      → walk_delay T waits table p rest (r + m * H) ≡ walk_delay T waits table p rest r
  walk_delay_turns p rest r zero l = ap (walk_delay T waits table p rest) (omega arith)
  walk_delay_turns p rest r (suc m) l =
      ap (walk_delay T waits table p rest) (omega arith) ∙ walk_delay_again p rest (r + m * H) l ∙ walk_delay_turns p rest r m l

  -- So the worst figure is the greatest delay over all releases of the first task.
  pub walk_worst_of_all : (p : ℕ) (rest : List ℕ) → ChainOf n p rest
      → GreatestOf (T p) H (walk_delay T waits table p rest) (walk_worst T waits table H p rest) (walk_worst_release T waits table H p rest)
  unfolding walk_worst walk_worst_release
  walk_worst_of_all p rest l =
      let first = first_greatest (H / T p) delays (cycle_jobs cycle p known) in record {
        greatest = greatest;
        given = first.1;
        first_task = ap (λ k. k * T p) (mul-div_cancel _ (cycle.positive p known));
        before = cycle_before cycle p known _ first.0;
        smallest = λ k e. mul-le-mul_right (T p) (first.2 k e);
      }
    where
      known : p < n
      known = chain_first n p rest l

      delays : ℕ → ℕ
      delays k = walk_delay T waits table p rest (k * T p)

      greatest : (k : ℕ) → delays k ≤ maximum (H / T p) delays
      greatest k = rw (ap (walk_delay T waits table p rest) parts ∙ walk_delay_turns p rest (k % (H / T p) * T p) (k / (H / T p)) l)
          (maximum_above (H / T p) delays (k % (H / T p)) (mod-lt k (cycle_jobs cycle p known)))
        where
          parts : k * T p ≡ k % (H / T p) * T p + k / (H / T p) * H
          parts = ap (λ x. x * T p) (sym (div-add-mod' k (H / T p))) ∙ omega (arith, ap (λ x. k / (H / T p) * x) (cycle.whole p known))

-- The quick bound

-- From a multiple y of g, which divides T, it is at most T less g to the next multiple of T.
up_gap : (g T y : ℕ) → 0 < T → g ∣ T → g ∣ y → up T y + g ≤ y + T
up_gap g T y positive d_t dy = gap_multiple g dy (dvd_trans g d_t (up_divides T y)) d_t (up_near T y positive)

module _ {n : ℕ} {T : ℕ → ℕ} (positive : (i : ℕ) → i < n → 0 < T i) (waits : Waits) (table : Table) (R : ℕ → ℕ)
    (greatest : (i k : ℕ) → i < n → table i k ≤ R i) where
  next_bound : (p c k : ℕ) → p < n → c < n
      → walk_next T waits table p c (k * T p) + gcd (T p) (T c) ≤ k * T p + T c + cond (waits p c) (up (gcd (T p) (T c)) (R p)) 0
  next_bound p c k lp lc = go (waits p c) refl
    where
      r : ℕ
      r = k * T p

      g : ℕ
      g = gcd (T p) (T c)

      d_t : g ∣ T c
      d_t = gcd_divides_right (T p) (T c)

      dr : g ∣ r
      dr = dvd_trans g (gcd_divides_left (T p) (T c)) (dvd-mul_left (T p) k)

      go : (b : Bool) → waits p c ≡ b → walk_next T waits table p c r + g ≤ r + T c + cond b (up g (R p)) 0
      go true e = omega (
        arith,
        walk_next_finish T waits table p c r e,
        up_mono (T c) low,
        up_gap g (T c) (r + up g (R p)) (positive c lc) d_t (dvd-add g dr (up_divides g (R p))),
      )
        where
          low : r + table p (r / T p) ≤ r + up g (R p)
          low = omega (arith, greatest p (r / T p) lp, up_above g (R p) (gcd_pos (T p) (T c) (positive p lp)))
      go false e = omega (arith, walk_next_release T waits table p c r e, up_gap g (T c) r (positive c lc) d_t dr)

  -- No delay exceeds it,
  delay_bound : (p : ℕ) (rest : List ℕ) (k : ℕ) → ChainOf n p rest → walk_delay T waits table p rest (k * T p) ≤ walk_bound T waits R p rest
  unfolding walk_delay walk_bound
  delay_bound p [] k l = greatest p (k * T p / T p) l
  delay_bound p (c ∷ rest) k l =
      omega (
        arith,
        next_bound p c k l.0 lc,
        le_of_dvd (positive c lc) (gcd_divides_right (T p) (T c)),
        rw (walk_next_job T waits table p c (k * T p)) at (delay_bound c rest (walk_next T waits table p c (k * T p) / T c) l.2),
      )
    where
      lc : c < n
      lc = chain_first n c rest l.2

  -- and so neither does the worst.
  pub walk_worst_bound : (H p : ℕ) (rest : List ℕ) → ChainOf n p rest → walk_worst T waits table H p rest ≤ walk_bound T waits R p rest
  unfolding walk_worst
  walk_worst_bound H p rest l = maximum_least (H / T p) _ (walk_bound T waits R p rest) (λ k h. delay_bound p rest k l)

-- A figure and its release are told by the delays alone, whatever the hyperperiod

module _ {T : ℕ} {delays : ℕ → ℕ} where
  figure_most : {H H' figure figure' at at' : ℕ} → GreatestOf T H delays figure at → GreatestOf T H' delays figure' at' → figure ≤ figure'
  figure_most {at = at} x y = rw (← x.given, ← ap delays x.first_task) (y.greatest (at / T))

  release_most : {H H' figure at at' : ℕ} → GreatestOf T H delays figure at → GreatestOf T H' delays figure at' → at ≤ at'
  release_most {at' = at'} x y = rw y.first_task at (x.smallest (at' / T) (ap delays y.first_task ∙ y.given))

  pub greatest_unique : {H H' figure figure' at at' : ℕ} → GreatestOf T H delays figure at → GreatestOf T H' delays figure' at'
      → (figure ≡ figure') × (at ≡ at')
  greatest_unique {H = H} {H' = H'} {figure = figure} {figure' = figure'} {at = at} {at' = at'} x y =
      let same : figure ≡ figure' = le_antisymm (figure_most x y) (figure_most y x) in
      let z : GreatestOf T H' delays figure at' = subst (λ f. GreatestOf T H' delays f at') (sym same) y in
      (same, le_antisymm (release_most x z) (release_most z x))

-- Figures by functions that agree on the tasks of a chain are equal

pub along_first : (These : ℕ → Type 0) (p : ℕ) (rest : List ℕ) → Along These p rest → These p
along_first These p [] on = on
along_first These p (c ∷ rest) on = on.0

pub chain_along : (n p : ℕ) (rest : List ℕ) → ChainOf n p rest → Along (λ i. i < n) p rest
chain_along n p [] l = l
chain_along n p (c ∷ rest) l = (l.0, chain_along n c rest l.2)

pub alike_self : (These : ℕ → Type 0) (T : ℕ → ℕ) (waits : Waits) → Alike These T T waits waits
alike_self These T waits = record { periods = λ i l. refl; hand_overs = λ p c lp lc. refl }

module _ {These : ℕ → Type 0} {T T' : ℕ → ℕ} {waits waits' : Waits} (alike : Alike These T T' waits waits') where
  module _ (table table' : Table) (same : (i k : ℕ) → These i → table i k ≡ table' i k) where
    pub walk_delay_same : (p : ℕ) (rest : List ℕ) (r : ℕ) → Along These p rest
        → walk_delay T waits table p rest r ≡ walk_delay T' waits' table' p rest r
    unfolding walk_delay walk_next
    walk_delay_same p [] r on = rw (alike.periods p on, same p (r / T' p) on)
    walk_delay_same p (c ∷ rest) r on =
        rw (
          alike.periods p on.0,
          alike.periods c next,
          alike.hand_overs p c on.0 next,
          same p (r / T' p) on.0,
          walk_delay_same c rest (walk_next T' waits' table' p c r) on.1,
        )
      where
        next : These c
        next = along_first These c rest on.1

    module _ (H p : ℕ) (rest : List ℕ) (on : Along These p rest) where
      first_period_lem : T p ≡ T' p
      first_period_lem = alike.periods p (along_first These p rest on)

      delays_same : (k : ℕ) → walk_delay T waits table p rest (k * T p) ≡ walk_delay T' waits' table' p rest (k * T' p)
      delays_same k = ap (λ x. walk_delay T waits table p rest (k * x)) first_period_lem ∙ walk_delay_same p rest (k * T' p) on

      pub walk_worst_same : walk_worst T waits table H p rest ≡ walk_worst T' waits' table' H p rest
      unfolding walk_worst
      walk_worst_same = ap₂ maximum (ap (λ x. H / x) first_period_lem) (fun_ext delays_same)

      pub walk_worst_release_same : walk_worst_release T waits table H p rest ≡ walk_worst_release T' waits' table' H p rest
      unfolding walk_worst_release
      walk_worst_release_same =
          ap₂ ◌*◌ (ap₂ least (ap (λ x. H / x) first_period_lem) (fun_ext (λ k. ap₂ eqb (delays_same k) walk_worst_same))) first_period_lem

  pub walk_bound_same : (R R' : ℕ → ℕ) → ((i : ℕ) → These i → R i ≡ R' i) → (p : ℕ) (rest : List ℕ) → Along These p rest
      → walk_bound T waits R p rest ≡ walk_bound T' waits' R' p rest
  unfolding walk_bound
  walk_bound_same R R' same p [] on = same p on
  walk_bound_same R R' same p (c ∷ rest) on =
      rw (
        alike.periods p on.0,
        alike.periods c next,
        alike.hand_overs p c on.0 next,
        same p on.0,
        walk_bound_same R R' same c rest on.1,
      )
    where
      next : These c
      next = along_first These c rest on.1
