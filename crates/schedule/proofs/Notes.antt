-- What one more row tells: the greatest-ranked late task, or the lowest-ranked task with its level's rest.
use mathlib.Core.Path.{◌≡◌, refl, sym, ap, ap₂, ◌∙◌}
use mathlib.Core.List.{List}
use mathlib.Core.Bool.{Bool, true, false, cond}
use Prim.Native.Nat.{ℕ, suc, ◌≤◌, ◌<◌}
use native.Mathlib.Nat.{le_refl, le_trans}
use native.Mathlib.Omega.{arith}
use native.Mathlib.Decide.{ℕ_discrete}
use lib.Dec.{ltb}
use lib.ListN.{length}
use borrow.Author.Tests.{lt-ltb, le-ltb}
use Rattle.theory.specs.declared.Task.{Task}
use Rattle.arith.specs.RangeLaws.{sum_eq, below_suc}
use Rattle.theory.specs.Model.Schedule.{rank, Slot, idle, busy}
use Rattle.theory.specs.Model.Greatest.{outranking, greatest}
use Rattle.theory.specs.Model.Responses.{full, hyperperiod, idle_ticks}
use Rattle.theory.specs.Analysis.Backlog.{load}
use Rattle.theory.proofs.Analysis.Existence.{full_schedule}
use Rattle.theory.proofs.Analysis.Idle.{idle_backlog}
use Rattle.schedule.specs.Calls.{late_task, late_greatest}
use Rattle.schedule.specs.Conditions.{rests_to, LowestTo, LateTo}

module _ (ts : List Task) (i : ℕ) where
  step_late : (x : Slot) → late_task ts i ≡ true → late_greatest ts i ≡ x → late_greatest ts (suc i) ≡ outranking (rank ts) i x
  unfolding greatest
  step_late x e q = ap₂ (λ b y. cond b (outranking (rank ts) i y) y) e q

  step_on_time : (x : Slot) → late_task ts i ≡ false → late_greatest ts i ≡ x → late_greatest ts (suc i) ≡ x
  unfolding greatest
  step_on_time x e q = ap₂ (λ b y. cond b (outranking (rank ts) i y) y) e q

  -- Task i is late: the first late one,
  pub late_first : {low rests : ℕ} → LowestTo ts i low rests → late_task ts i ≡ true → LateTo ts (suc i) i
  late_first f e = record { is_greatest = step_late idle e f.none_late; known = omega arith }

  -- or one that outranks the late one so far,
  pub late_greater : {w : ℕ} → LateTo ts i w → late_task ts i ≡ true → rank ts w < rank ts i → LateTo ts (suc i) i
  late_greater {w} f e l = record {
    is_greatest = step_late (busy w) e f.is_greatest
        ∙ ap (λ b. cond b (busy i) (busy w)) (lt-ltb (rank ts w) (rank ts i) l);
    known = omega arith;
  }

  -- or one that it outranks.
  pub late_kept : {w : ℕ} → LateTo ts i w → late_task ts i ≡ true → rank ts i ≤ rank ts w → LateTo ts (suc i) w
  late_kept {w} f e l = record {
    is_greatest = step_late (busy w) e f.is_greatest
        ∙ ap (λ b. cond b (busy i) (busy w)) (le-ltb (rank ts w) (rank ts i) l);
    known = omega (arith, f.known);
  }

  -- It is on time: after a late task,
  pub on_time_late : {w : ℕ} → LateTo ts i w → late_task ts i ≡ false → LateTo ts (suc i) w
  on_time_late {w} f e = record { is_greatest = step_on_time (busy w) e f.is_greatest; known = omega (arith, f.known) }

  -- or of the lowest rank so far,
  pub on_time_lowest : {low before rests : ℕ} → LowestTo ts i low before → late_task ts i ≡ false → rests ≡ rests_to (load ts (full ts) i) (hyperperiod ts)
      → rank ts i ≤ rank ts low → LowestTo ts (suc i) i rests
  on_time_lowest {low} f e r l = record {
    none_late = step_on_time idle e f.none_late;
    known = omega arith;
    lowest = below_suc (λ j. rank ts i ≤ rank ts j) (λ j m. le_trans l (f.lowest j m)) (le_refl _);
    rest = λ m. (omega arith, r);
  }

  -- or not.
  pub on_time_kept : {low before : ℕ} → LowestTo ts i low before → late_task ts i ≡ false → rank ts low < rank ts i → LowestTo ts (suc i) low before
  on_time_kept {low} f e l = record {
    none_late = step_on_time idle e f.none_late;
    known = omega (arith, f.known);
    lowest = below_suc (λ j. rank ts low ≤ rank ts j) f.lowest (omega arith);
    rest = λ m. let x = f.rest (some (ℕ_discrete i 0)) in (omega (arith, x.0), x.1);
  }
    where
      some : Dec (i ≡ 0) → 0 < i
      some (yes z) = absurd (omega (arith, ap (rank ts) same))
        where
          same : low ≡ i
          same = omega (arith, f.known)
      some (no z) = omega arith

-- Where none of the first i + 1 tasks is late, neither are the first i nor task i.
pub none_late_before : (ts : List Task) (i : ℕ) → late_greatest ts (suc i) ≡ idle → (late_greatest ts i ≡ idle) × (late_task ts i ≡ false)
unfolding greatest
none_late_before ts i = go (late_task ts i) (late_greatest ts i)
  where
    go : (b : Bool) (x : Slot) → cond b (outranking (rank ts) i x) x ≡ idle → (x ≡ idle) × (b ≡ false)
    go false x e = (e, refl)
    go true idle e = let z : ◌≡◌ {A = ℕ} 0 1 = cc in absurd (omega arith)
    go true (busy j) e = pick (ltb (rank ts j) (rank ts i)) e
      where
        pick : (b : Bool) → cond b (busy i) (busy j) ≡ idle → (busy j ≡ idle) × (true ≡ false)
        pick true q = let z : ◌≡◌ {A = ℕ} 0 1 = cc in absurd (omega arith)
        pick false q = let z : ◌≡◌ {A = ℕ} 0 1 = cc in absurd (omega arith)

-- The level of the lowest rank rests where the processor is idle.
pub lowest_idle : (ts : List Task) {low rests : ℕ} → 0 < length ts → LowestTo ts (length ts) low rests → rests ≡ idle_ticks ts
unfolding idle_ticks rests_to
lowest_idle ts {low} some f =
    (f.rest some).1 ∙ sum_eq (hyperperiod ts) _ _ (λ t l. sym (idle_backlog (full_schedule ts) low f.lowest t))
