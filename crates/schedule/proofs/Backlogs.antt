-- A level's places and the theory: what comes in is the level's load, and what the walk of it tells are the task's responses.
use mathlib.Core.Path.{◌≡◌, refl, sym, ap, ◌∙◌, fun_ext}
use mathlib.Core.List.{List}
use mathlib.Core.Bool.{Bool, true, false, cond}
use Prim.Native.Nat.{ℕ, suc, ◌+◌, ◌*◌, ◌/◌, ◌%◌, ◌≤◌, ◌<◌}
use native.Mathlib.Nat.{le_refl, mul-mod_left, div-mul-le_self, mul-le-mul}
use native.Mathlib.Omega.{arith}
use lib.Dec.{leb, eqb}
use lib.ListN.{length, get_or}
use lib.Seq.{ext_get_or}
use borrow.Author.Tests.{eq-eqb}
use Rattle.bits.specs.Lists.{length_list_of, get_d_list_of}
use Rattle.theory.specs.declared.Task.{Task}
use Rattle.arith.specs.RangeLaws.{sum_le, sum_const}
use Rattle.theory.specs.Model.Schedule.{none, period, budget, rank, Proper, need, released, due}
use Rattle.theory.specs.Model.Responses.{full, response, hyperperiod, jobs}
use Rattle.theory.proofs.Analysis.Work.{due_step, due_jobs}
use Rattle.theory.specs.Analysis.Level.{level}
use Rattle.theory.proofs.Analysis.Level.{level_add, level_le, level_eq, level_own}
use Rattle.theory.specs.Analysis.Backlog.{load, drain}
use Rattle.theory.proofs.Analysis.Backlog.{backlog_unfinished}
use Rattle.theory.proofs.Analysis.Existence.{full_schedule}
use Rattle.theory.proofs.Analysis.ResponseLaws.{zero_on_time, first_zero_response, no_zero_late}
use Rattle.theory.proofs.Analysis.Hyperperiod.{jobs_whole}
use Rattle.std.specs.Prelude.{Option, Some, None}
use Rattle.schedule.specs.Calls.{most_ticks, late_task, row}
use Rattle.schedule.specs.Lateness.{job_late, late_job}
use Rattle.schedule.specs.declared.level.Place.{Place}
use Rattle.schedule.specs.Tasks.{Fine}
use Rattle.schedule.specs.Conditions.{brings, place_of, placed, coming, most_clear, rests_to, Additive, Above, Walk, Walked, RowFilled}

-- What comes in at a task and those that outrank it is the load of its level.
pub coming_load : {ts : List Task} → Proper ts → (i : ℕ) → i < length ts → {others : List Place} → Above ts (rank ts i) others
    → coming (place_of (get_or ts i none)) others ≡ load ts (full ts) i
unfolding coming placed load released
coming_load {ts} proper i known g = fun_ext (λ t. ap (λ x. brings t (period ts i) (budget ts i) + x) (g.sums (brings t) (brings_adds t))
    ∙ sym (level_own proper i known (λ j. brings t (period ts j) (budget ts j))))
  where
    brings_adds : (t : ℕ) → Additive (brings t)
    brings_adds t T a b = go (eqb (t % T) 0)
      where
        go : (c : Bool) → cond c (a + b) 0 ≡ cond c a 0 + cond c b 0
        go true = refl
        go false = refl

part_most : (b : Bool) (x : ℕ) → cond b x 0 ≤ x
part_most true x = le_refl x
part_most false x = omega arith

module _ {ts : List Task} (fine : Fine ts) (i : ℕ) (known : i < length ts) where
  abbrev a : ℕ → ℕ
  a = load ts (full ts) i

  -- A task's own jobs are work of its level.
  own_load : (k : ℕ) → 0 < a (k * period ts i)
  unfolding load released
  own_load k = omega (arith, own, level_own (fine.proper) i known (λ j. released ts (full ts) j (k * period ts i)), (fine.allowed i known).budget_positive)
    where
      own : released ts (full ts) i (k * period ts i) ≡ budget ts i
      own = rw (eq-eqb (k * period ts i % period ts i) 0 (mul-mod_left k (period ts i)))

  -- A task never has more work due than ticks have passed, and a period.
  due_most : (j t : ℕ) → j < length ts → t ≤ most_ticks → due ts (full ts) j (suc t) ≤ 1100000
  unfolding need
  due_most j t l m = omega (
    arith,
    due_jobs ts (full ts) j (fine.allowed j l).period_positive t,
    sum_const (suc (t / period ts j)) (budget ts j),
    mul-le-mul {n₂ = suc (t / period ts j)} {m₂ = period ts j} (le_refl (suc (t / period ts j))) (fine.allowed j l).budget_most,
    div-mul-le_self t (period ts j),
    (fine.allowed j l).period_most,
  )

  work_most : (t : ℕ) → t ≤ most_ticks → t + drain a t + a t ≤ most_clear
  unfolding load level
  work_most t l = omega (
    arith,
    backlog_unfinished (full_schedule ts) i t,
    level_add ts i (λ j. due ts (full ts) j t) (λ j. released ts (full ts) j t),
    level_eq ts i (λ j. due ts (full ts) j (suc t)) (λ j. due ts (full ts) j t + released ts (full ts) j t) (λ j m. due_step ts (full ts) j t),
    level_le ts i (λ j. due ts (full ts) j (suc t)) (λ j. 1100000) (λ j m r. due_most j t m l),
    sum_le (length ts) (λ j. cond (leb (rank ts i) (rank ts j)) 1100000 0) (λ j. 1100000) (λ j m. part_most (leb (rank ts i) (rank ts j)) 1100000),
    sum_const (length ts) 1100000,
    fine.few,
  )

  module _ {h : ℕ} (is_hyperperiod : h ≡ hyperperiod ts) (within_limit : h ≤ most_ticks) where
    pub walkable : Walk a (period ts i) h (jobs ts i)
    walkable = record {
      period_positive = (fine.allowed i known).period_positive;
      period_most = (fine.allowed i known).period_most;
      ends = jobs_whole (fine.proper) i known ∙ sym is_hyperperiod;
      short = within_limit;
      own = own_load;
      bounded = λ t l. work_most t (omega arith);
    }

    -- A job that the walk clears is on time, and the ticks it takes are its response; one that it does not clear is late.
    pub row_filled : (xs : List ℕ) (r : Option ℕ) → length xs ≡ jobs ts i → Walked a (period ts i) h xs r → RowFilled ts i xs r
    row_filled xs (Some rests) n (cleared, rested) = record {
      noted = (on_time (late_task ts i) refl, rested ∙ ap (rests_to a) is_hyperperiod);
      filled = λ e. ext_get_or 0 xs (row ts i) (n ∙ sym (length_list_of (jobs ts i) (response ts i)))
          (λ k l. responds k l ∙ sym (get_d_list_of (jobs ts i) (response ts i) k 0 (omega arith)));
    }
      where
        responds : (k : ℕ) → k < length xs → get_or xs k 0 ≡ response ts i k
        responds k l = let x = cleared k l in
            omega (arith, first_zero_response (fine.proper) i k known (k * period ts i + get_or xs k 0) (omega (arith, x.soon)) x.clears)

        on_time : (b : Bool) → late_task ts i ≡ b → b ≡ false
        on_time false e = refl
        on_time true e =
            let x = late_job ts i e in
            let y = cleared x.0 (omega (arith, x.1)) in
            absurd (zero_on_time (fine.proper) i x.0 known (x.0 * period ts i + get_or xs x.0 0) y.clears.after (omega (arith, y.soon)) y.clears.is_zero x.2)
    row_filled xs None n (k, l, blocked) = let late = job_late ts i k (omega arith) (no_zero_late (fine.proper) i k known blocked) in record {
      noted = late;
      filled = λ e. absurd (let z : ◌≡◌ {A = ℕ} 0 1 = cc (late, e) in omega arith);
    }
