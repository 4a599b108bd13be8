-- Tasks and what is known of them: their hyperperiod and their jobs, task by task.
use mathlib.Core.Path.{◌≡◌, sym, ap, ◌∙◌, subst}
use mathlib.Core.List.{List, reverse}
use Prim.Native.Nat.{ℕ, suc, ◌+◌, ◌-◌, ◌*◌, ◌≤◌, ◌<◌, ◌∣◌}
use native.Mathlib.Nat.{le_refl, le_trans, le_of_dvd, div-le_self}
use native.Mathlib.Numerals.{add-one}
use native.Mathlib.Omega.{arith}
use lib.ListN.{length, get_or, drop, length-drop, drop_of_length-le}
use lib.Seq.{get_or-drop, drop-cons}
use Rattle.std.proofs.lemmas.List.{length-reverse, get_or-reverse}
use Rattle.arith.specs.Whole.{lcm}
use Rattle.arith.specs.Ranges.{sum}
use Rattle.arith.specs.RangeLaws.{sum_le, sum_const, sum_grows}
use Rattle.theory.specs.declared.Task.{Task}
use Rattle.theory.specs.Model.Schedule.{none, period}
use Rattle.theory.specs.Model.Responses.{hyperperiod, jobs, all_jobs}
use Rattle.theory.proofs.Analysis.Hyperperiod.{hyperperiod_multiple, hyperperiod_least, hyperperiod_positive}
use Rattle.sheet.specs.declared.Sheet.{Sheet}
use Rattle.sheet.specs.Sound.{Sound}
use Rattle.sheet.specs.Tasks.{tasks_of}
use Rattle.sheet.specs.TaskLaws.{sound_proper, tasks_length, task_allowed}
use Rattle.schedule.specs.Calls.{most_ticks}
use Rattle.schedule.specs.declared.answer.Size.{Size}
use Rattle.schedule.specs.Tasks.{Fine, SizeOf}

-- Those of a sheet that is judged fine.
pub sound_fine : (s : Sheet) → Sound s → Fine (tasks_of s)
sound_fine s ok = record {
  some = omega (arith, tasks_length _ ok, ok.count_least);
  few = omega (arith, tasks_length _ ok, ok.count_most);
  proper = sound_proper _ ok;
  allowed = task_allowed _ ok;
}

module _ {ts : List Task} (fine : Fine ts) where
  -- The hyperperiod from the last task backwards

  pub multiple_start : 1 ≡ hyperperiod (drop (length ts) ts)
  unfolding hyperperiod
  multiple_start = rw (drop_of_length-le ts {i = length ts} (le_refl (length ts)))

  pub multiple_step : (i : ℕ) (task : Task) {multiple : ℕ} → i < length ts → multiple ≡ hyperperiod (drop (suc i) ts) → lcm (get_or ts i task).period multiple ≡ hyperperiod (drop i ts)
  unfolding hyperperiod
  multiple_step i task l e = sym (ap hyperperiod (drop-cons ts i task l) ∙ ap (lcm (get_or ts i task).period) (sym e))

  -- After n tasks from the last backwards the next one's period is taken in.
  pub multiple_turn : (n : ℕ) {task : Task} {multiple : ℕ} → (n < length (reverse ts)) × (task ≡ get_or (reverse ts) n task) → multiple ≡ hyperperiod (drop (length ts - n) ts)
      → lcm task.period multiple ≡ hyperperiod (drop (length ts - (n + 1)) ts)
  multiple_turn n {task} {multiple} (l, is) e =
      ap (λ (x : Task). lcm x.period multiple) (is ∙ get_or-reverse ts n task known)
      ∙ multiple_step (length ts - 1 - n) task (omega (arith, known)) (e ∙ ap (λ k. hyperperiod (drop k ts)) {x = length ts - n} {y = suc (length ts - 1 - n)} (omega (arith, known)))
      ∙ ap (λ k. hyperperiod (drop k ts)) {x = length ts - 1 - n} {y = length ts - (n + 1)} (omega arith)
    where
      known : n < length ts
      known = omega (arith, length-reverse ts)

  -- The least common multiple of some periods is no more than that of all.
  pub multiple_most : (i : ℕ) → hyperperiod (drop i ts) ≤ hyperperiod ts
  multiple_most i = le_of_dvd (hyperperiod_positive ts fine.proper.period_positive) (hyperperiod_least (drop i ts) (hyperperiod ts) each)
    where
      each : (j : ℕ) → j < length (drop i ts) → period (drop i ts) j ∣ hyperperiod ts
      each j l = subst (λ x. x.period ∣ hyperperiod ts) (sym (get_or-drop i ts j none)) (hyperperiod_multiple ts (i + j) (omega (arith, length-drop i ts)))

-- The jobs of the first tasks

module _ (ts : List Task) where
  pub jobs_next : (i : ℕ) → sum i (jobs ts) + jobs ts i ≡ sum (i + 1) (jobs ts)
  unfolding sum
  jobs_next i = rw add-one (omega arith)

  pub jobs_most : (i : ℕ) → hyperperiod ts ≤ most_ticks → sum i (jobs ts) ≤ i * most_ticks
  jobs_most i h = rw (← sum_const i most_ticks) (sum_le i _ _ (λ j m. le_trans (div-le_self _ _) h))

  pub jobs_within : (i : ℕ) → i < length ts → sum i (jobs ts) + jobs ts i ≤ all_jobs ts
  unfolding all_jobs
  jobs_within i l = omega (arith, jobs_next i, sum_grows (jobs ts) (i + 1) (length ts) (omega arith))

-- They are few.
pub jobs_short : {ts : List Task} {size : Size} → Fine ts → SizeOf ts size → (i : ℕ) → i ≤ length ts → sum i (jobs ts) ≤ 16000000
jobs_short {ts} fine sized i l = omega (arith, jobs_most ts i (omega (arith, sized)), fine.few)

-- All of them, of a sheet that is judged fine.
pub all_jobs_lem : (s : Sheet) → Sound s → all_jobs (tasks_of s) ≡ sum s.count (jobs (tasks_of s))
unfolding all_jobs
all_jobs_lem s ok = ap (λ n. sum n (jobs (tasks_of s))) (tasks_length _ ok)
