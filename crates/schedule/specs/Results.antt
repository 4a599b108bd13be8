-- What the promise of `responses` comes to: when each answer is given, tasks that are taken, and that the ticks add up.
use Rattle.std.proofs.Math.Path.{◌≡◌, refl}
use Rattle.std.proofs.Common.{sym, ap, ap₂, ◌∙◌, subst, arith}
use Rattle.std.specs.Prelude.{List, [], ◌∷◌, Bool, true, false, ℕ, ◌+◌, ◌*◌, ◌/◌, ◌≤◌, ◌<◌, ltb, length}
use borrow.Author.Tests.{ltb-false}
use Rattle.arith.specs.Ranges.{sum}
use Rattle.theory.specs.declared.Task.{Task}
use Rattle.theory.specs.Model.Schedule.{Slot, idle, busy, period, budget, done}
use Rattle.theory.specs.Model.Responses.{hyperperiod, all_jobs, idle_ticks, Accepted, full_budget}
use Rattle.theory.proofs.Analysis.Idle.{runs_exactly, idle_adds_up}
use Rattle.answers.specs.Answers.{Answer, given, refused, fine, when, after, also}
use Rattle.answers.specs.AnswerLaws.{when_fine, also_given}
use Rattle.sheet.specs.declared.Sheet.{Sheet}
use Rattle.sheet.specs.Calls.{judge_of}
use Rattle.sheet.specs.SoundLaws.{judged_sound}
use Rattle.sheet.specs.Tasks.{tasks_of}
use Rattle.sheet.specs.Lateness.{lateness}
use Rattle.sheet.specs.TaskLaws.{tasks_length, task_allowed, sound_proper}
use Rattle.sheet.specs.LatenessLaws.{lateness_fine}
use Rattle.schedule.specs.declared.answer.Totals.{Totals}
use Rattle.schedule.specs.declared.answer.Size.{Size}
use Rattle.schedule.specs.Calls.{most_ticks, most_jobs, late_greatest, sizes_of, responses_of}
use Rattle.schedule.specs.Taken.{Taken}
use Rattle.schedule.specs.Lateness.{GreatestLate, idle_accepted, busy_greatest, accepted_idle, greatest_busy}
use Rattle.schedule.specs.NumberLaws.{sizes_never_15}
use Rattle.schedule.specs.CallLaws.{sizes_fit, Sized, sizes_given, responses_late, responses_full}

-- When each answer is given

-- The rows stand in the table: J entries are enough, no task is late, and the totals are those of the schedule.
pub record GivenWhen (s : Sheet) (room : ℕ) (totals : Totals) : Type 0 where
  pub judged_fine : judge_of s ≡ fine
  pub accepted : Accepted (tasks_of s)
  pub hyperperiod_is : totals.hyperperiod ≡ hyperperiod (tasks_of s)
  pub hyperperiod_most : hyperperiod (tasks_of s) ≤ most_ticks
  pub jobs_are : totals.jobs ≡ all_jobs (tasks_of s)
  pub jobs_most : all_jobs (tasks_of s) ≤ most_jobs
  pub jobs_fit : all_jobs (tasks_of s) ≤ room
  pub idle_is : totals.idle ≡ idle_ticks (tasks_of s)

-- A task is late: everything before that judgement is in order, and i is the greatest-ranked late task.
pub record LateWhen (s : Sheet) (room i : ℕ) : Type 0 where
  pub judged_fine : judge_of s ≡ fine
  pub hyperperiod_most : hyperperiod (tasks_of s) ≤ most_ticks
  pub jobs_most : all_jobs (tasks_of s) ≤ most_jobs
  pub jobs_fit : all_jobs (tasks_of s) ≤ room
  pub greatest_late : GreatestLate (tasks_of s) i

never : {A B : Type 0} {number : ℕ} {values : List ℕ} {a : A} → ◌≡◌ {A = Answer A} (refused number values) (given a) → B
never e = let z : ◌≡◌ {A = ℕ} 0 1 = cc in absurd (omega arith)

module _ (s : Sheet) (room : ℕ) where
  abbrev ts : List Task
  ts = tasks_of s

  abbrev totals : Size → Totals
  totals size = record { hyperperiod = size.hyperperiod; jobs = size.jobs; idle = idle_ticks ts }

  -- What is judged after the sizes.
  abbrev rest : Size → Answer Totals
  rest size = also (when (ltb room size.jobs) 14) (also (lateness (late_greatest ts (length ts))) (given (totals size)))

  pub responses_given : {totals : Totals} → responses_of s room ≡ given totals → GivenWhen s room totals
  unfolding responses_of
  responses_given {totals} = go (sizes_of s) refl
    where
      go : (x : Answer Size) → sizes_of s ≡ x → after x rest ≡ given totals → GivenWhen s room totals
      go (refused number values) q e = never e
      go (given size) q e =
          let z = sizes_given s q in
          let x = also_given (when (ltb room size.jobs) 14) _ e in
          let y = also_given (lateness (late_greatest ts (length ts))) _ x.1 in
          record {
            judged_fine = z.judged_fine;
            accepted = idle_accepted (sound_proper _ (judged_sound s z.judged_fine)) (lateness_fine (late_greatest ts (length ts)) y.0);
            hyperperiod_is = cc (y.1, z.hyperperiod_is);
            hyperperiod_most = z.hyperperiod_most;
            jobs_are = cc (y.1, z.jobs_are);
            jobs_most = z.jobs_most;
            jobs_fit = omega (arith, z.jobs_are, ltb-false room size.jobs (when_fine _ 14 x.0));
            idle_is = cc y.1;
          }

  pub given_responses : {totals : Totals} → GivenWhen s room totals → responses_of s room ≡ given totals
  given_responses {totals} f =
      responses_full s room (sizes_fit s f.judged_fine f.hyperperiod_most f.jobs_most) f.jobs_fit (accepted_idle f.accepted.proper f.accepted)
      ∙ ap (λ x. given (record { hyperperiod = x; jobs = all_jobs ts; idle = idle_ticks ts })) (sym f.hyperperiod_is)
      ∙ ap₂ (λ x y. given (record { hyperperiod = totals.hyperperiod; jobs = x; idle = y })) (sym f.jobs_are) (sym f.idle_is)

  -- Refusal 15, exactly when.
  pub responses_15 : {i : ℕ} → responses_of s room ≡ refused 15 (i ∷ []) → LateWhen s room i
  unfolding responses_of
  responses_15 {i} = go (sizes_of s) refl
    where
      go : (x : Answer Size) → sizes_of s ≡ x → after x rest ≡ refused 15 (i ∷ []) → LateWhen s room i
      go (refused number values) q e = absurd ((sizes_never_15 s).holds q (same e))
        where
          same : ◌≡◌ {A = Answer Totals} (refused number values) (refused 15 (i ∷ [])) → number ≡ 15
          same h = cc
      go (given size) q e = pick (ltb room size.jobs) refl (late_greatest ts (length ts)) refl e
        where
          z : Sized s size
          z = sizes_given s q

          pick : (b : Bool) → ltb room size.jobs ≡ b → (x : Slot) → late_greatest ts (length ts) ≡ x
              → also (when b 14) (also (lateness x) (given (totals size))) ≡ refused 15 (i ∷ []) → LateWhen s room i
          pick true l x p h = let y : ◌≡◌ {A = ℕ} 14 15 = cc in absurd (omega arith)
          pick false l idle p h = never (sym h)
          pick false l (busy j) p h = record {
            judged_fine = z.judged_fine;
            hyperperiod_most = z.hyperperiod_most;
            jobs_most = z.jobs_most;
            jobs_fit = omega (arith, z.jobs_are, ltb-false room size.jobs l);
            greatest_late = subst (GreatestLate ts) same (busy_greatest (sound_proper _ (judged_sound s z.judged_fine)) p);
          }
            where
              same : j ≡ i
              same = cc

  pub late_responses : {i : ℕ} → LateWhen s room i → responses_of s room ≡ refused 15 (i ∷ [])
  late_responses f =
      responses_late s room (sizes_fit s f.judged_fine f.hyperperiod_most f.jobs_most) f.jobs_fit
      (greatest_busy (sound_proper _ (judged_sound s f.judged_fine)) f.greatest_late)

-- The tasks of a sheet that is answered are taken.
pub given_taken : (s : Sheet) (room : ℕ) {totals : Totals} → responses_of s room ≡ given totals → Taken (tasks_of s)
given_taken s room e =
    let g = responses_given s room e in
    let sound = judged_sound s g.judged_fine in
    record {
      count_most = omega (arith, tasks_length _ sound, sound.count_most);
      period_most = λ i l. (task_allowed _ sound i l).period_most;
      accepted = g.accepted;
      short = g.hyperperiod_most;
      few = g.jobs_most;
    }

-- The ticks add up

-- "On an accepted sheet each task runs exactly C·H/T of those ticks, and these and the idle ticks add up to H."
pub answer_adds_up : (s : Sheet) (room : ℕ) {totals : Totals} → responses_of s room ≡ given totals
    → ((i : ℕ) → i < length (tasks_of s) → done (full_budget (tasks_of s)) i totals.hyperperiod ≡ budget (tasks_of s) i * (totals.hyperperiod / period (tasks_of s) i))
    × (sum (length (tasks_of s)) (λ i. budget (tasks_of s) i * (totals.hyperperiod / period (tasks_of s) i)) + totals.idle ≡ totals.hyperperiod)
answer_adds_up s room e = let f = responses_given s room e in rw (f.hyperperiod_is, f.idle_is) (runs_exactly f.accepted, idle_adds_up f.accepted)
