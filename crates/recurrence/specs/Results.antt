-- When each answer is given, and what an answer says of every schedule of the sheet's tasks, whatever their hyperperiod.
use Rattle.std.specs.Prelude.{◌≡◌, ◌≢◌, List, [], ◌∷◌, ℕ, ◌+◌, ◌-◌, ◌≤◌, ◌<◌, length, get_or, Result, Ok}
use Rattle.std.proofs.Math.Path.{refl}
use Rattle.std.proofs.Common.{sym, ap, ◌∙◌, subst, arith}
use Rattle.std.proofs.lemmas.Bool.{false≢true}
use borrow.Author.Tests.{lt-ltb, ltb-true, ltb-false}
use Rattle.theory.specs.declared.Task.{Task}
use Rattle.theory.specs.Model.Schedule.{period, rank, release, Proper, Slot, idle, busy, Demands, Within, Run, Schedule}
use Rattle.theory.specs.Model.Responses.{response, Accepted}
use Rattle.theory.specs.Model.Chain.{PathEnds}
use Rattle.theory.specs.Model.Flag.{FlagWithin}
use Rattle.theory.specs.Model.Recurrence.{quick_response, Passing, EverLate}
use Rattle.theory.proofs.Analysis.QuickLaws.{within_accepted}
use Rattle.theory.proofs.Results.QuickBound as theory
use Rattle.answers.specs.declared.Refusal.{Refusal}
use Rattle.answers.specs.Answers.{Answer, given, refused, Judgement, fine, after, also, told}
use Rattle.answers.specs.AnswerLaws.{refused_given, when_fine, also_given}
use Rattle.answers.specs.NumberLaws.{when_only}
use Rattle.sheet.specs.NumberLaws.{judge_never}
use Rattle.sheet.specs.declared.Sheet.{Sheet}
use Rattle.sheet.specs.Calls.{judge_of}
use Rattle.sheet.specs.Fields.{outside}
use Rattle.sheet.specs.PlaceLaws.{places_taken}
use Rattle.sheet.specs.SoundLaws.{inside, judged_sound}
use Rattle.sheet.specs.Tasks.{tasks_of, chain_count, lacks, chain_of, first_of, rest_of}
use Rattle.sheet.specs.Lateness.{lateness}
use Rattle.sheet.specs.TaskLaws.{tasks_length, sound_proper, chains_most, chain_known}
use Rattle.sheet.specs.LatenessLaws.{lateness_fine}
use Rattle.recurrence.specs.declared.answer.Bounds.{Bounds}
use Rattle.recurrence.specs.declared.answer.QuickBound.{QuickBound}
use Rattle.recurrence.specs.declared.answer.QuickSuite.{QuickSuite}
use Rattle.recurrence.specs.Calls.{passing_greatest, bounds_of, quick_of, suite_of, responses_in, no_bounds, bounds_to}
use Rattle.recurrence.specs.CallLaws.{found, given_bound, quick_known, suite_sound, quick_fits, quick_passing_task, response_at}
use Rattle.recurrence.specs.Promises.{BoundPromise, SuitePromise}

-- ---- when each answer is given

-- The bounds: the sheet is judged fine and has the chain, and no value passes its period.
pub record GivenWhen (s : Sheet) (number : ℕ) (b : Bounds) : Type 0 where
  pub judged_fine : judge_of s ≡ fine
  pub numbered_fine : lacks s number ≡ fine
  pub none_passing : (i : ℕ) → i < length (tasks_of s) → quick_response (tasks_of s) i ≤ period (tasks_of s) i
  pub bounds_are : bounds_of (tasks_of s) (chain_of s number) ≡ b

-- 15: i is "the greatest-ranked task whose value passes its period".
pub record LateWhen (s : Sheet) (number i : ℕ) : Type 0 where
  pub judged_fine : judge_of s ≡ fine
  pub numbered_fine : lacks s number ≡ fine
  pub known : i < length (tasks_of s)
  pub passing : Passing (tasks_of s) i
  pub greatest_rank : (j : ℕ) → j < length (tasks_of s) → Passing (tasks_of s) j → rank (tasks_of s) j ≤ rank (tasks_of s) i

-- The task that is found.
module _ (ts : List Task) where
  none_found : ((i : ℕ) → i < length ts → quick_response ts i ≤ period ts i) → passing_greatest ts (length ts) ≡ idle
  none_found none = go (passing_greatest ts (length ts)) refl
    where
      go : (x : Slot) → passing_greatest ts (length ts) ≡ x → x ≡ idle
      go idle e = refl
      go (busy i) e = absurd (omega (arith, none i (found ts e).0, ltb-true (period ts i) (quick_response ts i) (found ts e).1))

  task_found : Proper ts → {i : ℕ} → i < length ts → Passing ts i → ((j : ℕ) → j < length ts → Passing ts j → rank ts j ≤ rank ts i)
      → passing_greatest ts (length ts) ≡ busy i
  task_found good {i} known p most = go (passing_greatest ts (length ts)) refl
    where
      go : (x : Slot) → passing_greatest ts (length ts) ≡ x → x ≡ busy i
      go idle e = absurd (false≢true (sym (found ts e i known) ∙ lt-ltb (period ts i) (quick_response ts i) p))
      go (busy j) e =
          let x = found ts e in
          ap busy (good.ranks_differ j i x.0 known (omega (
            arith,
            x.2 i known (lt-ltb (period ts i) (quick_response ts i) p),
            most j x.0 (ltb-true (period ts j) (quick_response ts j) x.1),
          )))

module _ (s : Sheet) (number : ℕ) where
  abbrev ts : List Task
  ts = tasks_of s

  pub quick_given : {b : Bounds} → quick_of s number ≡ given b → GivenWhen s number b
  unfolding quick_of
  quick_given e =
      let x = also_given (judge_of s) _ e in
      let n = also_given (lacks s number) _ x.1 in
      let y = also_given (lateness (passing_greatest ts (length ts))) _ n.1 in
      record {
        judged_fine = x.0;
        numbered_fine = n.0;
        none_passing = λ i l. ltb-false _ _ (found ts (lateness_fine _ y.0) i l);
        bounds_are = cc y.1;
      }

  pub given_quick : {b : Bounds} → GivenWhen s number b → quick_of s number ≡ given b
  given_quick g =
      quick_fits s number g.judged_fine g.numbered_fine (ap lateness (none_found ts g.none_passing)) ∙ ap given g.bounds_are

  pub quick_15 : {i : ℕ} → quick_of s number ≡ refused 15 (i ∷ []) → LateWhen s number i
  unfolding quick_of
  quick_15 {i} = go (judge_of s) refl (lacks s number) refl
    where
      rest : Slot → Answer Bounds
      rest x = also (lateness x) (given (bounds_of ts (chain_of s number)))

      early : {n : ℕ} {vs : List ℕ} → n ≢ 15 → ◌≡◌ {A = Answer Bounds} (refused n vs) (refused 15 (i ∷ [])) → LateWhen s number i
      early {n} d e = absurd (d same)
        where
          same : n ≡ 15
          same = cc

      go : (j : Judgement) → judge_of s ≡ j → (k : Judgement) → lacks s number ≡ k
          → also j (also k (rest (passing_greatest ts (length ts)))) ≡ refused 15 (i ∷ []) → LateWhen s number i
      go (refused n vs) q k p e = early ((judge_never 15 (omega arith) (omega arith) (λ z. omega arith) s).holds q) e
      go (given u) q (refused n vs) p e = early ((when_only {P = λ m. m ≢ 15} (outside 1 (chain_count s) number) 17 (λ z. omega arith)).holds p) e
      go (given u) q (given v) k e = pick (passing_greatest ts (length ts)) refl e
        where
          pick : (x : Slot) → passing_greatest ts (length ts) ≡ x → rest x ≡ refused 15 (i ∷ []) → LateWhen s number i
          pick idle p h = refused_given (sym h)
          pick (busy j) p h = subst (LateWhen s number) same (record {
            judged_fine = q;
            numbered_fine = k;
            known = (found ts p).0;
            passing = ltb-true _ _ (found ts p).1;
            greatest_rank = λ k l r. (found ts p).2 k l (lt-ltb (period ts k) (quick_response ts k) r);
          })
            where
              same : j ≡ i
              same = cc

  pub late_quick : {i : ℕ} → LateWhen s number i → quick_of s number ≡ refused 15 (i ∷ [])
  late_quick w =
      quick_passing_task s number w.judged_fine w.numbered_fine
      (task_found ts (sound_proper _ (judged_sound s w.judged_fine)) w.known w.passing w.greatest_rank)

-- ---- the schedules

-- Of a sheet that is judged fine a value passes its period exactly when some job of the task is late in the full-budget schedule.
pub passing_is_late : (s : Sheet) → judge_of s ≡ fine → (i : ℕ) → i < length (tasks_of s)
    → (Passing (tasks_of s) i → EverLate (tasks_of s) i) × (EverLate (tasks_of s) i → Passing (tasks_of s) i)
passing_is_late s e i l = theory.passing_is_late (sound_proper _ (judged_sound s e)) i l

-- So where the bounds are given no task is late,
pub given_accepted : (s : Sheet) (number : ℕ) {b : Bounds} → quick_of s number ≡ given b → Accepted (tasks_of s)
given_accepted s number e = let g = quick_given s number e in within_accepted (sound_proper _ (judged_sound s g.judged_fine)) g.none_passing

-- and what is answered for a task is the greatest response of all its jobs; the first has it.
pub responses_greatest : (s : Sheet) (number : ℕ) (q : QuickBound) (promise : BoundPromise s number (Ok q)) (i : ℕ) (known : i < s.count)
    → ((k : ℕ) → response (tasks_of s) i k ≤ get_or q.responses i 0) × (response (tasks_of s) i 0 ≡ get_or q.responses i 0)
responses_greatest s number q promise i known =
    let answer = given_bound s number q promise in
    let sound = judged_sound s (quick_given s number answer.0).judged_fine in
    let x = theory.quick_response_of_all (sound_proper _ sound) i (omega (arith, tasks_length _ sound)) in
    let is = response_at _ sound answer.1 i known in
    ((λ k. omega (arith, is, x.0 k)), omega (arith, is, x.1))

-- No schedule exceeds the bound. If it is answered, then for all demands of 1 to C, every run that is a schedule for them and every job of the
-- chain's first task the path from it exists, and ends no later than the sampling bound after the job's release;
pub no_schedule_exceeds_quick_bound :
    (s : Sheet) (number : ℕ) (b : Bounds) (answer : quick_of s number ≡ given b)
    (d : Demands) (within : Within (tasks_of s) d) (run : Run) (schedule : Schedule (tasks_of s) d run) (k : ℕ)
    → ((f : ℕ) × PathEnds d run (first_of (chain_of s number)) (rest_of (chain_of s number)) k f)
    × ((f : ℕ) → PathEnds d run (first_of (chain_of s number)) (rest_of (chain_of s number)) k f → f ≤ release (tasks_of s) (first_of (chain_of s number)) k + b.sampling_bound)
no_schedule_exceeds_quick_bound s number b answer d within run schedule k =
    let g = quick_given s number answer in
    let x = theory.no_schedule_exceeds_quick_bound (tasks_of s) (given_accepted s number answer) (first_of (chain_of s number)) (rest_of (chain_of s number))
    (chain_known _ (judged_sound s g.judged_fine) number g.numbered_fine) d within run schedule k in
    (x.0, λ f path. omega (arith, x.1 f path, ap (λ b. b.sampling_bound) g.bounds_are))

-- and a flag raised at any tick is stamped no later than the bound after it.
pub no_flag_exceeds_quick_bound :
    (s : Sheet) (number : ℕ) (b : Bounds) (answer : quick_of s number ≡ given b)
    (d : Demands) (within : Within (tasks_of s) d) (run : Run) (schedule : Schedule (tasks_of s) d run) (e : ℕ)
    → FlagWithin d run (first_of (chain_of s number)) (rest_of (chain_of s number)) e b.bound
no_flag_exceeds_quick_bound s number b answer d within run schedule e =
    let g = quick_given s number answer in
    subst (λ b. FlagWithin d run (first_of (chain_of s number)) (rest_of (chain_of s number)) e b.bound) g.bounds_are
    (theory.no_flag_exceeds_quick_bound (tasks_of s) (given_accepted s number answer) (first_of (chain_of s number)) (rest_of (chain_of s number))
    (chain_known _ (judged_sound s g.judged_fine) number g.numbered_fine) d within run schedule e)

-- ---- every chain from one search: of each chain what the call for it alone answers

pub suite_bound : (s : Sheet) (r : Result QuickSuite Refusal) (promise : SuitePromise s r) (number : ℕ) (known : lacks s number ≡ fine)
    → quick_of s number ≡ after (told r) (λ q. given (get_or q.chains (number - 1) no_bounds))
suite_bound s r promise number known =
    quick_known s number known ∙ go (suite_of s) refl ∙ sym (ap (λ a. after a (λ (q : QuickSuite). given (get_or q.chains (number - 1) no_bounds))) promise)
  where
    count : (1 ≤ number) × (number ≤ chain_count s)
    count = inside 1 (chain_count s) number (when_fine _ 17 known)

    all : QuickSuite
    all = record { responses = responses_in s; chains = bounds_to s (chain_count s) }

    place : suite_of s ≡ fine → bounds_of (tasks_of s) (chain_of s number) ≡ get_or (bounds_to s (chain_count s)) (number - 1) no_bounds
    place e = sym (
        places_taken 8 no_bounds (λ c. bounds_of (tasks_of s) (chain_of s (c + 1))) (chain_count s) no_bounds (number - 1) (omega (arith, count))
        (omega (arith, count, chains_most _ (judged_sound s (suite_sound s e))))
        ∙ ap (λ n. bounds_of (tasks_of s) (chain_of s n)) {x = number - 1 + 1} {y = number} (omega (arith, count))
        )

    go : (a : Judgement) → suite_of s ≡ a → also a (given (bounds_of (tasks_of s) (chain_of s number)))
        ≡ after (also a (given all)) (λ (q : QuickSuite). given (get_or q.chains (number - 1) no_bounds))
    go (given u) e = ap given (place e)
    go (refused n vs) e = refl
