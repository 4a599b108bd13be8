-- The answers case by case: what each is given for, and what is known where it is given.
use Rattle.std.specs.Prelude.{◌≡◌, refl, List, [], ◌∷◌, ℕ, ◌≤◌, ◌<◌, ltb, length, replicate}
use Rattle.std.proofs.Common.{sym, ap}
use borrow.Author.Tests.{ltb-false, lt-ltb, le-ltb}
use Rattle.bits.specs.Bits.{list_of}
use Rattle.theory.specs.Model.Schedule.{idle, busy}
use Rattle.theory.specs.Model.Responses.{hyperperiod, all_jobs, idle_ticks}
use Rattle.answers.specs.declared.Refusal.{Refusal}
use Rattle.answers.specs.Answers.{Answer, given, refused, fine, when, after, refusal}
use Rattle.answers.specs.AnswerLaws.{when_fine, also_given, after_refused}
use Rattle.sheet.specs.declared.Sheet.{Sheet}
use Rattle.sheet.specs.Calls.{judge_of}
use Rattle.sheet.specs.Tasks.{tasks_of}
use Rattle.schedule.specs.declared.answer.Totals.{Totals}
use Rattle.schedule.specs.declared.answer.Size.{Size}
use Rattle.schedule.specs.Calls.{most_ticks, most_jobs, late_greatest, sizes_of, responses_of, filled_of, task_responses_of, table_after, greatest_after, with_greatest}

-- H and J

module _ (s : Sheet) where
  pub sizes_refused : (r : Refusal) → judge_of s ≡ refusal r → sizes_of s ≡ refusal r
  unfolding sizes_of
  sizes_refused r e = rw e

  pub sizes_over : judge_of s ≡ fine → most_ticks < hyperperiod (tasks_of s) → sizes_of s ≡ refused 10 []
  unfolding sizes_of
  sizes_over e h = rw (e, lt-ltb most_ticks (hyperperiod (tasks_of s)) h)

  pub sizes_many : judge_of s ≡ fine → hyperperiod (tasks_of s) ≤ most_ticks → most_jobs < all_jobs (tasks_of s) → sizes_of s ≡ refused 11 []
  unfolding sizes_of
  sizes_many e h j = rw (e, le-ltb most_ticks (hyperperiod (tasks_of s)) h, lt-ltb most_jobs (all_jobs (tasks_of s)) j)

  pub sizes_fit : judge_of s ≡ fine → hyperperiod (tasks_of s) ≤ most_ticks → all_jobs (tasks_of s) ≤ most_jobs
      → sizes_of s ≡ given (record { hyperperiod = hyperperiod (tasks_of s); jobs = all_jobs (tasks_of s) })
  unfolding sizes_of
  sizes_fit e h j = rw (e, le-ltb most_ticks (hyperperiod (tasks_of s)) h, le-ltb most_jobs (all_jobs (tasks_of s)) j)

-- A sheet whose H and J are within their limits.
pub record Sized (s : Sheet) (size : Size) : Type 0 where
  pub judged_fine : judge_of s ≡ fine
  pub hyperperiod_is : size.hyperperiod ≡ hyperperiod (tasks_of s)
  pub hyperperiod_most : hyperperiod (tasks_of s) ≤ most_ticks
  pub jobs_are : size.jobs ≡ all_jobs (tasks_of s)
  pub jobs_most : all_jobs (tasks_of s) ≤ most_jobs

pub sizes_given : (s : Sheet) {size : Size} → sizes_of s ≡ given size → Sized s size
unfolding sizes_of
sizes_given s e =
    let x = also_given (judge_of s) _ e in
    let y = also_given (when (ltb most_ticks (hyperperiod (tasks_of s))) 10) _ x.1 in
    let z = also_given (when (ltb most_jobs (all_jobs (tasks_of s))) 11) _ y.1 in
    record {
      judged_fine = x.0;
      hyperperiod_is = cc z.1;
      hyperperiod_most = ltb-false most_ticks (hyperperiod (tasks_of s)) (when_fine _ 10 y.0);
      jobs_are = cc z.1;
      jobs_most = ltb-false most_jobs (all_jobs (tasks_of s)) (when_fine _ 11 z.0);
    }

-- The whole answer

pub responses_refused : (s : Sheet) (room : ℕ) (r : Refusal) → sizes_of s ≡ refusal r → responses_of s room ≡ refusal r
unfolding responses_of
responses_refused s room r e = rw e

module _ (s : Sheet) (room : ℕ) {size : Size} (fits : sizes_of s ≡ given size) where
  pub responses_filled : responses_of s room ≡ filled_of (tasks_of s) room size
  unfolding responses_of
  responses_filled = rw fits

  pub responses_small : room < size.jobs → responses_of s room ≡ refused 14 []
  unfolding responses_of
  responses_small l = rw (fits, lt-ltb room size.jobs l)

  pub responses_late : {i : ℕ} → size.jobs ≤ room → late_greatest (tasks_of s) (length (tasks_of s)) ≡ busy i → responses_of s room ≡ refused 15 (i ∷ [])
  unfolding responses_of
  responses_late l e = rw (fits, le-ltb room size.jobs l, e)

  pub responses_full : size.jobs ≤ room → late_greatest (tasks_of s) (length (tasks_of s)) ≡ idle
      → responses_of s room ≡ given (record { hyperperiod = size.hyperperiod; jobs = size.jobs; idle = idle_ticks (tasks_of s) })
  unfolding responses_of
  responses_full l e = rw (fits, le-ltb room size.jobs l, e)

-- ---- the greatest responses

module _ (s : Sheet) (room : ℕ) where
  pub task_responses_refused : (r : Refusal) → responses_of s room ≡ refusal r → task_responses_of s room ≡ refusal r
  unfolding task_responses_of
  task_responses_refused r e = rw e

  pub task_responses_no : (r : Refusal) → task_responses_of s room ≡ refusal r → responses_of s room ≡ refusal r
  unfolding task_responses_of
  task_responses_no r e = after_refused (responses_of s room) (with_greatest s) r e

  pub task_responses_full : {totals : Totals} → responses_of s room ≡ given totals → task_responses_of s room ≡ given (with_greatest s totals)
  unfolding task_responses_of
  task_responses_full e = rw e

  -- They change nothing in the table.
  pub task_table : (old : List ℕ) → table_after (responses_of s room) (tasks_of s) old ≡ table_after (task_responses_of s room) (tasks_of s) old
  unfolding task_responses_of
  task_table old = go (responses_of s room)
    where
      go : (a : Answer Totals) → table_after a (tasks_of s) old ≡ table_after (after a (λ totals. given (with_greatest s totals))) (tasks_of s) old
      go (given totals) = refl
      go (refused number values) = refl

-- A refusal leaves zeros,
pub greatest_none : {A : Type 0} {a : Answer A} (r : Refusal) (s : Sheet) → a ≡ refusal r → replicate 16 0 ≡ greatest_after a s
unfolding list_of
greatest_none r s e = sym (ap (λ a. greatest_after a s) e)

-- and what is worked out after the table is filled changes nothing.
pub greatest_kept : {A B : Type 0} (a : Answer A) (f : A → B) (s : Sheet) → greatest_after a s ≡ greatest_after (after a (λ x. given (f x))) s
greatest_kept (given x) f s = refl
greatest_kept (refused number values) f s = refl
