-- A path that newer readings overtake: tasks (2,1,1) and (10,1,2), chain 0 1. The write of job 0 at 2 is overwritten at 3, 5, 7 and 9; its path
-- goes to the job that starts at 10, which reads what job 4, released at 8, wrote at 9.
use Rattle.std.specs.Prelude.{◌≡◌, refl, [], ◌∷◌, ℕ, suc, ◌+◌, ◌*◌, ◌<◌, ◌≤◌}
use Rattle.std.proofs.Common.{ap, ◌∙◌, subst, le_refl, pos_of_ne-zero, arith}
use Rattle.std.proofs.Math.Bool.{decide}
use Rattle.theory.specs.Model.Schedule.{release, busy, Starts, Finishes}
use Rattle.theory.specs.Model.Responses.{full, full_budget, Accepted}
use Rattle.theory.specs.Model.Chain.{Chain, HandOver, PathEnds}
use Rattle.theory.specs.Model.Readings.{Reads, Carries}
use Rattle.theory.proofs.Analysis.Work.{done_busy, need_step}
use Rattle.theory.proofs.Analysis.Finish.{start_unique, finish_later, finish_released}
use Rattle.theory.proofs.Analysis.Existence.{full_schedule}
use Rattle.theory.proofs.Analysis.ResponseLaws.{response_finishes}
use Rattle.theory.specs.Analysis.Clearing.{clearing}
use Rattle.theory.proofs.Analysis.Clearing.{response_clearing}
use Rattle.theory.proofs.Analysis.Repetition.{never_late}
use Rattle.theory.proofs.Analysis.NeverLater.{full_within}
use Rattle.theory.proofs.Analysis.ReadingLaws.{carries_order, path_first}
use Rattle.theory.proofs.Analysis.Evaluation.{decided, proper?, clears?, clears_accepted}
use Rattle.theory.specs.Results.Overtaken.{pair}

pub pair_accepted : Accepted pair
unfolding decide proper? clears?
pair_accepted = clears_accepted (decided (proper? pair) tt) (decided (clears? pair) tt)

finishes : (i k n : ℕ) → i < 2 → clearing pair i k ≡ n → Finishes (full pair) (full_budget pair) i k (release pair i k + n)
finishes i k n l e = subst (λ x. Finishes (full pair) (full_budget pair) i k (release pair i k + x)) (response_clearing pair_accepted.proper i k l ∙ e)
    (response_finishes pair_accepted.proper i k l (never_late pair_accepted i l k) (full_schedule pair))

starts : (k : ℕ) → clearing pair 1 k ≡ 1 → Starts (full pair) (full_budget pair) 1 k (k * 10)
starts k e =
    record { runs_first = last; done_before = omega (arith, done_busy (full_budget pair) 1 (k * 10) last, x.done_by, need_step (full pair) 1 k) }
  where
    x : Finishes (full pair) (full_budget pair) 1 k (suc (k * 10))
    x = subst (Finishes (full pair) (full_budget pair) 1 k) (omega arith) (finishes 1 k 1 (omega arith) e)

    last : full_budget pair (k * 10) ≡ busy 1
    last = ap (full_budget pair) (omega (arith, x.is_next)) ∙ x.runs_last

pub pair_path : PathEnds (full pair) (full_budget pair) 0 (1 ∷ []) 0 11
unfolding clearing
pair_path = (1, hand_over_lem, finishes 1 1 1 (omega arith) refl)
  where
    hand_over_lem : HandOver (full pair) (full_budget pair) 0 1 0 1
    hand_over_lem = record {
      write = 2;
      finishes = finishes 0 0 2 (omega arith) refl;
      read = 10;
      starts = starts 1 refl;
      in_time = omega arith;
      first = λ x t y h. pos_of_ne-zero (λ e. omega (arith, start_unique (subst (λ j. Starts (full pair) (full_budget pair) 1 j t) e y) (starts 0 refl)));
    }

pub pair_carries : Carries (full pair) (full_budget pair) 0 (1 ∷ []) 4 11
unfolding clearing
pair_carries = (1, reads, finishes 1 1 1 (omega arith) refl)
  where
    fourth : Finishes (full pair) (full_budget pair) 0 4 9
    fourth = finishes 0 4 1 (omega arith) refl

    released : (x f : ℕ) → Finishes (full pair) (full_budget pair) 0 x f → f ≤ 10 → x ≤ 4
    released x f y h = omega (arith, finish_released pair_accepted.proper (full_schedule pair) 0 x (omega arith) f (omega arith) y)

    reads : Reads (full pair) (full_budget pair) 0 1 4 1
    reads = record {
      read = 10;
      starts = starts 1 refl;
      write = 9;
      finishes = fourth;
      in_time = omega arith;
      newest = λ x f y h. finish_later (released x f y h) y fourth;
    }

-- The write of job 0 is not read before the path's end, and from then on newer ones are.
pub pair_lost : (f : ℕ) → ¬ (Carries (full pair) (full_budget pair) 0 (1 ∷ []) 0 f)
pair_lost f x =
    omega (arith, carries_order (full_within pair_accepted.proper) (full_budget pair) 0 (1 ∷ []) chain 4 0 11 f pair_carries x not_earlier)
  where
    chain : Chain pair 0 (1 ∷ [])
    chain = (omega arith, λ e. omega arith, omega arith)

    not_earlier : 11 ≤ f
    not_earlier = path_first (full pair) (full_budget pair) 0 (1 ∷ []) 0 0 11 f pair_path x (le_refl _)
