-- Quartet, whose chain falls in rank: its budgets are all 1, so it has one schedule, and each path ends 5 ticks into a hyperperiod of 6.
use Rattle.std.specs.Prelude.{◌≡◌, [], ◌∷◌, ℕ, suc, ◌+◌, ◌*◌, ◌/◌, ◌%◌, ◌<◌}
use Rattle.std.proofs.Math.Path.{sym}
use Rattle.std.proofs.Common.{ap, ◌∙◌, subst, div-add-mod', mod-lt, arith}
use Rattle.std.proofs.Math.Bool.{decide}
use Rattle.std.proofs.Math.Nat.{mod-one}
use Rattle.std.proofs.Math.Decide.{ℕ_discrete}
use Rattle.arith.specs.RangeLaws.{sum_eq}
use Rattle.theory.specs.Model.Schedule.{release, budget, Demands, Within, need, busy, Run, Schedule, Starts, Finishes}
use Rattle.theory.specs.Model.Responses.{full, full_budget, response, hyperperiod}
use Rattle.theory.proofs.Analysis.Work.{done_busy, need_step}
use Rattle.theory.proofs.Analysis.Finish.{start_unique}
use Rattle.theory.proofs.Analysis.Existence.{schedule_unique, schedule_same}
use Rattle.theory.proofs.Analysis.ResponseLaws.{response_finishes}
use Rattle.theory.proofs.Analysis.Repetition.{never_late, response_jobs}
use Rattle.theory.proofs.Analysis.Evaluation.{decided, all?}
use Rattle.theory.specs.Results.Examples.{quartet}
use Rattle.theory.proofs.Results.Examples.{quartet_accepted, quartet_rows}
use Rattle.theory.specs.Model.Chain.{HandOver, PathEnds}

-- The responses of the chain's two tasks: 3 and 1 in turn, and 5.
response_two : (k : ℕ) → response quartet 2 k + k % 2 * 2 ≡ 3
unfolding hyperperiod
response_two k = go (ℕ_discrete (k % 2) 0)
  where
    turn : response quartet 2 k ≡ response quartet 2 (k % 2)
    turn = response_jobs quartet_accepted 2 (omega arith) k

    go : Dec (k % 2 ≡ 0) → response quartet 2 k + k % 2 * 2 ≡ 3
    go (yes e) = omega (arith, turn, ap (response quartet 2) e, quartet_rows.2.each 0 (omega arith))
    go (no e) = omega (arith, turn, ap (response quartet 2) one, quartet_rows.2.each 1 (omega arith))
      where
        one : k % 2 ≡ 1
        one = omega (arith, mod-lt k {m = 2} (omega arith))

response_three : (k : ℕ) → response quartet 3 k ≡ 5
unfolding hyperperiod
response_three k =
    response_jobs quartet_accepted 3 (omega arith) k ∙ ap (response quartet 3) (mod-one k) ∙ quartet_rows.3.each 0 (omega arith)

budget_one : (i : ℕ) → i < 4 → budget quartet i ≡ 1
unfolding decide all? ℕ_discrete
budget_one = decided (all? 4 (λ i. budget quartet i ≡ 1) (λ i. ℕ_discrete (budget quartet i) 1)) tt

module _ {d : Demands} {run : Run} (w : Within quartet d) (s : Schedule quartet d run) where
  -- Every demand is 1, the budget, so the run is the full-budget schedule.
  demand_full : (i k : ℕ) → i < 4 → d i k ≡ full quartet i k
  demand_full i k l = omega (arith, w.least_one i k l, w.most_budget i k l, budget_one i l)

  full_run : Schedule quartet (full quartet) run
  full_run = schedule_same demand_full s

  pub quartet_run : (t : ℕ) → run t ≡ full_budget quartet t
  quartet_run = schedule_unique quartet_accepted.proper full_run

  finishes : (i k : ℕ) → i < 4 → Finishes d run i k (release quartet i k + response quartet i k)
  unfolding need
  finishes i k l =
      record {
        last = x.last;
        is_next = x.is_next;
        runs_last = x.runs_last;
        done_by = x.done_by ∙ sum_eq (suc k) _ _ (λ j m. sym (demand_full i j l));
      }
    where
      x : Finishes (full quartet) run i k (release quartet i k + response quartet i k)
      x = response_finishes quartet_accepted.proper i k l (never_late quartet_accepted i l k) full_run

  -- Task 3 finishes its job m at 6m + 5, and starts it a tick before.
  finishes_three : (m : ℕ) → Finishes d run 3 m (suc (m * 6 + 4))
  finishes_three m = subst (Finishes d run 3 m) (omega (arith, response_three m)) (finishes 3 m (omega arith))

  starts_three : (m : ℕ) → Starts d run 3 m (m * 6 + 4)
  starts_three m =
      record {
        runs_first = last;
        done_before = omega (arith, done_busy run 3 (m * 6 + 4) last, (finishes_three m).done_by, need_step d 3 m, demand_full 3 m (omega arith));
      }
    where
      last : run (m * 6 + 4) ≡ busy 3
      last = ap run (omega (arith, (finishes_three m).is_next)) ∙ (finishes_three m).runs_last

  -- So job k of task 2 hands over to job k / 2 of task 3.
  hand_over_lem : (k : ℕ) → HandOver d run 2 3 k (k / 2)
  hand_over_lem k = record {
    write = k * 3 + response quartet 2 k;
    finishes = finishes 2 k (omega arith);
    read = k / 2 * 6 + 4;
    starts = starts_three (k / 2);
    in_time = omega (arith, response_two k, div-add-mod' k 2, mod-lt k {m = 2} (omega arith));
    first = λ x t y h. omega (arith, start_unique y (starts_three x), response_two k, div-add-mod' k 2, mod-lt k {m = 2} (omega arith));
  }

  pub quartet_path : (k : ℕ) → PathEnds d run 2 (3 ∷ []) k (k / 2 * 6 + 5)
  quartet_path k = (k / 2, hand_over_lem k, subst (Finishes d run 3 (k / 2)) (omega arith) (finishes_three (k / 2)))
