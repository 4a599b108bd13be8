-- An outcome is computed by clearing times: the law that turns one evaluation into what the calls promise.
use Rattle.std.specs.Prelude.{◌≡◌, Bool, true, false, ltb, length}
use Rattle.std.proofs.Math.Path.{refl, ap, ap₂}
use Rattle.std.proofs.Common.{sym, ◌∙◌, arith, lt-ltb, le-ltb}
use mathlib.Core.List.{List, [], ◌++◌}
use Rattle.std.proofs.Math.Bool.{cond}
use Rattle.std.proofs.lemmas.Bool.{false≢true}
use Prim.Native.Nat.{ℕ, zero, suc, ◌≤◌, ◌<◌}
use Rattle.std.proofs.Math.Decide.{dec_le}
use Rattle.bits.specs.Bits.{list_of}
use Rattle.bits.specs.Lists.{list_of_same}
use Rattle.theory.specs.declared.Task.{Task}
use Rattle.arith.specs.Ranges.{maximum}
use Rattle.arith.specs.RangeLaws.{maximum_above, maximum_least}
use Rattle.theory.specs.Model.Schedule.{period, rank, Proper}
use Rattle.theory.specs.Model.Responses.{response, hyperperiod, jobs, all_jobs, task_response}
use Rattle.theory.specs.Model.Greatest.{outranking, greatest}
use Rattle.theory.specs.Analysis.Clearing.{clearing}
use Rattle.theory.proofs.Analysis.Clearing.{response_clearing, clearing_late, late_clearing}
use Rattle.theory.proofs.Analysis.Evaluation.{sampling_clearing, sampling_release_clearing, bound_clearing}
use Rattle.theory.specs.Model.Chain.{Chain, sampling, sampling_release, bound}
use Rattle.sheet.specs.declared.Sheet.{Sheet}
use Rattle.answers.specs.Answers.{Answer, given, refused, Judgement, fine, when, after, also}
use Rattle.sheet.specs.Calls.{judge_of}
use Rattle.sheet.specs.SoundLaws.{judged_sound}
use Rattle.sheet.specs.Tasks.{tasks_of, lacks, chain_of, first_of, rest_of}
use Rattle.sheet.specs.Lateness.{lateness}
use Rattle.sheet.specs.TaskLaws.{sound_proper, chain_known}
use Rattle.schedule.specs.Calls.{most_ticks, most_jobs, late_task, late_greatest, sizes_of, responses_of, rows}
use Rattle.schedule.specs.Lateness.{job_late, late_job}
use Rattle.chain.specs.Calls.{figure_of, quick_bound, summary_at, figures_of}
use Rattle.nine.specs.Outcome.{Figures, outcome_of}

-- ---- by clearing times

-- a task is late when the greatest of its clearing times passes its period
abbrev late_by : List Task → ℕ → Bool
late_by ts i = ltb (period ts i) (maximum (jobs ts i) (clearing ts i))

unfoldable pub rows_by : List Task → ℕ → List ℕ
rows_by ts zero = []
rows_by ts (suc n) = rows_by ts n ++ list_of (jobs ts n) (clearing ts n)

abbrev figures_by : List Task → ℕ → List ℕ → Figures
figures_by ts p rest = record {
  table = rows_by ts (length ts);
  sampling = sampling ts (clearing ts) p rest;
  release = sampling_release ts (clearing ts) p rest;
  bound = bound ts (λ i. maximum (jobs ts i) (clearing ts i)) p rest;
}

unfoldable pub computed_of : Sheet → Answer Figures
computed_of s =
    let ts = tasks_of s in
    also (judge_of s)
    (also (lacks s 1)
    (also (when (ltb most_ticks (hyperperiod ts)) 10)
    (also (when (ltb most_jobs (all_jobs ts)) 11)
    (also (when (ltb most_jobs (all_jobs ts)) 14)
    (also (lateness (greatest (rank ts) (late_by ts) (length ts)))
    (given (figures_by ts (first_of (chain_of s 1)) (rest_of (chain_of s 1)))))))))

-- ---- they are the definitions'

module _ {ts : List Task} (good : Proper ts) where
  rows_cleared : (n : ℕ) → n ≤ length ts → rows ts n ≡ rows_by ts n
  unfolding rows rows_by
  rows_cleared zero h = refl
  rows_cleared (suc n) h =
      ap₂ ◌++◌ (rows_cleared n (omega arith)) (list_of_same (jobs ts n) (response ts n) (clearing ts n) (λ k l. response_clearing good n k (omega arith)))

  late_cleared : (i : ℕ) → i < length ts → late_task ts i ≡ late_by ts i
  late_cleared i known = go (late_task ts i) refl
    where
      go : (b : Bool) → late_task ts i ≡ b → b ≡ late_by ts i
      go true e =
          let x = late_job ts i e in
          sym (lt-ltb (period ts i) (maximum (jobs ts i) (clearing ts i)) (omega (arith, late_clearing good i x.0 known x.2, maximum_above (jobs ts i) (clearing ts i) x.0 x.1)))
      go false e = sym (le-ltb (period ts i) (maximum (jobs ts i) (clearing ts i)) (maximum_least (jobs ts i) (clearing ts i) (period ts i) (λ k l. within k l (dec_le (clearing ts i k) (period ts i)))))
        where
          within : (k : ℕ) → k < jobs ts i → Dec (clearing ts i k ≤ period ts i) → clearing ts i k ≤ period ts i
          within k l (yes h) = h
          within k l (no h) = absurd (false≢true (sym e ∙ job_late ts i k l (clearing_late good i k known (omega arith))))

  greatest_cleared : (n : ℕ) → n ≤ length ts → late_greatest ts n ≡ greatest (rank ts) (late_by ts) n
  unfolding greatest
  greatest_cleared zero h = refl
  greatest_cleared (suc n) h = ap₂ (λ b x. cond b (outranking (rank ts) n x) x) (late_cleared n (omega arith)) (greatest_cleared n (omega arith))

  figures_cleared : (p : ℕ) (rest : List ℕ) → Chain ts p rest
      → record { table = rows ts (length ts); sampling = sampling ts (response ts) p rest; release = sampling_release ts (response ts) p rest; bound = bound ts (task_response ts) p rest } ≡ figures_by ts p rest
  figures_cleared p rest chain =
      ap₂ (λ t w. record { table = t; sampling = w; release = sampling_release ts (response ts) p rest; bound = bound ts (task_response ts) p rest })
      (rows_cleared (length ts) (omega arith)) (sampling_clearing good p rest chain)
      ∙ ap₂ (λ r b. record { table = rows_by ts (length ts); sampling = sampling ts (clearing ts) p rest; release = r; bound = b })
      (sampling_release_clearing good p rest chain) (bound_clearing good p rest chain)

-- ---- and so are the outcomes

-- a part of what is given is given
part : {A B C : Type 0} (a : Answer A) (f : A → B) (g : B → C) → after (after a (λ x. given (f x))) (λ y. given (g y)) ≡ after a (λ x. given (g (f x)))
part (given x) f g = refl
part (refused number values) f g = refl

also_after : {A B : Type 0} (j : Judgement) (a : Answer A) (f : A → Answer B) → after (also j a) f ≡ also j (after a f)
also_after (given u) a f = refl
also_after (refused number values) a f = refl

also_into : {A B C : Type 0} (j : Judgement) (a : Answer A) (f : A → Answer B) (g : B → Answer C) → after (after (also j a) f) g ≡ also j (after (after a f) g)
also_into (given u) a f g = refl
also_into (refused number values) a f g = refl

-- the fields are judged before the chain's number, and again with the rest
named_first : {A B : Type 0} (j k : Judgement) (a : Answer A) (g : A → Answer B) (b : Answer B) → after a g ≡ also j b → after (also (also j k) a) g ≡ also j (also k b)
named_first (given u) (given v) a g b e = e
named_first (given u) (refused number values) a g b e = refl
named_first (refused number values) k a g b e = refl

-- what is fine so far decides what is asked next
also_fine : {A : Type 0} (j : Judgement) (a b : Answer A) → (j ≡ fine → a ≡ b) → also j a ≡ also j b
also_fine (given tt) a b h = h refl
also_fine (refused number values) a b h = refl

module _ (s : Sheet) where
  abbrev ts : List Task
  ts = tasks_of s

  abbrev late : Judgement
  late = lateness (late_greatest ts (length ts))

  figures : Figures
  figures = record {
    table = rows ts (length ts);
    sampling = (figure_of ts (chain_of s 1)).ticks;
    release = (figure_of ts (chain_of s 1)).release;
    bound = quick_bound ts (chain_of s 1);
  }

  outcome_judged :
      outcome_of s
      ≡ also (judge_of s)
      (also (lacks s 1)
      (also (when (ltb most_ticks (hyperperiod ts)) 10)
      (also (when (ltb most_jobs (all_jobs ts)) 11)
      (also (when (ltb most_jobs (all_jobs ts)) 14)
      (also late (given figures))))))
  unfolding outcome_of figures_of responses_of sizes_of figures
  outcome_judged =
      named_first (judge_of s) (lacks s 1) _ _ _
      (part (responses_of s most_jobs) (summary_at s 1) (λ x. record { table = rows ts (length ts); sampling = x.sampling.ticks; release = x.sampling.release; bound = x.sampling_bound })
      ∙ also_into (judge_of s) _ _ _
      ∙ ap (also (judge_of s)) (also_into (when (ltb most_ticks (hyperperiod ts)) 10) _ _ _
      ∙ ap (also (when (ltb most_ticks (hyperperiod ts)) 10)) (also_into (when (ltb most_jobs (all_jobs ts)) 11) _ _ _
      ∙ ap (also (when (ltb most_jobs (all_jobs ts)) 11)) (also_after (when (ltb most_jobs (all_jobs ts)) 14) _ _
      ∙ ap (also (when (ltb most_jobs (all_jobs ts)) 14)) (also_after late _ _)))))

pub outcome_computed : (s : Sheet) → outcome_of s ≡ computed_of s
unfolding computed_of figures
outcome_computed s =
    outcome_judged s
    ∙ also_fine (judge_of s) _ _ (λ e.
    also_fine (lacks s 1) _ _ (λ known.
    let good = sound_proper _ (judged_sound s e) in
    ap₂ (λ x y. also (when (ltb most_ticks (hyperperiod (tasks_of s))) 10) (also (when (ltb most_jobs (all_jobs (tasks_of s))) 11) (also (when (ltb most_jobs (all_jobs (tasks_of s))) 14) (also (lateness x) (given y)))))
    (greatest_cleared good (length (tasks_of s)) (omega arith))
    (figures_cleared good (first_of (chain_of s 1)) (rest_of (chain_of s 1)) (chain_known _ (judged_sound s e) 1 known))))
