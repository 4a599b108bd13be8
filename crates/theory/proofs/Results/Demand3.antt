-- Demand 3 from a release: no schedule exceeds the sampling figure, the figure never exceeds the quick bound, and where ranks rise along the chain it is reached.
-- The theorems follow paths; 2 says what the end of a path carries.
use Rattle.std.specs.Prelude.{◌≡◌, List, [], ◌∷◌, ℕ, ◌+◌, ◌*◌, ◌/◌, ◌≤◌}
use Rattle.std.proofs.Common.{ap, subst, le_refl, div-mul-le_self, arith}
use Rattle.theory.specs.declared.Task.{Task}
use Rattle.theory.specs.Model.Schedule.{period, release, Demands, Within, Run, Schedule}
use Rattle.theory.specs.Model.Responses.{full, full_budget, response, hyperperiod, task_response, Accepted}
use Rattle.theory.proofs.Analysis.Repetition.{response_again, response_greatest}
use Rattle.theory.specs.Model.Chain.{Chain, outranked, delay, sampling, sampling_release, bound, PathEnds, Rising}
use Rattle.theory.specs.Model.Readings.{Carries, Arrives}
use Rattle.theory.proofs.Analysis.ReadingLaws.{carries_order, path_first, path_carries}
use Rattle.theory.proofs.Analysis.WalkLaws.{walk_worst_of_all, walk_worst_bound}
use Rattle.theory.proofs.Analysis.Hyperperiod.{hyperperiod_cycle}
use Rattle.theory.proofs.Analysis.Paths.{path_unique, path_within, path_exists, path_exact}
use Rattle.theory.specs.Results.Examples.{quartet}
use Rattle.theory.proofs.Results.Examples.{quartet_chain}
use Rattle.theory.proofs.Results.Quartet.{quartet_run, quartet_path}
use Rattle.theory.specs.Results.Overtaken.{pair}
use Rattle.theory.proofs.Results.Overtaken.{pair_path, pair_carries, pair_lost}
use Rattle.theory.specs.Results.Demand3.{GreatestDelay}

figure_greatest : {ts : List Task} → Accepted ts → (p : ℕ) (rest : List ℕ) → Chain ts p rest
    → GreatestDelay ts p rest (sampling ts (response ts) p rest) (sampling_release ts (response ts) p rest)
unfolding delay sampling sampling_release
figure_greatest {ts} accepted =
    walk_worst_of_all (hyperperiod_cycle accepted.proper) (outranked ts) (response ts) (λ i k l. response_again accepted i l k)

-- 1. No schedule exceeds the figure. For every accepted sheet, all demands of 1 to C, every run that is a schedule for them and every job
-- of the chain's first task: its path exists, and ends no later than the sampling figure after its release.
pub no_schedule_exceeds :
    (ts : List Task) (accepted : Accepted ts) (p : ℕ) (rest : List ℕ) (chain : Chain ts p rest)
    (d : Demands) (within : Within ts d) (run : Run) (schedule : Schedule ts d run) (k : ℕ)
    → ((f : ℕ) × PathEnds d run p rest k f) × ((f : ℕ) → PathEnds d run p rest k f → f ≤ release ts p k + sampling ts (response ts) p rest)
no_schedule_exceeds ts accepted p rest chain d within run schedule k = (
  path_exists accepted schedule within p rest chain k,
  λ f path. omega (arith, path_within accepted schedule within p rest chain k k f (le_refl _) path, (figure_greatest accepted p rest chain).greatest k),
)

-- 2. The end of a path is where its reading arrives, or a newer one. For all demands of 1 to C, every run and every path in it: the write that
-- ends the path is the first that carries the reading of the path's first job or of a later one of its task, and no later write carries an
-- older reading.
pub path_arrives :
    (ts : List Task) (p : ℕ) (rest : List ℕ) (chain : Chain ts p rest) (d : Demands) (within : Within ts d) (run : Run)
    (k f : ℕ) (path : PathEnds d run p rest k f)
    → Arrives d run p rest k f
path_arrives ts p rest chain d within run k f path =
    let x = path_carries within run p rest chain k f path in record {
      source = x.0;
      carries = x.1;
      newer = x.2;
      none_earlier = λ j g y h. path_first d run p rest j k f g path y h;
      none_older = λ j g y h. omega (arith, x.2, carries_order within run p rest chain x.0 j f g x.1 y h);
    }

-- 3. No reading is late, unless a newer one is in its place. For every accepted sheet, all demands of 1 to C, every run that is a schedule for
-- them and every job of the chain's first task: its reading or a newer one arrives, no later than the sampling figure after its release.
pub reading_arrives :
    (ts : List Task) (accepted : Accepted ts) (p : ℕ) (rest : List ℕ) (chain : Chain ts p rest)
    (d : Demands) (within : Within ts d) (run : Run) (schedule : Schedule ts d run) (k : ℕ)
    → (f : ℕ) × Arrives d run p rest k f × (f ≤ release ts p k + sampling ts (response ts) p rest)
reading_arrives ts accepted p rest chain d within run schedule k =
    let x = no_schedule_exceeds ts accepted p rest chain d within run schedule k in
    (x.0.0, path_arrives ts p rest chain d within run k x.0.0 x.0.1, x.1 x.0.0 x.0.1)

-- 4. The figure never exceeds the quick bound.
pub sampling_within_bound :
    (ts : List Task) (accepted : Accepted ts) (p : ℕ) (rest : List ℕ) (chain : Chain ts p rest)
    → sampling ts (response ts) p rest ≤ bound ts (task_response ts) p rest
unfolding sampling bound
sampling_within_bound ts accepted p rest chain =
    walk_worst_bound accepted.proper.period_positive (outranked ts) (response ts) (task_response ts)
    (λ i k l. response_greatest accepted i l k) (hyperperiod ts) p rest chain

-- 5. Where each task on the chain outranks the one before it, the full-budget schedule reaches the figure: the path from the job
-- at the release that goes with it ends exactly the figure after that release, and by 2 neither its reading nor a newer one arrives before.
pub sampling_reached :
    (ts : List Task) (accepted : Accepted ts) (p : ℕ) (rest : List ℕ) (chain : Chain ts p rest) (rising : Rising ts p rest)
    (run : Run) (schedule : Schedule ts (full ts) run)
    → PathEnds (full ts) run p rest (sampling_release ts (response ts) p rest / period ts p)
    (sampling_release ts (response ts) p rest + sampling ts (response ts) p rest)
sampling_reached ts accepted p rest chain rising run schedule =
    subst (PathEnds (full ts) run p rest k) (omega (arith, figure.first_task, ap (delay ts (response ts) p rest) figure.first_task, figure.given))
    (path_exact accepted schedule p rest chain rising k)
  where
    k : ℕ
    k = sampling_release ts (response ts) p rest / period ts p

    figure : GreatestDelay ts p rest (sampling ts (response ts) p rest) (sampling_release ts (response ts) p rest)
    figure = figure_greatest accepted p rest chain

-- 6. The figure is the greatest delay over all releases of the first task, not only those before H, and its release the smallest that gives it.
pub sampling_of_all :
    (ts : List Task) (accepted : Accepted ts) (p : ℕ) (rest : List ℕ) (chain : Chain ts p rest)
    → GreatestDelay ts p rest (sampling ts (response ts) p rest) (sampling_release ts (response ts) p rest)
sampling_of_all ts accepted p rest chain = figure_greatest accepted p rest chain

-- 7. The figure need not be reached. Quartet has one schedule, whatever the demands within its budgets of 1; its longest delay is 5,
-- from release 0, where the figure is 8.
pub quartet_not_reached :
    (d : Demands) (within : Within quartet d) (run : Run) (schedule : Schedule quartet d run)
    → ((t : ℕ) → run t ≡ full_budget quartet t)
    × PathEnds d run 2 (3 ∷ []) 0 5
    × ((k f : ℕ) → PathEnds d run 2 (3 ∷ []) k f → f ≤ release quartet 2 k + 5)
    × (sampling quartet (response quartet) 2 (3 ∷ []) ≡ 8)
quartet_not_reached d within run schedule =
    (quartet_run within schedule, quartet_path within schedule 0, longest, quartet_chain.is_sampling)
  where
    longest : (k f : ℕ) → PathEnds d run 2 (3 ∷ []) k f → f ≤ release quartet 2 k + 5
    longest k f path =
        omega (arith, path_unique d run 2 (3 ∷ []) k f (k / 2 * 6 + 5) path (quartet_path within schedule k), div-mul-le_self k 2)

-- 8. A path may be overtaken. With the tasks (2,1,1) and (10,1,2) and the chain 0 1 the path from job 0 ends at 11 with a write that carries
-- the reading of job 4, and no write ever carries that of job 0.
pub pair_overtaken :
    PathEnds (full pair) (full_budget pair) 0 (1 ∷ []) 0 11
    × Carries (full pair) (full_budget pair) 0 (1 ∷ []) 4 11
    × ((f : ℕ) → ¬ (Carries (full pair) (full_budget pair) 0 (1 ∷ []) 0 f))
pair_overtaken = (pair_path, pair_carries, pair_lost)
