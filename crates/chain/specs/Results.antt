-- Demand 3 in the words of the calls: what an answer says of every schedule of the sheet's tasks, whatever the demands of 1 to C; from a
-- release, and from a flag that is raised at any tick.
use Rattle.std.specs.Prelude.{◌≡◌, List, ℕ, ◌+◌, ◌-◌, ◌/◌, ◌%◌, ◌≤◌, ◌<◌, ℤ, pos, length, get_or, ◌≤ℤ◌, Ok}
use Rattle.std.proofs.Common.{sym, ap, ◌∙◌, subst, le_refl, div-add-mod', arith}
use Rattle.theory.specs.declared.Task.{Task}
use Rattle.theory.specs.Model.Schedule.{period, release, Demands, Within, Run, Schedule}
use Rattle.theory.specs.Model.Responses.{full, response, hyperperiod}
use Rattle.theory.proofs.Analysis.Repetition.{response_again}
use Rattle.theory.specs.Model.Chain.{delay, sampling, PathEnds, Rising}
use Rattle.theory.specs.Model.Readings.{Arrives}
use Rattle.theory.proofs.Analysis.ChainLaws.{delay_turns}
use Rattle.theory.proofs.Analysis.Paths.{path_within, path_exists, path_exact}
use Rattle.theory.specs.Model.Flag.{FlagWithin}
use Rattle.theory.proofs.Analysis.FlagLaws.{flag_later}
use Rattle.theory.proofs.Results.Flags.{no_flag_exceeds}
use Rattle.theory.proofs.Results.Demand3 as demand
use Rattle.theory.specs.Results.Demand3.{GreatestDelay}
use Rattle.sheet.specs.declared.Sheet.{Sheet}
use Rattle.answers.specs.Answers.{given, fine, after}
use Rattle.answers.specs.AnswerLaws.{when_fine}
use Rattle.sheet.specs.PlaceLaws.{places_taken}
use Rattle.sheet.specs.SoundLaws.{inside, judged_sound}
use Rattle.sheet.specs.Tasks.{tasks_of, chain_count, lacks, chain_of, first_of, rest_of}
use Rattle.sheet.specs.TaskLaws.{chains_most}
use Rattle.schedule.specs.declared.answer.Totals.{Totals}
use Rattle.schedule.specs.Calls.{responses_of}
use Rattle.schedule.specs.Results.{responses_given}
use Rattle.chain.specs.declared.answer.Suite.{Suite}
use Rattle.chain.specs.declared.answer.Summary.{Summary}
use Rattle.chain.specs.Calls.{report_limit, summary_at, no_summary, report_of, delay_of, margin_of, figures_of}
use Rattle.chain.specs.Conditions.{TakenChain}
use Rattle.chain.specs.MarginLaws.{kept_within}
use Rattle.chain.specs.ReleaseLaws.{job_release}
use Rattle.chain.specs.CallLaws.{figures_known, margin_asked, delay_release, delay_given, figures_given, suite_given, margin_given}
use Rattle.chain.specs.Promises.{SuitePromise}

-- ---- the words

-- The calls answer, for a sheet and a table of `room` entries: `delay` t at a release, `figures` x, `margin` z under a limit.
abbrev pub DelayAnswers : Sheet → ℕ → ℕ → ℕ → ℕ → Type 0
DelayAnswers s number at room t = delay_of s number at room ≡ given t

abbrev pub FiguresAnswers : Sheet → ℕ → ℕ → Summary → Type 0
FiguresAnswers s number room x = figures_of s number room ≡ given x

abbrev pub MarginAnswers : Sheet → ℕ → ℕ → ℕ → ℤ → Type 0
MarginAnswers s number limit room z = margin_of s number limit room ≡ given z

-- The release of job k of a chain's first task.
abbrev pub first_release : List Task → List ℕ → ℕ → ℕ
first_release ts chain k = release ts (first_of chain) k

-- In a run the path along a chain, from job k of its first task, ends at f.
abbrev pub ChainPath : List ℕ → Demands → Run → ℕ → ℕ → Type 0
ChainPath chain d run k f = PathEnds d run (first_of chain) (rest_of chain) k f

-- That path exists, and ends no later than `ticks` after the job's release.
pub record PathWithin (ts : List Task) (chain : List ℕ) (d : Demands) (run : Run) (k ticks : ℕ) : Type 0 where
  pub exists : (f : ℕ) × ChainPath chain d run k f
  pub ends : (f : ℕ) → ChainPath chain d run k f → f ≤ first_release ts chain k + ticks

-- In a run the reading of job k of a chain's first task, or a newer one, arrives at the chain's end at f.
abbrev pub ReadingArrives : List ℕ → Demands → Run → ℕ → ℕ → Type 0
ReadingArrives chain d run k f = Arrives d run (first_of chain) (rest_of chain) k f

-- In a run a flag raised at e is stamped at the chain's end within `ticks`: the job that takes it, its path, and the reading that arrives.
abbrev pub FlagStamped : List ℕ → Demands → Run → ℕ → ℕ → Type 0
FlagStamped chain d run e ticks = FlagWithin d run (first_of chain) (rest_of chain) e ticks

-- Each task on a chain outranks the one before it.
abbrev pub RanksRise : List Task → List ℕ → Type 0
RanksRise ts chain = Rising ts (first_of chain) (rest_of chain)

-- ---- a chain

path_later : {ts : List Task} {chain : List ℕ} {d : Demands} {run : Run} {k ticks more : ℕ} → ticks ≤ more → PathWithin ts chain d run k ticks → PathWithin ts chain d run k more
path_later l x = record { exists = x.exists; ends = λ f path. omega (arith, x.ends f path) }

module _ {ts : List Task} {chain : List ℕ} (taken : TakenChain ts chain) where
  abbrev p : ℕ
  p = first_of chain

  abbrev rest : List ℕ
  rest = rest_of chain

  path_delay : {d : Demands} → Within ts d → {run : Run} → Schedule ts d run → (k : ℕ) → PathWithin ts chain d run k (delay ts (response ts) p rest (release ts p k))
  path_delay within schedule k = record {
    exists = path_exists taken.tasks.accepted schedule within p rest taken.known k;
    ends = λ f path. path_within taken.tasks.accepted schedule within p rest taken.known k k f (le_refl _) path;
  }

  path_sampling : {d : Demands} → Within ts d → {run : Run} → Schedule ts d run → (k : ℕ) → PathWithin ts chain d run k (sampling ts (response ts) p rest)
  path_sampling {d} within {run} schedule k =
      let x = demand.no_schedule_exceeds ts taken.tasks.accepted p rest taken.known d within run schedule k in record { exists = x.0; ends = x.1 }

  delay_modulo : (r at : ℕ) → r % hyperperiod ts ≡ at → delay ts (response ts) p rest r ≡ delay ts (response ts) p rest at
  delay_modulo r at e =
      ap (delay ts (response ts) p rest) (omega (arith, div-add-mod' r (hyperperiod ts)))
      ∙ delay_turns taken.tasks.accepted.proper (response ts) (λ i k l. response_again taken.tasks.accepted i l k) p rest at (r / hyperperiod ts) taken.known

-- ---- `figures`, from a release

-- No schedule exceeds the sampling figure. If `figures` answers x, then for all demands of 1 to C, every run that is a schedule for them and
-- every job of the chain's first task the path from it exists, and ends no later than the sampling figure of x after the job's release.
pub no_schedule_exceeds_sampling :
    (s : Sheet) (number room : ℕ) (x : Summary) (answer : FiguresAnswers s number room x)
    (d : Demands) (within : Within (tasks_of s) d) (run : Run) (schedule : Schedule (tasks_of s) d run) (k : ℕ)
    → PathWithin (tasks_of s) (chain_of s number) d run k x.sampling.ticks
no_schedule_exceeds_sampling s number room x answer d within run schedule k =
    let g = figures_given s number room answer in rw g.sampling_is (path_sampling g.taken within schedule k)

-- No reading is late, unless a newer one is in its place. If `figures` answers x, then for all demands of 1 to C, every run that is a schedule
-- for them and every job of the chain's first task its reading or a newer one arrives, no later than the sampling figure after the job's release.
pub reading_arrives_within_sampling :
    (s : Sheet) (number room : ℕ) (x : Summary) (answer : FiguresAnswers s number room x)
    (d : Demands) (within : Within (tasks_of s) d) (run : Run) (schedule : Schedule (tasks_of s) d run) (k : ℕ)
    → (f : ℕ) × ReadingArrives (chain_of s number) d run k f × (f ≤ first_release (tasks_of s) (chain_of s number) k + x.sampling.ticks)
reading_arrives_within_sampling s number room x answer d within run schedule k =
    let g = figures_given s number room answer in
    rw g.sampling_is (demand.reading_arrives (tasks_of s) g.taken.tasks.accepted (first_of (chain_of s number)) (rest_of (chain_of s number)) g.taken.known d within run schedule k)

-- The sampling figure never exceeds its quick bound,
pub sampling_within_bound : (s : Sheet) (number room : ℕ) (x : Summary) (answer : FiguresAnswers s number room x) → x.sampling.ticks ≤ x.sampling_bound
sampling_within_bound s number room x answer =
    let g = figures_given s number room answer in
    rw (g.sampling_is, g.quick_is) (demand.sampling_within_bound (tasks_of s) g.taken.tasks.accepted (first_of (chain_of s number)) (rest_of (chain_of s number)) g.taken.known)

-- so no schedule exceeds the bound either.
pub no_schedule_exceeds_bound :
    (s : Sheet) (number room : ℕ) (x : Summary) (answer : FiguresAnswers s number room x)
    (d : Demands) (within : Within (tasks_of s) d) (run : Run) (schedule : Schedule (tasks_of s) d run) (k : ℕ)
    → PathWithin (tasks_of s) (chain_of s number) d run k x.sampling_bound
no_schedule_exceeds_bound s number room x answer d within run schedule k =
    path_later (sampling_within_bound s number room x answer) (no_schedule_exceeds_sampling s number room x answer d within run schedule k)

-- The sampling figure is the greatest delay over all releases of the first task, not only those before H, and its release the smallest that
-- gives it.
pub sampling_is_greatest :
    (s : Sheet) (number room : ℕ) (x : Summary) (answer : FiguresAnswers s number room x)
    → GreatestDelay (tasks_of s) (first_of (chain_of s number)) (rest_of (chain_of s number)) x.sampling.ticks x.sampling.release
sampling_is_greatest s number room x answer =
    let g = figures_given s number room answer in
    rw g.sampling_is (demand.sampling_of_all (tasks_of s) g.taken.tasks.accepted (first_of (chain_of s number)) (rest_of (chain_of s number)) g.taken.known)

-- Where ranks rise along the chain, the full-budget schedule reaches it: the path from the job released there takes exactly as long.
pub sampling_is_reached :
    (s : Sheet) (number room : ℕ) (x : Summary) (answer : FiguresAnswers s number room x) (rising : RanksRise (tasks_of s) (chain_of s number))
    (run : Run) (schedule : Schedule (tasks_of s) (full (tasks_of s)) run)
    → (k : ℕ) × (first_release (tasks_of s) (chain_of s number) k ≡ x.sampling.release)
    × ChainPath (chain_of s number) (full (tasks_of s)) run k (x.sampling.release + x.sampling.ticks)
sampling_is_reached s number room x answer rising run schedule =
    let g = figures_given s number room answer in (
      x.sampling.release / period (tasks_of s) (first_of (chain_of s number)),
      (sampling_is_greatest s number room x answer).first_task,
      rw g.sampling_is (demand.sampling_reached (tasks_of s) g.taken.tasks.accepted (first_of (chain_of s number)) (rest_of (chain_of s number)) g.taken.known rising run schedule),
    )

-- ---- `figures`, from a flag on

-- No flag exceeds the worst. If `figures` answers x, then for all demands of 1 to C, every run that is a schedule for them and every tick e
-- there is a first job of the chain's first task that starts at or after e; the path from it exists, and ends no later than the worst of x
-- after e; and the reading that arrives there stems from a job that started at or after e.
pub no_flag_exceeds_worst :
    (s : Sheet) (number room : ℕ) (x : Summary) (answer : FiguresAnswers s number room x)
    (d : Demands) (within : Within (tasks_of s) d) (run : Run) (schedule : Schedule (tasks_of s) d run) (e : ℕ)
    → FlagStamped (chain_of s number) d run e x.worst
no_flag_exceeds_worst s number room x answer d within run schedule e =
    let g = figures_given s number room answer in
    rw (g.worst_is, g.sampling_is) (no_flag_exceeds (tasks_of s) g.taken.tasks.accepted (first_of (chain_of s number)) (rest_of (chain_of s number)) g.taken.known d within run schedule e)

-- The worst never exceeds the bound,
pub worst_within_bound : (s : Sheet) (number room : ℕ) (x : Summary) (answer : FiguresAnswers s number room x) → x.worst ≤ x.bound
worst_within_bound s number room x answer =
    let g = figures_given s number room answer in omega (arith, g.worst_is, g.bound_is, sampling_within_bound s number room x answer)

-- so no flag exceeds the bound either.
pub no_flag_exceeds_bound :
    (s : Sheet) (number room : ℕ) (x : Summary) (answer : FiguresAnswers s number room x)
    (d : Demands) (within : Within (tasks_of s) d) (run : Run) (schedule : Schedule (tasks_of s) d run) (e : ℕ)
    → FlagStamped (chain_of s number) d run e x.bound
no_flag_exceeds_bound s number room x answer d within run schedule e =
    flag_later (worst_within_bound s number room x answer) (no_flag_exceeds_worst s number room x answer d within run schedule e)

-- ---- `figures` and its neighbours

-- H, J and idle are those that `responses` answers, and the margin is that of `margin` under the report's limit: what is said of these holds
-- of the one answer too.
pub figures_totals : (s : Sheet) (number room : ℕ) (x : Summary) (answer : FiguresAnswers s number room x) → responses_of s room ≡ given x.totals
figures_totals s number room x answer = (figures_given s number room answer).totals_are

pub figures_margin : (s : Sheet) (number room : ℕ) (x : Summary) (answer : FiguresAnswers s number room x) → MarginAnswers s number (report_limit s number) room x.margin
figures_margin s number room x answer =
    let g = figures_given s number room answer in
    margin_asked s number room (report_limit s number) g.limit_most ∙ rw (answer) (ap given (sym g.margin_is))

-- What `suite` answers for a chain is what `figures` answers for its number.
pub suite_figures : (s : Sheet) (old : List ℕ) (x : Suite) (table : List ℕ) (promise : SuitePromise s old (Ok x) table)
    (number : ℕ) (known : lacks s number ≡ fine) → FiguresAnswers s number (length old) (get_or x.chains (number - 1) no_summary)
suite_figures s old x table promise number known =
    figures_known s number known (length old) ∙ ap (λ a. after a (λ totals. given (summary_at s number totals))) filled.1 ∙ ap given (sym place)
  where
    filled : (totals : Totals) × (responses_of s (length old) ≡ given totals) × (report_of s totals ≡ x)
    filled = suite_given s (length old) (sym promise.0)

    totals : Totals
    totals = filled.0

    count : (1 ≤ number) × (number ≤ chain_count s)
    count = inside 1 (chain_count s) number (when_fine _ 17 known)

    place : get_or x.chains (number - 1) no_summary ≡ summary_at s number totals
    place =
        ap (λ (x : Suite). get_or x.chains (number - 1) no_summary) (sym filled.2)
        ∙ places_taken 8 no_summary (λ c. summary_at s (c + 1) totals) (chain_count s) no_summary (number - 1) (omega (arith, count))
        (omega (arith, count, chains_most _ (judged_sound s (responses_given s (length old) filled.1).judged_fine)))
        ∙ ap (λ n. summary_at s n totals) (omega (arith, count))

-- ---- `delay`

-- If `delay` answers t at a release, then in every schedule the path from the job released there, and from any job released there
-- modulo H, exists and ends no later than t after that job's release.
pub no_schedule_exceeds_delay :
    (s : Sheet) (number at room t : ℕ) (answer : DelayAnswers s number at room t)
    (d : Demands) (within : Within (tasks_of s) d) (run : Run) (schedule : Schedule (tasks_of s) d run)
    (k : ℕ) (released : first_release (tasks_of s) (chain_of s number) k % hyperperiod (tasks_of s) ≡ at)
    → PathWithin (tasks_of s) (chain_of s number) d run k t
no_schedule_exceeds_delay s number at room t answer d within run schedule k released =
    let g = delay_given s number at room answer in
    subst (PathWithin (tasks_of s) (chain_of s number) d run k) (delay_modulo g.0 (first_release (tasks_of s) (chain_of s number) k) at released ∙ g.1) (path_delay g.0 within schedule k)

-- There is such a job: the release is one of the first task's.
pub delay_has_job : (s : Sheet) (number at room t : ℕ) (answer : DelayAnswers s number at room t) → (k : ℕ) × (first_release (tasks_of s) (chain_of s number) k ≡ at)
delay_has_job s number at room t answer =
    (at / period (tasks_of s) (first_of (chain_of s number)), job_release (tasks_of s) (first_of (chain_of s number)) at (delay_release s number at room answer))

-- Where ranks rise along the chain, the full-budget schedule's path from that job takes exactly t.
pub delay_is_reached :
    (s : Sheet) (number at room t : ℕ) (answer : DelayAnswers s number at room t) (rising : RanksRise (tasks_of s) (chain_of s number))
    (run : Run) (schedule : Schedule (tasks_of s) (full (tasks_of s)) run)
    (k : ℕ) (released : first_release (tasks_of s) (chain_of s number) k % hyperperiod (tasks_of s) ≡ at)
    → ChainPath (chain_of s number) (full (tasks_of s)) run k (first_release (tasks_of s) (chain_of s number) k + t)
delay_is_reached s number at room t answer rising run schedule k released =
    let g = delay_given s number at room answer in
    subst (λ x. ChainPath (chain_of s number) (full (tasks_of s)) run k (first_release (tasks_of s) (chain_of s number) k + x))
    (delay_modulo g.0 (first_release (tasks_of s) (chain_of s number) k) at released ∙ g.1)
    (path_exact g.0.tasks.accepted schedule (first_of (chain_of s number)) (rest_of (chain_of s number)) g.0.known rising k)

-- ---- `margin`

-- A margin that is not below zero leaves room for the worst.
margin_within : (s : Sheet) (number limit room : ℕ) {z : ℤ} (answer : margin_of s number limit room ≡ given z) → pos 0 ≤ℤ z → (margin_given s number limit room answer).0.worst ≤ limit
margin_within s number limit room answer kept =
    let g = margin_given s number limit room answer in kept_within limit g.0.worst (subst (λ x. pos 0 ≤ℤ x) (sym g.2) kept)

-- The sign tells whether the limit is kept. If the margin is not below zero, every flag in every schedule is stamped within the limit,
pub margin_keeps :
    (s : Sheet) (number limit room : ℕ) (z : ℤ) (answer : MarginAnswers s number limit room z) (kept : pos 0 ≤ℤ z)
    (d : Demands) (within : Within (tasks_of s) d) (run : Run) (schedule : Schedule (tasks_of s) d run) (e : ℕ)
    → FlagStamped (chain_of s number) d run e limit
margin_keeps s number limit room z answer kept d within run schedule e =
    let g = margin_given s number limit room answer in
    flag_later (margin_within s number limit room answer kept) (no_flag_exceeds_worst s number room g.0 g.1 d within run schedule e)

-- and so every path keeps it, from the release of its first job on.
pub margin_keeps_paths :
    (s : Sheet) (number limit room : ℕ) (z : ℤ) (answer : MarginAnswers s number limit room z) (kept : pos 0 ≤ℤ z)
    (d : Demands) (within : Within (tasks_of s) d) (run : Run) (schedule : Schedule (tasks_of s) d run) (k : ℕ)
    → PathWithin (tasks_of s) (chain_of s number) d run k limit
margin_keeps_paths s number limit room z answer kept d within run schedule k =
    let g = margin_given s number limit room answer in
    path_later (omega (arith, margin_within s number limit room answer kept, (figures_given s number room g.1).worst_is))
    (no_schedule_exceeds_sampling s number room g.0 g.1 d within run schedule k)

-- Where ranks rise along the chain, a limit below the sampling figure is exceeded by a path of the full-budget schedule. Of a limit between
-- the sampling figure and the worst nothing is said: the worst need not be reached.
pub limit_exceeded :
    (s : Sheet) (number room : ℕ) (x : Summary) (answer : FiguresAnswers s number room x) (limit : ℕ) (below : limit < x.sampling.ticks)
    (rising : RanksRise (tasks_of s) (chain_of s number)) (run : Run) (schedule : Schedule (tasks_of s) (full (tasks_of s)) run)
    → (k f : ℕ) × ChainPath (chain_of s number) (full (tasks_of s)) run k f × (first_release (tasks_of s) (chain_of s number) k + limit < f)
limit_exceeded s number room x answer limit below rising run schedule =
    let reached = sampling_is_reached s number room x answer rising run schedule in
    (reached.0, x.sampling.release + x.sampling.ticks, reached.2, omega (arith, reached.1))
