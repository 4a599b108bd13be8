-- The quick bound by the recurrence (document 02, P4), for every list of proper tasks, whatever its hyperperiod.
use Rattle.std.specs.Prelude.{◌≡◌, List, ℕ, ◌+◌, ◌≤◌, ◌<◌, length}
use Rattle.std.proofs.Common.{sym, subst, arith}
use Rattle.theory.specs.declared.Task.{Task}
use Rattle.theory.specs.Model.Schedule.{period, release, Proper, Demands, Within, Run, Schedule}
use Rattle.theory.specs.Model.Responses.{response, task_response, Accepted}
use Rattle.theory.specs.Model.Chain.{Chain, outranked, bound, PathEnds}
use Rattle.theory.specs.Model.Flag.{flag_bound, from_flag, FlagWithin}
use Rattle.theory.specs.Model.Recurrence.{quick_response, Passing, EverLate}
use Rattle.theory.proofs.Analysis.WalkLaws.{chain_along, alike_self, walk_bound_same}
use Rattle.theory.proofs.Analysis.QuickLaws.{late_passing, passing_late, quick_response_first, quick_response_greatest, quick_response_task}
use Rattle.theory.proofs.Results.Demand3.{no_schedule_exceeds, sampling_within_bound}
use Rattle.theory.proofs.Results.Flags.{no_flag_exceeds_bound}

-- 1. The value passes the period exactly when some job of the task, of all its jobs, is late in the full-budget schedule.
pub passing_is_late : {ts : List Task} (good : Proper ts) (i : ℕ) (known : i < length ts) → (Passing ts i → EverLate ts i) × (EverLate ts i → Passing ts i)
passing_is_late good i known = ((λ p. (0, passing_late good i known p)), late_passing good i known)

-- 2. It is the greatest response of all jobs of the task; the first has it.
pub quick_response_of_all : {ts : List Task} (good : Proper ts) (i : ℕ) (known : i < length ts)
    → ((k : ℕ) → response ts i k ≤ quick_response ts i) × (response ts i 0 ≡ quick_response ts i)
quick_response_of_all good i known = (quick_response_greatest good i known, omega (arith, quick_response_first good i known))

-- 3. The bound by these responses is document 01's, by the R of each task.
pub quick_bound_same : {ts : List Task} (good : Proper ts) (p : ℕ) (rest : List ℕ) (chain : Chain ts p rest)
    → bound ts (quick_response ts) p rest ≡ bound ts (task_response ts) p rest
unfolding bound
quick_bound_same {ts} good p rest chain =
    walk_bound_same (alike_self (λ i. i < length ts) (period ts) (outranked ts)) (quick_response ts) (task_response ts)
    (quick_response_task good) p rest (chain_along (length ts) p rest chain)

-- 4. No schedule exceeds the bound. Where no task is late, for all demands of 1 to C, every run that is a schedule for them and every job of
-- the chain's first task: its path exists, and ends no later than the bound after its release.
pub no_schedule_exceeds_quick_bound :
    (ts : List Task) (accepted : Accepted ts) (p : ℕ) (rest : List ℕ) (chain : Chain ts p rest)
    (d : Demands) (within : Within ts d) (run : Run) (schedule : Schedule ts d run) (k : ℕ)
    → ((f : ℕ) × PathEnds d run p rest k f) × ((f : ℕ) → PathEnds d run p rest k f → f ≤ release ts p k + bound ts (quick_response ts) p rest)
no_schedule_exceeds_quick_bound ts accepted p rest chain d within run schedule k =
    let x = no_schedule_exceeds ts accepted p rest chain d within run schedule k in
    (x.0, λ f path. omega (arith, x.1 f path, sampling_within_bound ts accepted p rest chain, quick_bound_same accepted.proper p rest chain))

-- 5. Nor does a flag exceed the bound with its wait, T − 1: it is stamped no later than that after its tick.
pub no_flag_exceeds_quick_bound :
    (ts : List Task) (accepted : Accepted ts) (p : ℕ) (rest : List ℕ) (chain : Chain ts p rest)
    (d : Demands) (within : Within ts d) (run : Run) (schedule : Schedule ts d run) (e : ℕ)
    → FlagWithin d run p rest e (flag_bound ts (quick_response ts) p rest)
no_flag_exceeds_quick_bound ts accepted p rest chain d within run schedule e =
    subst (λ b. FlagWithin d run p rest e (from_flag ts p b)) (sym (quick_bound_same accepted.proper p rest chain))
    (no_flag_exceeds_bound ts accepted p rest chain d within run schedule e)
