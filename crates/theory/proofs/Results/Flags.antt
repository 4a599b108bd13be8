-- Demand 3's upper limit from any tick e, for a flag that stays up until taken: T − 1 more than from a release. Nothing here says that the
-- worst from a flag is reached: what is reached is the sampling figure (`Demand3`), and the wait for a release (`wait_reached`).
use Rattle.std.specs.Prelude.{◌≡◌, List, [], ◌∷◌, ℕ, ◌+◌, ◌≤◌, ◌<◌, length}
use Rattle.std.proofs.Common.{ap, arith}
use Rattle.theory.specs.declared.Task.{Task}
use Rattle.theory.specs.Model.Schedule.{release, Demands, Within, Run, Schedule, Starts}
use Rattle.theory.specs.Model.Responses.{response, task_response, Accepted}
use Rattle.theory.specs.Model.Chain.{Chain, sampling, PathEnds}
use Rattle.theory.specs.Model.Readings.{Arrives}
use Rattle.theory.specs.Model.Flag.{Takes, from_flag, flag_worst, flag_bound, FlagWithin}
use Rattle.theory.proofs.Analysis.Finish.{start_later}
use Rattle.theory.proofs.Analysis.NeverLater.{job_starts}
use Rattle.theory.proofs.Analysis.ChainLaws.{chain_head}
use Rattle.theory.proofs.Analysis.FlagLaws.{flag_later, wait_most, flag_taken}
use Rattle.theory.proofs.Results.Demand3.{no_schedule_exceeds, path_arrives, sampling_within_bound}
use Rattle.theory.specs.Results.Examples.{trio, radio}
use Rattle.theory.proofs.Results.Examples.{trio_chain, radio_chain}

-- 1. No flag exceeds the worst. For every accepted sheet, all demands of 1 to C, every run that is a schedule for them and every tick e: a job
-- takes the flag raised then, the path from it ends no later than T − 1 and the sampling figure after e, and the reading that arrives there
-- stems from a job that started at or after e. (`takes_unique`, `path_unique`: there is one such job, and one such path.)
pub no_flag_exceeds :
    (ts : List Task) (accepted : Accepted ts) (p : ℕ) (rest : List ℕ) (chain : Chain ts p rest)
    (d : Demands) (within : Within ts d) (run : Run) (schedule : Schedule ts d run) (e : ℕ)
    → FlagWithin d run p rest e (flag_worst ts (response ts) p rest)
no_flag_exceeds ts accepted p rest chain d within run schedule e = record {
  job = k;
  takes = takes;
  stamp = path.0.0;
  path = path.0.1;
  in_time = omega (arith, path.1 path.0.0 path.0.1, wait_most accepted.proper schedule p known within e k takes);
  arrives = arrives;
  read = source.0;
  reads = source.1;
  since = omega (arith, takes.in_time, start_later arrives.newer takes.starts source.1);
}
  where
    known : p < length ts
    known = chain_head ts p rest chain

    k : ℕ
    k = (flag_taken accepted schedule within p known e).0

    takes : Takes d run p e k
    takes = (flag_taken accepted schedule within p known e).1

    path : ((f : ℕ) × PathEnds d run p rest k f) × ((f : ℕ) → PathEnds d run p rest k f → f ≤ release ts p k + sampling ts (response ts) p rest)
    path = no_schedule_exceeds ts accepted p rest chain d within run schedule k

    arrives : Arrives d run p rest k path.0.0
    arrives = path_arrives ts p rest chain d within run k path.0.0 path.0.1

    source : (t : ℕ) × Starts d run p arrives.source t
    source = job_starts accepted schedule within p arrives.source known

-- 2. The same with the quick bound.
pub no_flag_exceeds_bound :
    (ts : List Task) (accepted : Accepted ts) (p : ℕ) (rest : List ℕ) (chain : Chain ts p rest)
    (d : Demands) (within : Within ts d) (run : Run) (schedule : Schedule ts d run) (e : ℕ)
    → FlagWithin d run p rest e (flag_bound ts (task_response ts) p rest)
no_flag_exceeds_bound ts accepted p rest chain d within run schedule e =
    flag_later (omega (arith, sampling_within_bound ts accepted p rest chain)) (no_flag_exceeds ts accepted p rest chain d within run schedule e)

-- 3. "Radio prints 39 from 20, 43". Trio's are 13 and 15, where document 002 prints 14 and 16 as strict limits.
pub radio_flag : (flag_worst radio (response radio) 0 (1 ∷ 2 ∷ []) ≡ 39) × (flag_bound radio (task_response radio) 0 (1 ∷ 2 ∷ []) ≡ 43)
radio_flag = (ap (from_flag radio 0) radio_chain.is_sampling, ap (from_flag radio 0) radio_chain.is_bound)

pub trio_flag : (flag_worst trio (response trio) 0 (1 ∷ 2 ∷ []) ≡ 13) × (flag_bound trio (task_response trio) 0 (1 ∷ 2 ∷ []) ≡ 15)
trio_flag = (ap (from_flag trio 0) trio_chain.is_sampling, ap (from_flag trio 0) trio_chain.is_bound)
