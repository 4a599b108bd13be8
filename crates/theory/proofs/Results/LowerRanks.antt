-- Lower ranks do not reach a chain (document 02, P10): its figures do not know the tasks that are ranked below all of its own.
use Rattle.std.specs.Prelude.{◌≡◌, List, ℕ, ltb}
use Rattle.std.proofs.Common.{ap, ap₂, subst₂, le_refl}
use Rattle.std.proofs.Math.Path.{fun_ext}
use Rattle.theory.specs.declared.Task.{Task}
use Rattle.theory.specs.Model.Schedule.{period, rank}
use Rattle.theory.specs.Model.Responses.{response, hyperperiod, task_response, Accepted}
use Rattle.theory.specs.Model.Chain.{Chain, outranked, delay, sampling, sampling_release, bound, GreatestOf}
use Rattle.theory.specs.Analysis.WalkLaws.{Along, Alike}
use Rattle.theory.proofs.Analysis.WalkLaws.{along_first, greatest_unique, walk_delay_same, walk_bound_same}
use Rattle.theory.specs.Analysis.LowerLaws.{From}
use Rattle.theory.proofs.Analysis.LowerLaws.{same_task, response_same, task_response_same}
use Rattle.theory.proofs.Results.Demand3.{sampling_of_all}
use Rattle.theory.specs.Results.LowerRanks.{SameFigures, Apart}

from_own : {ts us : List Task} {i : ℕ} → Apart ts us i → From (rank ts i) ts i
from_own apart = record { known = apart.known; ranked = le_refl _ }

module _ {ts us : List Task} (accepted : Accepted ts) (accepted' : Accepted us) where
  -- Such a task has the same response,
  pub apart_response : (i : ℕ) → Apart ts us i → task_response ts i ≡ task_response us i
  apart_response i a = task_response_same a.same i (from_own a) accepted.proper accepted'.proper

  alike : Alike (Apart ts us) (period ts) (period us) (outranked ts) (outranked us)
  alike = record {
    periods = λ i a. ap (λ (x : Task). x.period) (same_task a.same i (from_own a));
    hand_overs = λ p c a b. ap₂ (λ (x y : Task). ltb x.rank y.rank) (same_task a.same p (from_own a)) (same_task b.same c (from_own b));
  }

  -- and a chain of such tasks has the same figures. The hyperperiods may differ; but the sampling figure is the greatest delay of all releases,
  -- and its release the smallest of all that give it.
  pub apart_figures : (p : ℕ) (rest : List ℕ) (chain : Chain ts p rest) (chain' : Chain us p rest) (apart : Along (Apart ts us) p rest)
      → SameFigures ts us p rest
  unfolding delay bound
  apart_figures p rest chain chain' apart = record { same_sampling = same_greatest.0; same_release = same_greatest.1; same_bound = bounds }
    where
      delays : (r : ℕ) → delay ts (response ts) p rest r ≡ delay us (response us) p rest r
      delays r =
          walk_delay_same alike (response ts) (response us)
          (λ i k a. response_same a.same i (from_own a) accepted.proper accepted'.proper k) p rest r apart

      on_other : GreatestOf (period us p) (hyperperiod ts) (delay us (response us) p rest) (sampling ts (response ts) p rest) (sampling_release ts (response ts) p rest)
      on_other =
          subst₂ (λ T d. GreatestOf T (hyperperiod ts) d (sampling ts (response ts) p rest) (sampling_release ts (response ts) p rest))
          (alike.periods p (along_first (Apart ts us) p rest apart)) (fun_ext delays) (sampling_of_all ts accepted p rest chain)

      same_greatest : (sampling ts (response ts) p rest ≡ sampling us (response us) p rest)
          × (sampling_release ts (response ts) p rest ≡ sampling_release us (response us) p rest)
      same_greatest = greatest_unique on_other (sampling_of_all us accepted' p rest chain')

      bounds : bound ts (task_response ts) p rest ≡ bound us (task_response us) p rest
      bounds = walk_bound_same alike (task_response ts) (task_response us) apart_response p rest apart
