-- What the tell-tale says of the sheet: while the clock keeps its sheet, the longest that it shows is within the sampling figure.
use Rattle.std.specs.Prelude.{◌≡◌, ℕ, ◌-◌, ◌<◌, ◌≤◌, List, [], ◌∷◌, ◌++◌, map, refl}
use Rattle.std.proofs.Common.{◌∙◌, ap, arith}
use Rattle.std.proofs.Math.Option.{some, none}
use Rattle.std.proofs.lemmas.Bool.{lt-leb}
use Rattle.theory.specs.declared.Task.{Task}
use Rattle.theory.specs.Model.Schedule.{release, Demands, Within, Run, Schedule}
use Rattle.theory.specs.Model.Responses.{response, Accepted}
use Rattle.theory.specs.Model.Chain.{Chain, sampling}
use Rattle.theory.proofs.Results.Demand3.{no_schedule_exceeds}
use Rattle.telltale.specs.Calls.{fresh}
use Rattle.telltale.specs.Runs.{Call, begin, stamp, run, times, greatest}
use Rattle.telltale.specs.CallLaws.{elapsed_apart}
use Rattle.telltale.specs.RunResults.{after_any_run}
use Rattle.telltale.specs.Watched.{counter_at, Reading, watched}

-- Stamps with none under way have no time,
stamps_refused : (early : List ℕ) (cs : List Call) → times none (map stamp early ++ cs) ≡ times none cs
stamps_refused [] cs = refl
stamps_refused (c ∷ early) cs = stamps_refused early cs

-- and begins while one is under way change none.
begins_kept : (first : ℕ) (others : List ℕ) (cs : List Call) → times (some first) (map begin others ++ cs) ≡ times (some first) cs
begins_kept first [] cs = refl
begins_kept first (c ∷ others) cs = begins_kept first others cs

module _ {ts : List Task} (accepted : Accepted ts) {p : ℕ} {rest : List ℕ} (chain : Chain ts p rest)
    {d : Demands} (within : Within ts d) {ran : Run} (schedule : Schedule ts d ran) (small : sampling ts (response ts) p rest < 2147483648) where
  -- From the release of a reading's job to its stamp.
  abbrev pub delay_of : Reading ts d ran p rest → ℕ
  delay_of x = x.stamped - release ts p x.job

  delay_most : (x : Reading ts d ran p rest) → delay_of x ≤ sampling ts (response ts) p rest
  delay_most x = omega (arith, x.by_its_end, (no_schedule_exceeds ts accepted p rest chain d within ran schedule x.job).1 x.path_end x.path)

  -- Each stamp is accepted, and its time is that delay, across the rollover too,
  pub watched_times : (xs : List (Reading ts d ran p rest)) → times none (watched ts d ran p rest xs) ≡ map delay_of xs
  watched_times [] = refl
  watched_times (x ∷ xs) =
      stamps_refused x.early _ ∙ begins_kept (counter_at (release ts p x.job)) x.others _
      ∙ rw (elapsed_apart (release ts p x.job) x.stamped x.after_release (omega (arith, delay_most x, small)), lt-leb 2147483648 (delay_of x) (omega (arith, delay_most x, small)))
      (ap (λ l. delay_of x ∷ l) (watched_times xs))

  greatest_most : (xs : List (Reading ts d ran p rest)) → greatest (map delay_of xs) ≤ sampling ts (response ts) p rest
  greatest_most [] = omega arith
  greatest_most (x ∷ xs) = omega (arith, delay_most x, greatest_most xs)

  -- so the longest is within the sampling figure, whatever schedule the demands of 1 to C make, and for however many readings.
  pub longest_within : (xs : List (Reading ts d ran p rest)) → (run fresh (watched ts d ran p rest xs)).longest ≤ sampling ts (response ts) p rest
  longest_within xs = omega (arith, (after_any_run (watched ts d ran p rest xs)).0, ap greatest (watched_times xs), greatest_most xs)
