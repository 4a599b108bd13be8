-- Laws of document 01's next release and delay, for any table of responses: those of `WalkLaws` where a hand-over waits if c outranks p.
use Rattle.std.specs.Prelude.{◌≡◌, List, ◌∷◌, ℕ, ◌+◌, ◌*◌, ◌/◌, ◌≤◌, ◌<◌, length}
use Rattle.std.proofs.Common.{lt-ltb}
use Rattle.arith.specs.Whole.{up}
use Rattle.theory.specs.declared.Task.{Task}
use Rattle.theory.specs.Model.Schedule.{period, release, rank, Proper}
use Rattle.theory.specs.Model.Responses.{hyperperiod, jobs}
use Rattle.theory.specs.Model.Chain.{Chain, Table, outranked, next_release, delay}
use Rattle.theory.proofs.Analysis.Hyperperiod.{hyperperiod_cycle}
use Rattle.theory.proofs.Analysis.WalkLaws.{chain_first, walk_next_finish, walk_next_job, walk_next_later, walk_delay_step, walk_delay_again, walk_delay_turns}

pub chain_head : (ts : List Task) (p : ℕ) (rest : List ℕ) → Chain ts p rest → p < length ts
chain_head ts = chain_first (length ts)

module _ (ts : List Task) (table : Table) (p c r : ℕ) where
  pub next_outranking : rank ts p < rank ts c → next_release ts table p c r ≡ up (period ts c) (r + table p (r / period ts p))
  unfolding next_release
  next_outranking higher = walk_next_finish (period ts) (outranked ts) table p c r (lt-ltb (rank ts p) (rank ts c) higher)

  pub next_job_lem : release ts c (next_release ts table p c r / period ts c) ≡ next_release ts table p c r
  unfolding next_release
  next_job_lem = walk_next_job (period ts) (outranked ts) table p c r

  pub next_later : 0 < period ts c → r ≤ next_release ts table p c r
  unfolding next_release
  next_later = walk_next_later (period ts) (outranked ts) table p c r

  pub delay_step : (rest : List ℕ) → 0 < period ts c
      → r + delay ts table p (c ∷ rest) r ≡ next_release ts table p c r + delay ts table c rest (next_release ts table p c r)
  unfolding next_release delay
  delay_step = walk_delay_step (period ts) (outranked ts) table p c r

-- Delays repeat with H.
module _ {ts : List Task} (good : Proper ts) (table : Table) (repeats : (i k : ℕ) → i < length ts → table i (k + jobs ts i) ≡ table i k)
    (p : ℕ) (rest : List ℕ) (r : ℕ) where
  pub delay_again : Chain ts p rest → delay ts table p rest (r + hyperperiod ts) ≡ delay ts table p rest r
  unfolding delay
  delay_again = walk_delay_again (hyperperiod_cycle good) (outranked ts) table repeats p rest r

  pub delay_turns : (m : ℕ) → Chain ts p rest → delay ts table p rest (r + m * hyperperiod ts) ≡ delay ts table p rest r
  unfolding delay
  delay_turns = walk_delay_turns (hyperperiod_cycle good) (outranked ts) table repeats p rest r
