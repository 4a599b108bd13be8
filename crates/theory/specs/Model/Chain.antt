-- A chain of tasks: its delay at a release, the sampling figure, the quick bound, and the paths of a run. Quotations are from document 01.
-- A chain is its first task p and the list of those that follow.
use Rattle.std.specs.Prelude.{◌≡◌, ◌≢◌, Bool, cond, ℕ, ◌+◌, ◌-◌, ◌*◌, ◌/◌, ◌≤◌, ◌<◌, ltb, length}
use mathlib.Core.List.{List, [], ◌∷◌}
use Rattle.std.proofs.Math.Dec.{eqb}
use Rattle.arith.specs.Whole.{gcd, up}
use Rattle.theory.specs.declared.Task.{Task}
use Rattle.arith.specs.Ranges.{maximum, least}
use Rattle.theory.specs.Model.Schedule.{period, rank, Demands, Run, Starts, Finishes}
use Rattle.theory.specs.Model.Responses.{hyperperiod}

-- The entries of a chain are tasks of the list, 0 to n - 1, and neighbours differ (on a sheet no entry stands twice).
abbrev pub ChainOf : ℕ → ℕ → List ℕ → Type 0
ChainOf n p [] = p < n
ChainOf n p (c ∷ rest) = (p < n) × (p ≢ c) × ChainOf n c rest

abbrev pub Chain : List Task → ℕ → List ℕ → Type 0
Chain ts = ChainOf (length ts)

-- A chain's figures go by three functions: the period of task i, at T i; whether the hand-over from p to c waits for the finish of p,
-- at waits p c; and the response of job k of task i, at table i k.
abbrev pub Waits : Type 0
Waits = ℕ → ℕ → Bool

abbrev pub Table : Type 0
Table = ℕ → ℕ → ℕ

module _ (T : ℕ → ℕ) (waits : Waits) (table : Table) where
  -- "For a producer p released at r and the next task c, the next release is the least multiple of T of c that is at least
  -- r plus the response of that job of p", if the hand-over waits for it, and at least "r" otherwise.
  unfoldable pub walk_next : ℕ → ℕ → ℕ → ℕ
  unfolding up
  walk_next p c r = up (T c) (cond (waits p c) (r + table p (r / T p)) r)

  -- "The delay of a chain of one task at r is that job's response. For a longer chain it is the next release less r, plus the delay
  -- at that next release of what is left."
  unfoldable pub walk_delay : ℕ → List ℕ → ℕ → ℕ
  unfolding walk_next
  walk_delay p [] r = table p (r / T p)
  walk_delay p (c ∷ rest) r = (walk_next p c r - r) + walk_delay c rest (walk_next p c r)

  -- "The worst figure is the greatest delay over the first task's releases in 0 to H − 1.
  unfoldable pub walk_worst : ℕ → ℕ → List ℕ → ℕ
  unfolding maximum walk_delay
  walk_worst H p rest = maximum (H / T p) (λ k. walk_delay p rest (k * T p))

  -- With it goes the smallest release that gives it."
  unfoldable pub walk_worst_release : ℕ → ℕ → List ℕ → ℕ
  unfolding least walk_worst
  walk_worst_release H p rest = least (H / T p) (λ k. eqb (walk_delay p rest (k * T p)) (walk_worst H p rest)) * T p

-- A figure is the greatest delay over all releases of a first task of period T, and a release the smallest that gives it; it is before H.
pub record GreatestOf (T H : ℕ) (delays : ℕ → ℕ) (figure at : ℕ) : Type 0 where
  pub greatest : (k : ℕ) → delays (k * T) ≤ figure
  pub given : delays at ≡ figure
  pub first_task : at / T * T ≡ at
  pub before : at < H
  pub smallest : (k : ℕ) → delays (k * T) ≡ figure → at ≤ k * T

-- "The quick bound: for each neighbouring pair let g be the greatest common divisor of the two periods. Add T of c, less g." If the hand-over
-- waits "add also the least multiple of g that is at least R of p. Last, add R of the chain's last task." R i is that of task i.
unfoldable pub walk_bound : (ℕ → ℕ) → Waits → (ℕ → ℕ) → ℕ → List ℕ → ℕ
unfolding gcd up
walk_bound T waits R p [] = R p
walk_bound T waits R p (c ∷ rest) = let g = gcd (T p) (T c) in (T c - g) + cond (waits p c) (up g (R p)) 0 + walk_bound T waits R c rest

-- "A greater rank number goes first": c outranks p.
abbrev pub outranks : List Task → ℕ → ℕ → Bool
outranks ts c p = ltb (rank ts p) (rank ts c)

-- Document 01's figures go by the periods of the sheet, wait "if c outranks p", and have `response ts` for the table and `task_response ts` for R.
abbrev pub outranked : List Task → Waits
outranked ts p c = outranks ts c p

unfoldable pub next_release : List Task → Table → ℕ → ℕ → ℕ → ℕ
unfolding walk_next
next_release ts = walk_next (period ts) (outranked ts)

unfoldable pub delay : List Task → Table → ℕ → List ℕ → ℕ → ℕ
unfolding next_release walk_delay
delay ts = walk_delay (period ts) (outranked ts)

-- Document 01's worst figure: "keep the old number as the sampling figure" (document 02, P2).
unfoldable pub sampling : List Task → Table → ℕ → List ℕ → ℕ
unfolding delay walk_worst hyperperiod
sampling ts table = walk_worst (period ts) (outranked ts) table (hyperperiod ts)

unfoldable pub sampling_release : List Task → Table → ℕ → List ℕ → ℕ
unfolding sampling walk_worst_release
sampling_release ts table = walk_worst_release (period ts) (outranked ts) table (hyperperiod ts)

unfoldable pub bound : List Task → (ℕ → ℕ) → ℕ → List ℕ → ℕ
unfolding walk_bound
bound ts = walk_bound (period ts) (outranked ts)

-- The g of a pair.
abbrev pub common : List Task → ℕ → ℕ → ℕ
common ts p c = gcd (period ts p) (period ts c)

-- "A job starts at the first tick it runs, and reads then. It finishes at its last tick plus one, and writes then." A read at tick t may have
-- a write "made at or before t".
abbrev pub InTime : ℕ → ℕ → Type 0
InTime read write = write ≤ read

-- A hand-over in a run: job m of c is the first that starts at or after the write of job k of p.
pub record HandOver (d : Demands) (run : Run) (p c k m : ℕ) : Type 0 where
  pub write : ℕ
  pub finishes : Finishes d run p k write
  pub read : ℕ
  pub starts : Starts d run c m read
  pub in_time : InTime read write
  pub first : (x t : ℕ) → Starts d run c x t → InTime t write → m ≤ x

-- The path from job k of p on goes by hand-overs from task to task, and ends when its last job finishes, at f.
-- Which reading that job carries is said by `Carries` (`Readings`): newer ones may overtake a path.
abbrev pub PathEnds : Demands → Run → ℕ → List ℕ → ℕ → ℕ → Type 0
PathEnds d run p [] k f = Finishes d run p k f
PathEnds d run p (c ∷ rest) k f = (m : ℕ) × HandOver d run p c k m × PathEnds d run c rest m f

-- Each task on the chain outranks the one before it.
abbrev pub Rising : List Task → ℕ → List ℕ → Type 0
Rising ts p [] = Unit {0}
Rising ts p (c ∷ rest) = (rank ts p < rank ts c) × Rising ts c rest
