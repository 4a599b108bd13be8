-- The paths of a run that keeps to a walk's responses: from each job there is one, and it is no longer than the delay of its chain.
use Rattle.std.specs.Prelude.{◌≡◌, refl, ◌≢◌, Bool, true, false, ℕ, suc, ◌+◌, ◌*◌, ◌/◌, ◌≤◌, ◌<◌, leb}
use Rattle.std.proofs.Common.{ap, subst, le_refl, mul-div_cancel, mul-le-mul_right, arith, leb-true, le-leb}
use mathlib.Core.List.{List, [], ◌∷◌}
use Rattle.std.proofs.Math.Decide.{ℕ_discrete}
use Rattle.arith.specs.WholeLaws.{up_above}
use Rattle.arith.specs.Ranges.{least}
use Rattle.arith.specs.RangeLaws.{least_passes, least_first}
use Rattle.theory.specs.Model.Schedule.{Demands, Run, Starts, Finishes}
use Rattle.theory.specs.Model.Chain.{ChainOf, Waits, Table, walk_next, walk_delay, HandOver, PathEnds}
use Rattle.theory.proofs.Analysis.Finish.{start_unique}
use Rattle.theory.proofs.Analysis.WalkLaws.{chain_first, walk_next_finish, walk_next_job, walk_next_later, walk_delay_step}
use Rattle.theory.specs.Analysis.WalkPaths.{Keeps}

module _ {n : ℕ} {T : ℕ → ℕ} {waits : Waits} {table : Table} {d : Demands} {run : Run} (keeps : Keeps n T waits table d run) where
  -- The job of c that the walk goes on with from job k of p.
  abbrev next_job : ℕ → ℕ → ℕ → ℕ
  next_job p c k = walk_next T waits table p c (k * T p) / T c

  next_released : (p c k : ℕ) → next_job p c k * T c ≡ walk_next T waits table p c (k * T p)
  next_released p c k = walk_next_job T waits table p c (k * T p)

  -- A job finishes, being on time, within any later job's response after that one's release.
  finish_within : (i k m f : ℕ) → i < n → k ≤ m → Finishes d run i k f → f ≤ m * T i + table i m
  finish_within i k m f l h x = go (ℕ_discrete k m)
    where
      go : Dec (k ≡ m) → f ≤ m * T i + table i m
      go (yes e) = keeps.in_time i m f l (subst (λ y. Finishes d run i y f) e x)
      go (no e) = omega (arith, keeps.in_time i k f l x, keeps.by_next i k l, mul-le-mul_right {m = suc k} {n = m} (T i) (omega arith))

  -- The walk's next job, from this job of p or a later one, starts no sooner than this job of p is finished.
  next_waits : (p c k m f t : ℕ) → p < n → c < n → p ≢ c → k ≤ m → Finishes d run p k f → Starts d run c (next_job p c m) t → f ≤ t
  next_waits p c k m f t lp lc differ h x y = go (waits p c) refl
    where
      go : (b : Bool) → waits p c ≡ b → f ≤ t
      go true e = omega (
        arith,
        keeps.released c (next_job p c m) t lc y,
        next_released p c m,
        walk_next_finish T waits table p c (m * T p) e,
        up_above (T c) (m * T p + table p (m * T p / T p)) (keeps.positive c lc),
        finish_within p k m f lp h x,
        ap (table p) (mul-div_cancel m (keeps.positive p lp)),
      )
      go false e = keeps.in_order p c k (next_job p c m) f t lp lc differ e sooner x y
        where
          sooner : k * T p ≤ next_job p c m * T c
          sooner =
              omega (arith, next_released p c m, walk_next_later T waits table p c (m * T p) (keeps.positive c lc), mul-le-mul_right (T p) h)

  -- So the first job of c that starts at or after the write is that job or an earlier one.
  hand_over_early : (p c k m j : ℕ) → p < n → c < n → p ≢ c → k ≤ m → HandOver d run p c k j → j ≤ next_job p c m
  hand_over_early p c k m j lp lc differ h x =
      let y = keeps.starts c (next_job p c m) lc in
      x.first (next_job p c m) y.0 y.1 (next_waits p c k m x.write y.0 lp lc differ h x.finishes y.1)

  -- A path from a job ends within the delay of its release, or of any later one of its task.
  pub walk_path_within : (p : ℕ) (rest : List ℕ) → ChainOf n p rest → (k m f : ℕ) → k ≤ m → PathEnds d run p rest k f
      → f ≤ m * T p + walk_delay T waits table p rest (m * T p)
  unfolding walk_delay
  walk_path_within p [] l k m f h x = rw (mul-div_cancel m (keeps.positive p l)) (finish_within p k m f l h x)
  walk_path_within p (c ∷ rest) l k m f h x =
      rw (walk_delay_step T waits table p c (m * T p) rest (keeps.positive c lc), ← next_released p c m)
      (walk_path_within c rest l.2 x.0 (next_job p c m) f (hand_over_early p c k m x.0 l.0 lc l.1 h x.1) x.2)
    where
      lc : c < n
      lc = chain_first n c rest l.2

  -- There is a first job of c that starts at or after a write of p.
  hand_over_exists : (p c k : ℕ) → p < n → c < n → p ≢ c → (m : ℕ) × HandOver d run p c k m
  hand_over_exists p c k lp lc differ =
      (m, record { write = f.0; finishes = f.1; read = (start m).0; starts = (start m).1; in_time = in_time; first = first })
    where
      f : (f : ℕ) × Finishes d run p k f
      f = keeps.finishes p k lp

      start : (x : ℕ) → (t : ℕ) × Starts d run c x t
      start x = keeps.starts c x lc

      test : ℕ → Bool
      test x = leb f.0 (start x).0

      j : ℕ
      j = next_job p c k

      m : ℕ
      m = least (suc j) test

      early : m ≤ j
      early =
          least_first (suc j) test j (le-leb f.0 (start j).0
          (next_waits p c k k f.0 (start j).0 lp lc differ (le_refl _) f.1 (start j).1))

      in_time : f.0 ≤ (start m).0
      in_time = leb-true f.0 (start m).0 (least_passes (suc j) test (omega (arith, early)))

      first : (x t : ℕ) → Starts d run c x t → f.0 ≤ t → m ≤ x
      first x t y h = least_first (suc j) test x (le-leb f.0 (start x).0 (omega (arith, start_unique y (start x).1)))

  pub walk_path_exists : (p : ℕ) (rest : List ℕ) → ChainOf n p rest → (k : ℕ) → (f : ℕ) × PathEnds d run p rest k f
  walk_path_exists p [] l k = keeps.finishes p k l
  walk_path_exists p (c ∷ rest) l k =
      let x = hand_over_exists p c k l.0 (chain_first n c rest l.2) l.1 in
      let y = walk_path_exists c rest l.2 x.0 in
      (y.0, (x.0, x.1, y.1))
