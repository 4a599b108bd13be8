-- A newer reading may overtake a path, an older one cannot: the write that ends a path is the first that carries the reading of its first job
-- or a newer one.
use Rattle.std.specs.Prelude.{◌≡◌, List, [], ◌∷◌, Bool, ltb}
use Prim.Native.Nat.{ℕ, zero, suc, ◌-◌, ◌≤◌, ◌<◌}
use Rattle.std.proofs.Math.Nat.{le_refl}
use Rattle.std.proofs.Common.{le_antisymm, arith, ltb-true, lt-ltb}
use Rattle.arith.specs.Ranges.{sum, least}
use Rattle.arith.specs.RangeLaws.{least_passes, least_first}
use Rattle.theory.specs.declared.Task.{Task}
use Rattle.theory.specs.Model.Schedule.{Demands, Within, need, Run, done, Starts, Finishes}
use Rattle.theory.specs.Model.Chain.{Chain, PathEnds}
use Rattle.theory.specs.Model.Readings.{Reads, Carries}
use Rattle.theory.proofs.Analysis.Work.{done_grows, need_grows}
use Rattle.theory.proofs.Analysis.Finish.{done_starts, done_finishes, start_later, finish_later, finish_order}
use Rattle.theory.proofs.Analysis.ChainLaws.{chain_head}

-- The newest write

module _ (d : Demands) (run : Run) (i : ℕ) (some : (k : ℕ) → 1 ≤ d i k) where
  need_above : (k : ℕ) → k ≤ need d i k
  unfolding need sum
  need_above zero = le_refl _
  need_above (suc k) = omega (arith, need_above k, some k)

  -- A job that starts at or after a write reads that one or a newer: that of the job before the first that is not done by then.
  reads_newer : (c k m f t : ℕ) → Finishes d run i k f → Starts d run c m t → f ≤ t → (j : ℕ) × Reads d run i c j m × (k ≤ j)
  reads_newer c k m f t x y l =
      (j, record { read = t; starts = y; write = g.0; finishes = g.2; in_time = g.1; newest = newest }, omega (arith, before k f x l))
    where
      unfinished : ℕ → Bool
      unfinished n = ltb (done run i t) (need d i (suc n))

      first_unfinished : (n : ℕ) → done run i t < need d i (suc n) → least (suc (done run i t)) unfinished ≤ n
      first_unfinished n h = least_first (suc (done run i t)) unfinished n (lt-ltb (done run i t) (need d i (suc n)) h)

      n : ℕ
      n = least (suc (done run i t)) unfinished

      not_done : done run i t < need d i (suc n)
      not_done = ltb-true (done run i t) (need d i (suc n))
          (least_passes (suc (done run i t)) unfinished (omega (arith, first_unfinished (done run i t) (need_above (suc (done run i t))))))

      before : (z h : ℕ) → Finishes d run i z h → h ≤ t → z < n
      before z h fin q =
          let no : ¬ (n ≤ z) = λ r. omega (arith, not_done, fin.done_by, done_grows run i h t q, need_grows d i (suc n) (suc z) (omega arith)) in
          omega arith

      j : ℕ
      j = n - 1

      is_done : need d i (suc j) ≤ done run i t
      is_done = let no : ¬ (done run i t < need d i (suc j)) = λ h. omega (arith, first_unfinished j h, before k f x l) in omega arith

      g : (g : ℕ) × (g ≤ t) × Finishes d run i j g
      g = done_finishes d run i j t (some j) is_done

      newest : (z h : ℕ) → Finishes d run i z h → h ≤ t → h ≤ g.0
      newest z h fin q = finish_later (omega (arith, before z h fin q)) fin g.2

-- No write before the end of a path carries the reading of its first job or of a later one: the path takes the first job each time.
pub path_first : (d : Demands) (run : Run) (p : ℕ) (rest : List ℕ) (j k f g : ℕ)
    → PathEnds d run p rest k f → Carries d run p rest j g → k ≤ j → f ≤ g
path_first d run p [] j k f g x y h = finish_later h x y
path_first d run p (c ∷ rest) j k f g x y h =
    let later = finish_later h x.1.finishes y.1.finishes in
    let next = x.1.first y.0 y.1.read y.1.starts (omega (arith, later, y.1.in_time)) in
    path_first d run c rest y.0 x.0 f g x.2 y.2 next

module _ {ts : List Task} {d : Demands} (within : Within ts d) (run : Run) where
  -- A later write carries no older reading,
  pub carries_order : (p : ℕ) (rest : List ℕ) → Chain ts p rest → (j k f g : ℕ)
      → Carries d run p rest j f → Carries d run p rest k g → f ≤ g → j ≤ k
  carries_order p [] l j k f g x y h = finish_order (within.least_one p j l) x y h
  carries_order p (c ∷ rest) l j k f g x y h =
      let later = start_later (carries_order c rest l.2 x.0 y.0 f g x.2 y.2 h) x.1.starts y.1.starts in
      finish_order (within.least_one p j l.0) x.1.finishes y.1.finishes
      (y.1.newest j x.1.write x.1.finishes (omega (arith, x.1.in_time, later)))

  -- so it carries one alone.
  pub carries_unique : (p : ℕ) (rest : List ℕ) → Chain ts p rest → (j k f : ℕ) → Carries d run p rest j f → Carries d run p rest k f → j ≡ k
  carries_unique p rest l j k f x y =
      le_antisymm (carries_order p rest l j k f f x y (le_refl _)) (carries_order p rest l k j f f y x (le_refl _))

  -- A job whose reading is carried has started.
  carries_starts : (p : ℕ) (rest : List ℕ) → Chain ts p rest → (j f : ℕ) → Carries d run p rest j f → (t : ℕ) × Starts d run p j t
  carries_starts p rest l j f x =
      let y = finishes rest x in
      done_starts d run p j y.0 (within.least_one p j (chain_head ts p rest l)) (omega (arith, y.1.done_by))
    where
      finishes : (rest : List ℕ) → Carries d run p rest j f → (g : ℕ) × Finishes d run p j g
      finishes [] x = (f, x)
      finishes (c ∷ rest) x = (x.1.write, x.1.finishes)

  -- The write that ends a path carries the reading of its first job or of a later one.
  pub path_carries : (p : ℕ) (rest : List ℕ) → Chain ts p rest → (k f : ℕ)
      → PathEnds d run p rest k f → (j : ℕ) × Carries d run p rest j f × (k ≤ j)
  path_carries p [] l k f x = (k, x, le_refl _)
  path_carries p (c ∷ rest) l k f x =
      let y = path_carries c rest l.2 x.0 f x.2 in
      let start = carries_starts c rest l.2 y.0 f y.1 in
      let later = start_later y.2 x.1.starts start.1 in
      let r = reads_newer d run p (λ j. within.least_one p j l.0) c k y.0 x.1.write start.0 x.1.finishes start.1
      (omega (arith, x.1.in_time, later)) in
      (r.0, (y.0, r.1, y.1), r.2)
