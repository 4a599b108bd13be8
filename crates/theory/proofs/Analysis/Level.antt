-- The level of a task is the tasks of rank at least its own; sums over it.
use Rattle.std.specs.Prelude.{◌≡◌, refl, List, Bool, true, false, ℕ, ◌+◌, ◌≤◌, ◌<◌, leb, ltb, eqb, length}
use Rattle.std.proofs.Math.Path.{ap, ap₂}
use Rattle.std.proofs.Common.{◌∙◌, le_refl, arith, leb-true, le-leb, lt-ltb, le-ltb, eq-eqb, ne_eqb}
use Rattle.std.proofs.Math.Bool.{cond}
use Rattle.std.proofs.Math.Decide.{ℕ_discrete, dec_lt}
use Rattle.std.proofs.lemmas.Bool.{lt-leb}
use Rattle.theory.specs.declared.Task.{Task}
use Rattle.arith.specs.Ranges.{sum}
use Rattle.arith.specs.RangeLaws.{sum_add, sum_le, sum_eq, sum_zero, sum_point, sum_tight}
use Rattle.theory.specs.Model.Schedule.{rank, Proper, busy, runs}
use Rattle.theory.proofs.Analysis.Work.{runs_self, runs_other}
use Rattle.theory.specs.Analysis.Level.{in_level, level}

cond_add : (b : Bool) (x y : ℕ) → cond b (x + y) 0 ≡ cond b x 0 + cond b y 0
cond_add true x y = refl
cond_add false x y = refl

pub cond_zero : (b : Bool) {x : ℕ} → x ≡ 0 → cond b x 0 ≡ 0
cond_zero true e = e
cond_zero false e = refl

pub cond_le : (b : Bool) {x y : ℕ} → (b ≡ true → x ≤ y) → cond b x 0 ≤ cond b y 0
cond_le true h = h refl
cond_le false h = le_refl _

module _ (ts : List Task) (i : ℕ) where
  pub level_zero : level ts i (λ j. 0) ≡ 0
  unfolding level
  level_zero = sum_zero (length ts) _ (λ j l. cond_zero (in_level ts i j) refl)

  pub level_add : (f g : ℕ → ℕ) → level ts i (λ j. f j + g j) ≡ level ts i f + level ts i g
  unfolding level
  level_add f g = sum_eq (length ts) _ _ (λ j l. cond_add (in_level ts i j) (f j) (g j)) ∙ sum_add (length ts) _ _

  pub level_eq : (f g : ℕ → ℕ) → ((j : ℕ) → j < length ts → f j ≡ g j) → level ts i f ≡ level ts i g
  unfolding level
  level_eq f g h = sum_eq (length ts) _ _ (λ j l. ap (λ x. cond (in_level ts i j) x 0) (h j l))

  pub level_le : (f g : ℕ → ℕ) → ((j : ℕ) → j < length ts → rank ts i ≤ rank ts j → f j ≤ g j) → level ts i f ≤ level ts i g
  unfolding level
  level_le f g h = sum_le (length ts) _ _ (λ j l. cond_le (in_level ts i j) (λ e. h j l (leb-true _ _ e)))

  -- Where f ≤ g and their sums agree, they agree at each task of the level.
  pub level_tight : (f g : ℕ → ℕ) → ((j : ℕ) → j < length ts → f j ≤ g j) → level ts i g ≤ level ts i f
      → (j : ℕ) → j < length ts → rank ts i ≤ rank ts j → f j ≡ g j
  unfolding level
  level_tight f g h e j l r = rw (le-leb (rank ts i) (rank ts j) r) at
      (sum_tight (length ts) (λ j. cond (in_level ts i j) (f j) 0) (λ j. cond (in_level ts i j) (g j) 0)
      (λ x m. cond_le (in_level ts i x) (λ q. h x m)) e j l)

  -- In a tick of one of its tasks the level runs once.
  pub level_runs_lem : (k : ℕ) → k < length ts → rank ts i ≤ rank ts k → level ts i (λ j. runs j (busy k)) ≡ 1
  unfolding level
  level_runs_lem k l r =
      sum_point (length ts) k _ l (λ j m q. cond_zero (in_level ts i j) (runs_other q))
      ∙ ap₂ (λ b x. cond b x 0) (le-leb (rank ts i) (rank ts k) r) (runs_self k)

  -- The level of the lowest rank is all tasks.
  pub level_all : ((j : ℕ) → j < length ts → rank ts i ≤ rank ts j) → (f : ℕ → ℕ) → level ts i f ≡ sum (length ts) f
  unfolding level
  level_all lowest f = sum_eq (length ts) _ _ (λ j l. ap (λ b. cond b (f j) 0) (le-leb (rank ts i) (rank ts j) (lowest j l)))

-- The level of task i is the task itself and those that outrank it.
pub level_own : {ts : List Task} → Proper ts → (i : ℕ) → i < length ts → (f : ℕ → ℕ)
    → level ts i f ≡ f i + sum (length ts) (λ j. cond (ltb (rank ts i) (rank ts j)) (f j) 0)
unfolding level
level_own {ts} good i known f =
    sum_eq (length ts) _ _ (λ j l. split j l (ℕ_discrete j i) (dec_lt (rank ts i) (rank ts j)))
    ∙ sum_add (length ts) (λ j. cond (eqb j i) (f j) 0) _
    ∙ ap (λ x. x + sum (length ts) (λ j. cond (ltb (rank ts i) (rank ts j)) (f j) 0)) own
  where
    split : (j : ℕ) → j < length ts → Dec (j ≡ i) → Dec (rank ts i < rank ts j)
        → cond (leb (rank ts i) (rank ts j)) (f j) 0 ≡ cond (eqb j i) (f j) 0 + cond (ltb (rank ts i) (rank ts j)) (f j) 0
    split j l (yes e) r = rw (e, le-leb (rank ts i) (rank ts i) (le_refl _), eq-eqb i i refl, le-ltb (rank ts i) (rank ts i) (le_refl _)) (omega arith)
    split j l (no n) (yes r) = rw (le-leb (rank ts i) (rank ts j) (omega arith), ne_eqb j i n, lt-ltb (rank ts i) (rank ts j) r) (omega arith)
    split j l (no n) (no r) = rw (lt-leb (rank ts i) (rank ts j) (below (ℕ_discrete (rank ts j) (rank ts i))), ne_eqb j i n, le-ltb (rank ts i) (rank ts j) (omega arith))
      where
        below : Dec (rank ts j ≡ rank ts i) → rank ts j < rank ts i
        below (yes e) = absurd (n (good.ranks_differ j i l known e))
        below (no e) = omega arith

    own : sum (length ts) (λ j. cond (eqb j i) (f j) 0) ≡ f i
    own = sum_point (length ts) i _ known (λ j m n. rw (ne_eqb j i n)) ∙ rw (eq-eqb i i refl)
