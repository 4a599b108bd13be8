-- The paths of a run: from each job there is one, it is no longer than the delay of its chain, and where ranks rise it is as long at full budgets.
-- A run has at most one path from a job
use Rattle.std.specs.Prelude.{◌≡◌, ◌≢◌, false, ℕ, suc, ◌+◌, ◌≤◌, ◌<◌}
use Rattle.std.proofs.Common.{sym, ap, ◌∙◌, subst, le_antisymm, mul-div_cancel, mul-le-mul_right, arith, ltb-false}
use mathlib.Core.List.{List, [], ◌∷◌}
use Rattle.std.proofs.Math.ListN.{length}
use Rattle.arith.specs.Whole.{up}
use Rattle.arith.specs.WholeLaws.{up_above, up_near}
use Rattle.theory.specs.declared.Task.{Task}
use Rattle.theory.specs.Model.Schedule.{period, release, rank, Demands, Within, Run, Pending, Schedule, Starts, Finishes}
use Rattle.theory.specs.Model.Responses.{full, response, Accepted}
use Rattle.theory.proofs.Analysis.Work.{done_grows, need_step, due_covers}
use Rattle.theory.proofs.Analysis.Finish.{finish_before, finish_unique, start_released}
use Rattle.theory.proofs.Analysis.ResponseLaws.{response_finishes}
use Rattle.theory.proofs.Analysis.Repetition.{never_late, response_period}
use Rattle.theory.proofs.Analysis.NeverLater.{full_within, job_starts, job_finishes, finish_response}
use Rattle.theory.specs.Model.Chain.{Chain, outranked, next_release, delay, HandOver, PathEnds, Rising}
use Rattle.theory.proofs.Analysis.ChainLaws.{chain_head, next_outranking, next_job_lem, delay_step}
use Rattle.theory.specs.Analysis.WalkPaths.{Keeps}
use Rattle.theory.proofs.Analysis.WalkPaths.{walk_path_within, walk_path_exists}
use Rattle.theory.specs.Analysis.Paths.{next_job}

hand_over_unique : {d : Demands} {run : Run} {p c k m n : ℕ} → HandOver d run p c k m → HandOver d run p c k n → m ≡ n
hand_over_unique x y = le_antisymm (one x y) (one y x)
  where
    one : {d : Demands} {run : Run} {p c k m n : ℕ} → HandOver d run p c k m → HandOver d run p c k n → m ≤ n
    one {n = n} x y = x.first n y.read y.starts (omega (arith, finish_unique x.finishes y.finishes, y.in_time))

pub path_unique : (d : Demands) (run : Run) (p : ℕ) (rest : List ℕ) (k f g : ℕ) → PathEnds d run p rest k f
    → PathEnds d run p rest k g → f ≡ g
path_unique d run p [] k f g x y = finish_unique x y
path_unique d run p (c ∷ rest) k f g x y =
    path_unique d run c rest y.0 f g (subst (λ m. PathEnds d run c rest m f) (hand_over_unique x.1 y.1) x.2) y.2

-- Every demand

module _ {ts : List Task} (ok : Accepted ts) {d : Demands} {run : Run} (s : Schedule ts d run) (w : Within ts d) where
  positive : (i : ℕ) → i < length ts → 0 < period ts i
  positive = ok.proper.period_positive

  -- A job of c released no sooner than a job of p, which outranks it, starts no sooner than that one is finished: until then p is pending.
  starts_after : (p c k m f t : ℕ) → p < length ts → c < length ts → rank ts c < rank ts p → release ts p k ≤ release ts c m
      → Finishes d run p k f → Starts d run c m t → f ≤ t
  starts_after p c k m f t lp lc lower sooner x y =
      let no : ¬ (t < f) = λ l. omega (arith, s.runs_greatest t c p y.runs_first lp (pending l)) in omega arith
    where
      pending : t < f → Pending ts d run p t
      pending l =
          omega (arith, finish_before x t l, due_covers ts d p (positive p lp) k (suc t) (omega (arith, start_released ok.proper s c m lc t y)))

  -- The schedule keeps to document 01's walk.
  schedule_keeps : Keeps (length ts) (period ts) (outranked ts) (response ts) d run
  schedule_keeps = record {
    positive = positive;
    starts = job_starts ok s w;
    finishes = job_finishes ok s w;
    released = λ i k t l x. start_released ok.proper s i k l t x;
    in_time = λ i k f l x. finish_response ok s w i k l f x;
    by_next = λ i k l. response_period ok i l k;
    in_order = λ p c k m f t lp lc differ e. starts_after p c k m f t lp lc (lower p c lp lc differ e);
  }
    where
      lower : (p c : ℕ) → p < length ts → c < length ts → p ≢ c → outranked ts p c ≡ false → rank ts c < rank ts p
      lower p c lp lc differ e =
          let apart : rank ts p ≢ rank ts c = λ q. differ (ok.proper.ranks_differ p c lp lc q) in
          omega (arith, ltb-false (rank ts p) (rank ts c) e)

  -- A path from a job ends within the delay of its release, or of any later one of its task.
  pub path_within : (p : ℕ) (rest : List ℕ) → Chain ts p rest → (k m f : ℕ) → k ≤ m → PathEnds d run p rest k f
      → f ≤ release ts p m + delay ts (response ts) p rest (release ts p m)
  unfolding delay
  path_within = walk_path_within schedule_keeps

  pub path_exists : (p : ℕ) (rest : List ℕ) → Chain ts p rest → (k : ℕ) → (f : ℕ) × PathEnds d run p rest k f
  path_exists = walk_path_exists schedule_keeps

-- Full budgets and rising ranks

next_released : (ts : List Task) (p c k : ℕ) → release ts c (next_job ts p c k) ≡ next_release ts (response ts) p c (release ts p k)
next_released ts p c k = next_job_lem ts (response ts) p c (release ts p k)

module _ {ts : List Task} (ok : Accepted ts) {run : Run} (s : Schedule ts (full ts) run) where
  -- Where c outranks p, no job of c is pending in p's last tick, so those released by then have started:
  -- the next one released is the first to read.
  hand_over_exact : (p c k : ℕ) → p < length ts → c < length ts → rank ts p < rank ts c → HandOver (full ts) run p c k (next_job ts p c k)
  hand_over_exact p c k lp lc higher = record { write = f; finishes = x; read = y.0; starts = y.1; in_time = in_time; first = first }
    where
      T : 0 < period ts c
      T = ok.proper.period_positive c lc

      f : ℕ
      f = release ts p k + response ts p k

      x : Finishes (full ts) run p k f
      x = response_finishes ok.proper p k lp (never_late ok p lp k) s

      y : (t : ℕ) × Starts (full ts) run c (next_job ts p c k) t
      y = job_starts ok s (full_within ok.proper) c (next_job ts p c k) lc

      next : release ts c (next_job ts p c k) ≡ up (period ts c) f
      next = next_released ts p c k ∙ next_outranking ts (response ts) p c (release ts p k) higher
          ∙ ap (λ j. up (period ts c) (release ts p k + response ts p j)) (mul-div_cancel k (ok.proper.period_positive p lp))

      in_time : f ≤ y.0
      in_time = omega (arith, up_above (period ts c) f T, next, start_released ok.proper s c (next_job ts p c k) lc y.0 y.1)

      first : (j t : ℕ) → Starts (full ts) run c j t → f ≤ t → next_job ts p c k ≤ j
      first j t z h =
          let no : ¬ (j < next_job ts p c k) = λ l. omega (arith, s.runs_greatest x.last p c x.runs_last lc (pending l)) in omega arith
        where
          released : j < next_job ts p c k → release ts c j < f
          released l = omega (arith, up_near (period ts c) f T, next, mul-le-mul_right {m = suc j} {n = next_job ts p c k} (period ts c) l)

          pending : j < next_job ts p c k → Pending ts (full ts) run c x.last
          pending l = omega (
            arith,
            z.done_before,
            need_step (full ts) c j,
            ok.proper.budget_positive c lc,
            done_grows run c x.last t (omega (arith, x.is_next)),
            due_covers ts (full ts) c T j (suc x.last) (omega (arith, released l, x.is_next)),
          )

  -- The path from a job ends exactly the delay after its release.
  pub path_exact : (p : ℕ) (rest : List ℕ) → Chain ts p rest → Rising ts p rest → (k : ℕ)
      → PathEnds (full ts) run p rest k (release ts p k + delay ts (response ts) p rest (release ts p k))
  unfolding delay
  path_exact p [] l u k =
      rw (mul-div_cancel k (ok.proper.period_positive p l)) (response_finishes ok.proper p k l (never_late ok p l k) s)
  path_exact p (c ∷ rest) l u k =
      (next_job ts p c k, hand_over_exact p c k l.0 lc u.0, rw ends at (path_exact c rest l.2 u.1 (next_job ts p c k)))
    where
      lc : c < length ts
      lc = chain_head ts c rest l.2

      ends : release ts c (next_job ts p c k) + delay ts (response ts) c rest (release ts c (next_job ts p c k))
          ≡ release ts p k + delay ts (response ts) p (c ∷ rest) (release ts p k)
      ends =
          ap (λ x. x + delay ts (response ts) c rest x) (next_released ts p c k)
          ∙ sym (delay_step ts (response ts) p c (release ts p k) rest (ok.proper.period_positive c lc))
