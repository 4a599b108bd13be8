-- The walk of a row, over numbers: what is left between two releases, when a job is done, and the ticks at rest.
use mathlib.Core.Path.{◌≡◌, refl, sym, ap, ap₂, ◌∙◌, subst}
use mathlib.Core.List.{List}
use Prim.Native.Nat.{ℕ, zero, suc, ◌+◌, ◌-◌, ◌*◌, ◌≤◌, ◌<◌}
use native.Mathlib.Nat.{le_refl, mul-le-mul_right}
use native.Mathlib.Omega.{arith}
use native.Mathlib.Decide.{ℕ_discrete, dec_le, dec_lt}
use lib.ListN.{length, get_or, set, length-set}
use lib.Seq.{get_or-set_same, get_or-set_other}
use borrow.Author.Count.{below_more}
use Rattle.arith.specs.Ranges.{sum}
use Rattle.theory.specs.Analysis.Backlog.{drain}
use Rattle.theory.proofs.Analysis.Backlog.{drain_stretch}
use Rattle.theory.specs.Analysis.Finish.{FirstZero}
use Rattle.schedule.specs.Conditions.{rests_to, Cleared, Blocked, Walk}

pub rests_most : (a : ℕ → ℕ) (t : ℕ) → rests_to a t ≤ t
unfolding rests_to sum
rests_most a zero = omega arith
rests_most a (suc t) = omega (arith, rests_most a t)

-- Nothing comes in after tick t and before tick e.
abbrev pub Quiet : (ℕ → ℕ) → ℕ → ℕ → Type 0
Quiet a t e = (u : ℕ) → t < u → u < e → a u ≡ 0

module _ (a : ℕ → ℕ) (t e : ℕ) (quiet : Quiet a t e) where
  -- The work at tick t, with what comes in then.
  abbrev work : ℕ
  work = drain a t + a t

  -- Until e one unit of it is done in each tick.
  pub stretch : (m : ℕ) → t < m → m ≤ e → drain a m ≡ work - (m - t)
  stretch m l h = ap (drain a) here ∙ drain_stretch a t (m - suc t) (λ x p q. quiet x p (omega arith)) ∙ ap (λ n. work - n) ticks
    where
      here : m ≡ suc (t + (m - suc t))
      here = omega arith

      ticks : suc (m - suc t) ≡ m - t
      ticks = omega arith

  rest_more : (x d w : ℕ) → (x + (d - w)) + (1 - (w - d)) ≡ x + (suc d - w)
  rest_more x d w = omega arith

  -- The ticks after it are at rest.
  pub rests_stretch : (m : ℕ) → t ≤ m → m ≤ e → rests_to a m ≡ rests_to a t + ((m - t) - work)
  unfolding rests_to sum
  rests_stretch zero l h = omega (arith, ap (rests_to a) start)
    where
      start : t ≡ 0
      start = omega arith
  rests_stretch (suc m) l h = go (ℕ_discrete t (suc m)) (λ n. rests_stretch m n (omega arith))
    where
      left : t ≤ m → drain a m + a m ≡ work - (m - t)
      left n = pick (ℕ_discrete t m)
        where
          pick : Dec (t ≡ m) → drain a m + a m ≡ work - (m - t)
          pick (yes z) = omega (arith, ap (drain a) z, ap a z)
          pick (no z) = omega (arith, stretch m (omega arith) (omega arith), quiet m (omega arith) h)

      go : Dec (t ≡ suc m) → (t ≤ m → rests_to a m ≡ rests_to a t + ((m - t) - work)) → rests_to a m + (1 - (drain a m + a m)) ≡ rests_to a t + ((suc m - t) - work)
      go (yes z) rec = omega (arith, ap (rests_to a) z)
      go (no z) rec = ap₂ (λ x y. x + (1 - y)) (rec n) (left n) ∙ rest_more (rests_to a t) (m - t) work ∙ ap (λ x. rests_to a t + (x - work)) one
        where
          n : t ≤ m
          n = omega arith

          one : suc (m - t) ≡ suc m - t
          one = omega arith

-- From tick t to e, with work that is done by tick `clear`: until e no more comes in.
pub record Gap (a : ℕ → ℕ) (t e h clear : ℕ) : Type 0 where
  pub later : t < e
  pub within : e ≤ h
  pub quiet : Quiet a t e
  pub clears : clear ≡ t + drain a t + a t

-- The walk at tick t: job k, released at `release`, is the next to finish, and has not if it is released.
pub record Underway (a : ℕ → ℕ) (T h n t clear rests release k : ℕ) (xs : List ℕ) : Type 0 where
  pub so_far : t ≤ h
  pub clear_is : clear ≡ t + drain a t
  pub rests_are : rests ≡ rests_to a t
  pub release_is : release ≡ k * T
  pub due : t < release + T
  pub waits : (z : ℕ) → release < z → z ≤ t → 0 < drain a z
  pub few : k ≤ n
  pub whole : length xs ≡ n
  pub cleared : (m : ℕ) → m < k → Cleared a T m (get_or xs m 0)

module _ {a : ℕ → ℕ} {T h n : ℕ} (w : Walk a T h n) where
  pub start : (xs : List ℕ) → length xs ≡ n → Underway a T h n 0 0 0 0 0 xs
  unfolding drain rests_to sum
  start xs whole = record {
    so_far = omega arith;
    clear_is = refl;
    rests_are = refl;
    release_is = omega arith;
    due = omega (arith, w.period_positive);
    waits = λ z l m. omega arith;
    few = omega arith;
    whole = whole;
    cleared = λ m l. absurd (omega arith);
  }

  pub release_most : {t clear rests release k : ℕ} {xs : List ℕ} → Underway a T h n t clear rests release k xs → release ≤ h
  release_most {k = k} s = omega (arith, s.release_is, w.ends, mul-le-mul_right {m = k} {n = n} T s.few)

  -- At the end every job is done.
  pub finished : {t clear rests release k : ℕ} {xs : List ℕ} → Underway a T h n t clear rests release k xs → h ≤ t
      → ((m : ℕ) → m < length xs → Cleared a T m (get_or xs m 0)) × (rests ≡ rests_to a h)
  finished {t = t} {release = release} {k = k} {xs = xs} s l = (λ m q. s.cleared m (omega (arith, s.whole, all (dec_lt k n))), s.rests_are ∙ ap (rests_to a) (omega (arith, s.so_far)))
    where
      all : Dec (k < n) → n ≤ k
      all (yes q) = absurd (omega (arith, s.due, s.release_is, w.ends, mul-le-mul_right {m = suc k} {n = n} T q))
      all (no q) = omega arith

  module _ {t before rests release k e clear : ℕ} {xs : List ℕ} (s : Underway a T h n t before rests release k xs) (gap : Gap a t e h clear) where
    -- No release of the row's own task is passed over.
    own_next : (m : ℕ) → t < m * T → e ≤ m * T
    own_next m l = go (dec_le e (m * T))
      where
        go : Dec (e ≤ m * T) → e ≤ m * T
        go (yes q) = q
        go (no q) = absurd (omega (arith, gap.quiet (m * T) l (omega arith), w.own m))

    released_few : release ≤ t → k < n
    released_few l = go (dec_lt k n)
      where
        go : Dec (k < n) → k < n
        go (yes q) = q
        go (no q) = absurd (omega (arith, s.release_is, gap.later, gap.within, w.ends, mul-le-mul_right {m = n} {n = k} T (omega arith)))

    pub some_work : release ≤ t → t < clear
    some_work l = go (ℕ_discrete release t)
      where
        go : Dec (release ≡ t) → t < clear
        go (yes q) = omega (arith, w.own k, gap.clears, ap a (sym s.release_is ∙ q))
        go (no q) = omega (arith, gap.clears, s.waits t (omega arith) (le_refl t))

    -- What is left in the gap.
    left_at : (m : ℕ) → t < m → m ≤ e → drain a m ≡ clear - m
    left_at m l q = omega (arith, gap.clears, stretch a t e gap.quiet m l q)

    wait_on : e < clear → (z : ℕ) → release < z → z ≤ e → 0 < drain a z
    wait_on g z l m = go (dec_le z t)
      where
        go : Dec (z ≤ t) → 0 < drain a z
        go (yes q) = s.waits z l q
        go (no q) = omega (arith, left_at z (omega arith) m)

    rested : rests_to a e ≡ rests + (e - clear)
    rested = omega (arith, rests_stretch a t e gap.quiet e (omega (arith, gap.later)) (le_refl e), s.rests_are, gap.clears)

    -- The work goes on to the next release, and no job of the row falls due there.
    pub waited : e < clear → e < release + T → Underway a T h n e clear rests release k xs
    waited g d = record {
      so_far = gap.within;
      clear_is = omega (arith, left_at e gap.later (le_refl e));
      rests_are = omega (arith, rested);
      release_is = s.release_is;
      due = d;
      waits = wait_on g;
      few = s.few;
      whole = s.whole;
      cleared = s.cleared;
    }

    -- Or one does: the job is not done.
    pub blocked : e < clear → release + T ≤ e → (k : ℕ) × (k < length xs) × Blocked a T k
    blocked g d = (k, omega (arith, s.whole, released_few (go (dec_le release t))), λ z l m. wait_on g z (omega (arith, s.release_is)) (omega (arith, s.release_is)))
      where
        go : Dec (release ≤ t) → release ≤ t
        go (yes q) = q
        go (no q) = absurd (omega (arith, own_next k (omega (arith, s.release_is)), s.release_is, w.period_positive))

    -- The work ends, and the row's next job is not released yet.
    pub rested_on : clear ≤ e → t < release → Underway a T h n e e (rests + (e - clear)) release k xs
    rested_on g l = record {
      so_far = gap.within;
      clear_is = omega (arith, left_at e gap.later (le_refl e));
      rests_are = sym rested;
      release_is = s.release_is;
      due = omega (arith, own_next k (omega (arith, s.release_is)), s.release_is, w.period_positive);
      waits = λ z m q. absurd (omega (arith, own_next k (omega (arith, s.release_is)), s.release_is));
      few = s.few;
      whole = s.whole;
      cleared = s.cleared;
    }

    -- The work ends, and with it job k.
    module _ (g : clear ≤ e) (l : release ≤ t) where
      next_release_lem : e ≤ release + T
      next_release_lem = omega (arith, own_next (suc k) (omega (arith, s.due, s.release_is)), s.release_is)

      pub place_fits : k < length xs
      place_fits = omega (arith, s.whole, released_few l)

      clears : FirstZero (drain a) (k * T) clear
      clears = record {
        after = omega (arith, s.release_is, some_work l);
        is_zero = omega (arith, left_at clear (some_work l) g);
        first = λ z m q. go z m q (dec_le z t) (dec_le clear z);
      }
        where
          go : (z : ℕ) → k * T < z → drain a z ≡ 0 → Dec (z ≤ t) → Dec (clear ≤ z) → clear ≤ z
          go z m q (yes x) y = absurd (omega (arith, s.waits z (omega (arith, s.release_is)) x))
          go z m q (no x) (yes y) = y
          go z m q (no x) (no y) = absurd (omega (arith, left_at z (omega arith) (omega arith)))

      done_then : Cleared a T k (clear - release)
      done_then = record {
        soon = omega (arith, next_release_lem);
        clears = subst (FirstZero (drain a) (k * T)) (omega (arith, s.release_is, some_work l)) clears;
      }

      pub job_done : Underway a T h n e e (rests + (e - clear)) (release + T) (k + 1) (set xs k (clear - release))
      job_done = record {
        so_far = gap.within;
        clear_is = omega (arith, left_at e gap.later (le_refl e));
        rests_are = sym rested;
        release_is = omega (arith, s.release_is);
        due = omega (arith, next_release_lem, w.period_positive);
        waits = λ z m q. absurd (omega (arith, next_release_lem));
        few = omega (arith, released_few l);
        whole = length-set xs k _ ∙ s.whole;
        cleared = below_more (λ m. Cleared a T m (get_or (set xs k (clear - release)) m 0)) k
            (λ m q. subst (Cleared a T m) (sym (get_or-set_other xs k m _ 0 (λ z. omega arith))) (s.cleared m q))
            (subst (Cleared a T k) (sym (get_or-set_same xs k _ 0 place_fits)) done_then);
      }
