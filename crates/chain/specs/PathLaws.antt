-- Laws of a path: how far its hand-overs lie apart, and what its first hand-over leaves.
use Rattle.std.specs.Prelude.{◌≡◌, refl, Bool, true, false, cond, List, [], ◌∷◌, ℕ, ◌+◌, ◌-◌, ◌*◌, ◌/◌, ◌%◌, ◌≤◌, ◌<◌, length, get_or, take, drop}
use Rattle.std.proofs.Common.{sym, ap, ap₂, ◌∙◌, subst, mod-lt, mul-div_cancel, mul-le-mul_right, le_trans, take_all, length-drop, get_or-drop, arith}
use Rattle.std.proofs.Math.Nat.{le_of_dvd}
use Rattle.arith.specs.Whole.{gcd, up}
use Rattle.arith.specs.WholeLaws.{gcd_divides_right, gcd_pos, up_above, up_near}
use Rattle.arith.specs.Ranges.{maximum, least}
use Rattle.arith.specs.RangeLaws.{maximum_least}
use Rattle.schedule.specs.Calls.{most_ticks}
use Rattle.chain.specs.declared.answer.Figure.{Figure}
use Rattle.chain.specs.declared.row.Row.{Row}
use Rattle.chain.specs.declared.row.HandOver.{HandOver}
use Rattle.chain.specs.Most.{most_period, most_wait}
use Rattle.chain.specs.Paths.{response_in, greatest_in, waits_in, next_in, pair_in, HandedOver, period_in, count_in, delay_in, bound_in, ahead, FirstHandedOver, Greatest}

-- ---- the largest figures

pub response_small : (row : Row) (k : ℕ) → response_in row k ≤ most_period
response_small row k = row.response_most (k % length row.responses.now) (mod-lt k row.some)

pub greatest_small : (row : Row) → greatest_in row ≤ most_period
greatest_small row = maximum_least (length row.responses.now) _ most_period row.response_most

module _ (p c : Row) where
  -- A hand-over, from a release and the next one;
  pub next_near : (k : ℕ) → next_in p c k ≤ k * p.task.period + most_wait
  next_near k = go (waits_in p c)
    where
      go : (b : Bool) → up c.task.period (cond b (k * p.task.period + response_in p k) (k * p.task.period)) ≤ k * p.task.period + most_wait
      go true = omega (arith, up_near c.task.period (k * p.task.period + response_in p k) c.period_positive, response_small p k, c.period_most)
      go false = omega (arith, up_near c.task.period (k * p.task.period) c.period_positive, c.period_most)

  pub next_later : (k : ℕ) → k * p.task.period ≤ next_in p c k
  next_later k = go (waits_in p c)
    where
      go : (b : Bool) → k * p.task.period ≤ up c.task.period (cond b (k * p.task.period + response_in p k) (k * p.task.period))
      go true = omega (arith, up_above c.task.period (k * p.task.period + response_in p k) c.period_positive)
      go false = up_above c.task.period (k * p.task.period) c.period_positive

  -- and what it adds to the quick bound.
  abbrev g : ℕ
  g = gcd p.task.period c.task.period

  pub common_most : g ≤ c.task.period
  common_most = le_of_dvd c.period_positive (gcd_divides_right _ _)

  pub up_most : up g (greatest_in p) ≤ greatest_in p + g
  up_most = omega (arith, up_near g (greatest_in p) (gcd_pos _ c.task.period p.period_positive))

  pub pair_near : pair_in p c ≤ most_wait
  pair_near = go (waits_in p c)
    where
      go : (b : Bool) → (c.task.period - g) + cond b (up g (greatest_in p)) 0 ≤ most_wait
      go true = omega (arith, common_most, up_most, greatest_small p, c.period_most)
      go false = omega (arith, c.period_most)

-- A path's delay and its bound.
pub delay_near : (path : List Row) (k : ℕ) → delay_in path k ≤ most_wait * length path
delay_near [] k = omega arith
delay_near (p ∷ []) k = omega (arith, response_small p k)
delay_near (p ∷ c ∷ rest) k = omega (arith, next_near p c k, delay_near (c ∷ rest) (next_in p c k / c.task.period))

pub bound_near : (path : List Row) → bound_in path ≤ most_wait * length path
bound_near [] = omega arith
bound_near (p ∷ []) = omega (arith, greatest_small p)
bound_near (p ∷ c ∷ rest) = omega (arith, pair_near p c, bound_near (c ∷ rest))

-- ---- the first hand-over

pub job_of : (p c : Row) (k : ℕ) (next : HandOver) → HandedOver p c k next → next.job ≡ next_in p c k / c.task.period
job_of p c k next h = sym (mul-div_cancel next.job c.period_positive) ∙ ap (λ x. x / c.task.period) h.job_is

pub delay_more : (p c : Row) (rest : List Row) (k : ℕ) (next : HandOver) → HandedOver p c k next
    → delay_in (p ∷ c ∷ rest) k ≡ next.wait + delay_in (c ∷ rest) next.job
delay_more p c rest k next h = ap₂ (λ w j. w + delay_in (c ∷ rest) j) (sym h.wait_is) (sym (job_of p c k next h))

pub handed_more : (p c : Row) (rest : List Row) (k : ℕ) (next : HandOver) → HandedOver p c k next → FirstHandedOver (p ∷ c ∷ rest) (c ∷ rest) k next
handed_more p c rest k next h = record {
  delay_is = delay_more p c rest k next h;
  meets = omega (arith, next_later p c k, h.wait_is, h.job_is);
  near = omega (arith, next_near p c k, h.wait_is);
}

-- A path that is known by its first two rows: that between these,
pub handed_first : (path : List Row) (k : ℕ) (next : HandOver) (p c : Row) → 2 ≤ length path → p ≡ get_or path 0 p → c ≡ get_or path 1 c
    → HandedOver p c k next → FirstHandedOver path (ahead path) k next
handed_first [] k next p c l e q h = absurd (omega arith)
handed_first (x ∷ []) k next p c l e q h = absurd (omega arith)
handed_first (x ∷ y ∷ rest) k next p c l e q h = handed_more x y rest k next (subst (λ p. HandedOver p y k next) e (subst (λ c. HandedOver p c k next) q h))

-- after which the rest is left: a part that goes to the end.
pub part_from : {A : Type 0} (n : ℕ) (xs : List A) → take (length xs - n) (drop n xs) ≡ drop n xs
part_from n xs = take_all (length xs - n) (drop n xs) (omega (arith, length-drop n xs))

pub rest_part : (path : List Row) → take (length path - 1) (drop 1 path) ≡ drop 1 path
rest_part = part_from 1

ahead_rest : (path : List Row) → 2 ≤ length path → ahead path ≡ drop 1 path
ahead_rest [] l = absurd (omega arith)
ahead_rest (p ∷ []) l = absurd (omega arith)
ahead_rest (p ∷ c ∷ rest) l = refl

pub handed_rest : (path : List Row) (k : ℕ) (next : HandOver) (p c : Row) → 2 ≤ length path → p ≡ get_or path 0 p → c ≡ get_or (take (length path - 1) (drop 1 path)) 0 c
    → HandedOver p c k next → FirstHandedOver path (take (length path - 1) (drop 1 path)) k next
handed_rest path k next p c l e q h =
    subst (λ rest. FirstHandedOver path rest k next) (ahead_rest path l ∙ sym (rest_part path))
    (handed_first path k next p c l e (q ∙ ap (λ xs. get_or xs 0 c) (rest_part path) ∙ get_or-drop 1 path 0 c) h)

-- What is left is shorter where it was long.
pub ahead_few : (path : List Row) → length path ≤ 16 → length (ahead path) ≤ 15
ahead_few [] l = omega arith
ahead_few (p ∷ []) l = omega arith
ahead_few (p ∷ c ∷ rest) l = omega arith

-- Jobs that are handed over to one job end together, so the earlier one has the longer delay.
pub handed_together : (path rest : List Row) {j k : ℕ} {x y : HandOver} → k ≤ j → FirstHandedOver path rest k x → FirstHandedOver path rest j y → x.job ≡ y.job
    → delay_in path j ≤ delay_in path k
handed_together path rest {j} {k} l p q e = omega (
  arith,
  p.delay_is,
  q.delay_is,
  p.meets,
  q.meets,
  ap (delay_in rest) e,
  ap (λ m. m * period_in rest) e,
  mul-le-mul_right {m = k} {n = j} (period_in path) l,
)

-- ---- the first row

pub path_none : (path : List Row) → length path < 1 → (figure : Figure) → (figure.ticks ≡ 0) × (figure.release ≡ 0)
    → Greatest (count_in path) (period_in path) (delay_in path) figure
unfolding maximum least
path_none [] l figure e = record { ticks_is = e.0; release_is = e.1 }
path_none (p ∷ rest) l figure e = absurd (omega arith)

pub path_released : (path : List Row) (p : Row) → 1 ≤ length path → p ≡ get_or path 0 p → period_in path ≡ p.task.period
path_released [] p l e = absurd (omega arith)
path_released (x ∷ rest) p l e = ap (λ (p : Row). p.task.period) (sym e)

pub path_jobs : (path : List Row) (p : Row) → 1 ≤ length path → p ≡ get_or path 0 p → count_in path ≡ length p.responses.now
path_jobs [] p l e = absurd (omega arith)
path_jobs (x ∷ rest) p l e = ap (λ (p : Row). length p.responses.now) (sym e)

pub path_early : (path : List Row) (p : Row) → 1 ≤ length path → p ≡ get_or path 0 p → (k : ℕ) → k ≤ length p.responses.now → k * period_in path ≤ most_ticks
path_early path p l e k m = rw (path_released path p l e) (le_trans (mul-le-mul_right p.task.period m) p.before)
