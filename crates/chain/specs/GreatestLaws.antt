-- The greatest of some numbers, found one by one, and the first place that holds it.
use Rattle.std.specs.Prelude.{◌≡◌, refl, Bool, ℕ, ◌+◌, ◌-◌, ◌≤◌, ◌<◌, eqb}
use Rattle.std.proofs.Common.{sym, ◌∙◌, add-one, arith, eqb-true, eq-eqb}
use Rattle.std.proofs.Math.Path.{ap}
use Rattle.std.proofs.Math.Decide.{dec_lt}
use Rattle.arith.specs.Ranges.{maximum, least}
use Rattle.arith.specs.RangeLaws.{maximum_above, least_passes, least_first}

-- Of the first n numbers the greatest is `most`, and `at` is the first place that holds it.
pub record GreatestTo (f : ℕ → ℕ) (n most at : ℕ) : Type 0 where
  pub is_greatest : most ≡ maximum n f
  pub early : at ≤ n - 1
  pub holds : 0 < n → f at ≡ most
  pub first : (j : ℕ) → j < at → f j < most

module _ (f : ℕ → ℕ) where
  pub greatest_none : GreatestTo f 0 0 0
  unfolding maximum
  greatest_none = record { is_greatest = refl; early = omega arith; holds = λ l. absurd (omega arith); first = λ j l. absurd (omega arith) }

  pub greatest_new : (n most at : ℕ) → GreatestTo f n most at → most < f n → GreatestTo f (n + 1) (f n) n
  unfolding maximum
  greatest_new n most at g l = rw (add-one n) (record {
    is_greatest = omega (arith, g.is_greatest);
    early = omega arith;
    holds = λ x. refl;
    first = λ j m. omega (arith, maximum_above n f j m, g.is_greatest);
  })

  pub greatest_kept : (n most at : ℕ) → GreatestTo f n most at → f n ≤ most → GreatestTo f (n + 1) most at
  unfolding maximum
  greatest_kept n most at g l = rw (add-one n) (record {
    is_greatest = omega (arith, g.is_greatest);
    early = omega (arith, g.early);
    holds = λ x. go (dec_lt 0 n);
    first = g.first;
  })
    where
      go : Dec (0 < n) → f at ≡ most
      go (yes h) = g.holds h
      go (no h) = ap f {x = at} {y = n} (omega (arith, g.early)) ∙ omega (arith, g.is_greatest, ap (λ x. maximum x f) {x = n} {y = 0} (omega arith))

  pub greatest_first : (n most at : ℕ) → GreatestTo f n most at → 0 < n → least n (λ k. eqb (f k) (maximum n f)) ≡ at
  greatest_first n most at g h = omega (arith, low, late)
    where
      test : ℕ → Bool
      test k = eqb (f k) (maximum n f)

      low : least n test ≤ at
      low = least_first n test at (eq-eqb (f at) (maximum n f) (g.holds h ∙ g.is_greatest))

      found : f (least n test) ≡ most
      found = eqb-true _ _ (least_passes n test (omega (arith, low, g.early))) ∙ sym g.is_greatest

      late : ¬ (least n test < at)
      late l = omega (arith, found, g.first (least n test) l)
