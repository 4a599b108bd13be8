-- The recurrence on sheets: Radio, one whose hyperperiod is over 1,000,000,000, a task that just fits and one that just does not.
use Rattle.std.specs.Prelude.{◌≡◌, refl}
use Rattle.arith.specs.Ranges.{sum, least}
use Rattle.theory.specs.Model.Recurrence.{quotient, claim, fixed_point, quick_response}
use Rattle.theory.specs.Results.Examples.{radio}
use Rattle.theory.specs.Results.QuickExamples.{odd, fitting, passing}

pub radio_quick : (quick_response radio 0 ≡ 10) × (quick_response radio 1 ≡ 1) × (quick_response radio 2 ≡ 4)
unfolding fixed_point claim quotient least sum
radio_quick = (refl, refl, refl)

pub odd_quick : (quick_response odd 0 ≡ 300) × (quick_response odd 1 ≡ 600) × (quick_response odd 2 ≡ 900)
unfolding fixed_point claim quotient least sum
odd_quick = (refl, refl, refl)

pub edge_quick : (quick_response fitting 1 ≡ 8) × (quick_response passing 1 ≡ 9)
unfolding fixed_point claim quotient least sum
edge_quick = (refl, refl)
