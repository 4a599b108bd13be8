-- The definitions, evaluated: at 0, and at numbers of document 01's sheets.
use Rattle.std.specs.Prelude.{◌≡◌, refl, Some, None}
use Rattle.arith.specs.Whole.{gcd, lcm, up}
use Rattle.arith.specs.Limit.{within}

with_zero : (gcd 0 7 ≡ 7) × (gcd 7 0 ≡ 7) × (gcd 0 0 ≡ 0) × (lcm 0 7 ≡ 0) × (lcm 0 0 ≡ 0) × (up 0 7 ≡ 0)
unfolding gcd lcm up
with_zero = (refl, refl, refl, refl, refl, refl)

-- The hyperperiods of Trio, Radio and Quartet, and of both halves of sheet 9.
hyperperiods : (lcm 8 (lcm 2 4) ≡ 8) × (lcm 20 (lcm 6 12) ≡ 60) × (lcm 6 (lcm 6 (lcm 3 6)) ≡ 6) × (lcm 2 16382 ≡ 16382) × (lcm 2 16384 ≡ 16384)
unfolding lcm
hyperperiods = (refl, refl, refl, refl, refl)

-- Sheet 8: one half is taken, the other is over the limit.
halves_of_sheet_8 : (gcd 1000 1001 ≡ 1) × (within 1000000 (lcm 1000 999) ≡ Some 999000) × (within 1000000 (lcm 1000 1001) ≡ None)
unfolding gcd lcm within
halves_of_sheet_8 = (refl, refl, refl)

-- Radio's walk from 0: the first job is done at 10, and 12 is a release of both other tasks.
walk_of_radio : (up 6 10 ≡ 12) × (up 12 12 ≡ 12)
unfolding up
walk_of_radio = (refl, refl)
