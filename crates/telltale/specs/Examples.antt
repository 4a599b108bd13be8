-- The definitions, evaluated.
use Rattle.std.specs.Prelude.{◌≡◌, false, [], ◌∷◌, refl}
use Rattle.answers.specs.Answers.{given, refused}
use Rattle.telltale.specs.Calls.{fresh, elapsed, begun_of, stamp_of}
use Rattle.telltale.specs.Runs.{begin, stamp, run}

-- Across the rollover, and on both sides of the limit.
rollover : (elapsed 4294967290 4 ≡ 10) × (elapsed 4 4294967290 ≡ 4294967286) × (elapsed 7 7 ≡ 0)
unfolding elapsed
rollover = (refl, refl, refl)

limit : (stamp_of (begun_of fresh 5) 2147483652 ≡ given 2147483647) × (stamp_of (begun_of fresh 5) 2147483653 ≡ refused 26 []) × (stamp_of fresh 5 ≡ refused 25 [])
unfolding elapsed begun_of stamp_of
limit = (refl, refl, refl)

-- The older counter is kept; the second stamp finds none under way; the second reading is shorter.
two_readings : run fresh (begin 10 ∷ begin 30 ∷ stamp 45 ∷ stamp 50 ∷ begin 60 ∷ stamp 62 ∷ []) ≡ record { underway = false; counter = 0; longest = 35; count = 2 }
unfolding elapsed begun_of stamp_of
two_readings = refl
