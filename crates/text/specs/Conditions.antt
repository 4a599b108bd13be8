-- What the functions ask of each other: what is put on a page, the names of a reading, and the bytes that it passes over.
use Rattle.std.specs.Prelude.{◌≡◌, Bool, true, false, cond, List, map, ℕ, ◌++◌, eqb, take}
use Rattle.std.specs.Borrow.{Bor}
use Rattle.text.specs.declared.Place.{Place}
use Rattle.text.specs.Run.{begins}

-- The text is put at the end of a page, which holds its first 4,096 bytes.
pub record Puts (old text new : List ℕ) : Type 0 where
  pub front : take 4096 new ≡ take 4096 (old ++ text)

-- The names that a reading lends.
abbrev pub names_of : List (Bor (List ℕ)) → List (List ℕ)
names_of names = map (λ n. n.now) names

-- This byte ends no line, and no word begins at it.
unfoldable pub passes : Place → ℕ → Bool
passes p b = cond (eqb b 10) false (cond (begins p b) false true)
