-- What the calls promise.
use Rattle.std.specs.Prelude.{◌≡◌, ℕ, List, [], ◌∷◌, Option, Some, None}
use Rattle.answers.specs.declared.Refusal.{Refusal}
use Rattle.answers.specs.Answers.{number_in, values_in}

abbrev pub NumberPromise : Refusal → ℕ → Type 0
NumberPromise r number = number ≡ number_in r

-- the value, if there is one
abbrev pub list_of : Option ℕ → List ℕ
list_of None = []
list_of (Some value) = value ∷ []

abbrev pub ValuePromise : Refusal → Option ℕ → Type 0
ValuePromise r value = list_of value ≡ values_in r
