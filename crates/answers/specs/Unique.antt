-- One input, one answer: two answers that meet the call's promise are equal.
use Rattle.std.specs.Prelude.{◌≡◌, ℕ, Option, Some, None, Result, Err}
use Rattle.std.proofs.Common.{sym, ◌∙◌}
use Rattle.answers.specs.declared.Refusal.{Refusal}
use Rattle.answers.specs.Promises.{NumberPromise, ValuePromise, list_of}

pub number_unique : (r : Refusal) (m n : ℕ) → NumberPromise r m → NumberPromise r n → m ≡ n
number_unique r m n h g = h ∙ sym g

list_unique : (x y : Option ℕ) → list_of x ≡ list_of y → x ≡ y
list_unique None None e = cc
list_unique None (Some y) e = cc
list_unique (Some x) None e = cc
list_unique (Some x) (Some y) e = cc

pub value_unique : (r : Refusal) (x y : Option ℕ) → ValuePromise r x → ValuePromise r y → x ≡ y
value_unique r x y h g = list_unique x y (h ∙ sym g)

-- What is refused has one refusal.
pub refusal_of_unique : {A : Type 0} (v : Result A Refusal) (r q : Refusal) → v ≡ Err r → v ≡ Err q → r ≡ q
refusal_of_unique v r q h g = cc
