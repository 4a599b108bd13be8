-- The contract of each call is its promise: what a caller learns of it is the predicate of `Promises`, no more and no less.
use mathlib.Core.Path.{◌≡◌, refl}
use Rattle.answers.specs.Promises.{NumberPromise, ValuePromise}
use Rattle.answers.proofs.Refusal.number.Reads as number
use Rattle.answers.proofs.Refusal.value.Reads as value

number_promised : number.Learnt ≡ (λ κs a r e. NumberPromise a.0 r)
number_promised = refl

value_promised : value.Learnt ≡ (λ κs a r e. ValuePromise a.0 r)
value_promised = refl
