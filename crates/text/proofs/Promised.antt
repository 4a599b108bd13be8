-- The contract of each call is its promise: what a caller learns of it is the predicate of `Promises`, no more and no less.
use mathlib.Core.Path.{◌≡◌, refl}
use Rattle.text.specs.Promises.{ShowPromise, ParsePromise, NumberPromise}
use Rattle.text.proofs.show.Reads as show
use Rattle.text.proofs.parse.Reads as parse
use Rattle.text.proofs.Wrong.number.Reads as number

show_promised : show.Learnt ≡ (λ κs a r e. ShowPromise a.0 a.1.0.now r e.1.0.now)
show_promised = refl

parse_promised : parse.Learnt ≡ (λ κs a r e. ParsePromise a.0.now r)
parse_promised = refl

number_promised : number.Learnt ≡ (λ κs a r e. NumberPromise a.0 r)
number_promised = refl
