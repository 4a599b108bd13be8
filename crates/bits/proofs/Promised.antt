-- The contract of each call is its promise: what a caller learns of it is the predicate of `Promises`, no more and no less.
use mathlib.Core.Path.{◌≡◌, refl}
use Rattle.bits.specs.Promises.{NumberPromise, PutPromise, SurplusPromise}
use Rattle.bits.proofs.number.Reads as number
use Rattle.bits.proofs.put.Reads as put
use Rattle.bits.proofs.surplus.Reads as surplus

number_promised : number.Learnt ≡ (λ κs a r e. NumberPromise a.0.now a.1.0 a.1.1.0 r)
number_promised = refl

put_promised : put.Learnt ≡ (λ κs a r e. PutPromise a.0.now a.1.0 a.1.1.0 a.1.1.1.0 e.0.now)
put_promised = refl

surplus_promised : surplus.Learnt ≡ (λ κs a r e. SurplusPromise a.0.now a.1.0 r)
surplus_promised = refl
