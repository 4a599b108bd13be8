-- The contract of each call is its promise: what a caller learns of it is the predicate of `Promises`, no more and no less.
use mathlib.Core.Path.{◌≡◌, refl}
use Rattle.arith.specs.Promises.{GcdPromise, LcmPromise, UpPromise, GreatestPromise, MagnitudePromise}
use Rattle.arith.proofs.gcd.Reads as gcd
use Rattle.arith.proofs.lcm.Reads as lcm
use Rattle.arith.proofs.up.Reads as up
use Rattle.arith.proofs.greatest.Reads as greatest
use Rattle.arith.proofs.magnitude.Reads as magnitude

gcd_promised : gcd.Learnt ≡ (λ κs a r e. GcdPromise a.0 a.1.0 r)
gcd_promised = refl

lcm_promised : lcm.Learnt ≡ (λ κs a r e. LcmPromise a.0 a.1.0 a.1.1.0 r)
lcm_promised = refl

up_promised : up.Learnt ≡ (λ κs a r e. UpPromise a.0 a.1.0 r)
up_promised = refl

greatest_promised : greatest.Learnt ≡ (λ κs a r e. GreatestPromise a.0.now r)
greatest_promised = refl

magnitude_promised : magnitude.Learnt ≡ (λ κs a r e. MagnitudePromise a.0 r)
magnitude_promised = refl
