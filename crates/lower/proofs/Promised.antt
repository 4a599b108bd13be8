-- The contract of the call is its promise: what a caller learns of it is the predicate of `Promises`, no more and no less.
use mathlib.Core.Path.{◌≡◌, refl}
use Rattle.lower.specs.Promises.{ComparePromise}
use Rattle.lower.proofs.compare.Reads as compare

compare_promised : compare.Learnt ≡ (λ κs a r e. ComparePromise a.0 a.1.0 r)
compare_promised = refl
