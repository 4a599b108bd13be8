-- The contract of each call is its promise: what a caller learns of it is the predicate of `Promises`, no more and no less.
use mathlib.Core.Path.{◌≡◌, refl}
use Rattle.recurrence.specs.Promises.{PairBoundPromise, BoundPromise, SuitePromise}
use Rattle.recurrence.proofs.pair_bound.Reads as pair_bound
use Rattle.recurrence.proofs.bound.Reads as bound
use Rattle.recurrence.proofs.suite.Reads as suite

pair_bound_promised : pair_bound.Learnt ≡ (λ κs a r e. PairBoundPromise a.0 a.1.0 a.1.1.0 r)
pair_bound_promised = refl

bound_promised : bound.Learnt ≡ (λ κs a r e. BoundPromise a.0 a.1.0 r)
bound_promised = refl

suite_promised : suite.Learnt ≡ (λ κs a r e. SuitePromise a.0 r)
suite_promised = refl
