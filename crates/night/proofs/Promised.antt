-- The contract of the call is its promise: what a caller learns of it is the predicate of `Promises`, no more and no less.
use Rattle.std.proofs.Common.{◌≡◌, refl}
use Rattle.night.specs.Promises.{ReplayPromise}
use Rattle.night.proofs.replay.Reads as replay

replay_promised : replay.Learnt ≡ (λ κs a r e. ReplayPromise a.0 a.1.0.now a.1.1.0.now r e.1.1.0.now)
replay_promised = refl
