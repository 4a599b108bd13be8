-- The contract of each call is its promise: what a caller learns of it is the predicate of `Promises`, no more and no less.
use Rattle.std.proofs.Common.{◌≡◌, refl}
use Rattle.clocklog.specs.Promises.{CountPromise, EntryPromise, JudgePromise}
use Rattle.clocklog.proofs.count.Reads as count
use Rattle.clocklog.proofs.entry.Reads as entry
use Rattle.clocklog.proofs.judge.Reads as judge

count_promised : count.Learnt ≡ (λ κs a r e. CountPromise a.0.now r)
count_promised = refl

entry_promised : entry.Learnt ≡ (λ κs a r e. EntryPromise a.0.now a.1.0 r)
entry_promised = refl

judge_promised : judge.Learnt ≡ (λ κs a r e. JudgePromise a.0.now a.1.0 r)
judge_promised = refl
