-- The contract of each call is its promise: what a caller learns of it is the predicate of `Promises`, no more and no less.
use mathlib.Core.Path.{◌≡◌, refl}
use Rattle.schedule.specs.Promises.{SizesPromise, ResponsesPromise, TaskResponsesPromise}
use Rattle.schedule.proofs.sizes.Reads as sizes
use Rattle.schedule.proofs.responses.Reads as responses
use Rattle.schedule.proofs.task_responses.Reads as task_responses

sizes_promised : sizes.Learnt ≡ (λ κs a r e. SizesPromise a.0 r)
sizes_promised = refl

responses_promised : responses.Learnt ≡ (λ κs a r e. ResponsesPromise a.0 a.1.0.now r e.1.0.now)
responses_promised = refl

task_responses_promised : task_responses.Learnt ≡ (λ κs a r e. TaskResponsesPromise a.0 a.1.0.now r e.1.0.now)
task_responses_promised = refl
