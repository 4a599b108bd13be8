-- The contract of each call is its promise: what a caller learns of it is the predicate of `Promises`, no more and no less.
use mathlib.Core.Path.{◌≡◌, refl}
use Rattle.sheet.specs.Promises.{JudgePromise, JudgedPromise, ReadPromise, ToSecondPromise, ToFirstPromise, WritePromise, ChainCountPromise, NumberedPromise, ChainPromise, TasksPromise, EntriesPromise}
use Rattle.sheet.proofs.judge.Reads as judge
use Rattle.sheet.proofs.read.Reads as read
use Rattle.sheet.proofs.write.Reads as write
use Rattle.sheet.proofs.to_second.Reads as to_second
use Rattle.sheet.proofs.to_first.Reads as to_first
use Rattle.sheet.proofs.chain_count.Reads as chain_count
use Rattle.sheet.proofs.numbered.Reads as numbered
use Rattle.sheet.proofs.judged.Reads as judged
use Rattle.sheet.proofs.chain_of.Reads as chain_of
use Rattle.sheet.proofs.sound.Judged.tasks.Reads as judged_tasks
use Rattle.sheet.proofs.Chain.tasks.Reads as chain_tasks

judge_promised : judge.Learnt ≡ (λ κs a r e. JudgePromise a.0 r)
judge_promised = refl

read_promised : read.Learnt ≡ (λ κs a r e. ReadPromise a.0.now r)
read_promised = refl

write_promised : write.Learnt ≡ (λ κs a r e. WritePromise a.0 a.1.0.now r e.1.0.now)
write_promised = refl

to_second_promised : to_second.Learnt ≡ (λ κs a r e. ToSecondPromise a.0 r)
to_second_promised = refl

to_first_promised : to_first.Learnt ≡ (λ κs a r e. ToFirstPromise a.0 r)
to_first_promised = refl

chain_count_promised : chain_count.Learnt ≡ (λ κs a r e. ChainCountPromise a.0 r)
chain_count_promised = refl

numbered_promised : numbered.Learnt ≡ (λ κs a r e. NumberedPromise a.0 a.1.0 r)
numbered_promised = refl

judged_promised : judged.Learnt ≡ (λ κs a r e. JudgedPromise a.0 r)
judged_promised = refl

chain_of_promised : chain_of.Learnt ≡ (λ κs a r e. ChainPromise a.0 a.1.0 r)
chain_of_promised = refl

judged_tasks_promised : judged_tasks.Learnt ≡ (λ κs a r e. TasksPromise a.0.now r.now)
judged_tasks_promised = refl

chain_tasks_promised : chain_tasks.Learnt ≡ (λ κs a r e. EntriesPromise a.0.now r.now)
chain_tasks_promised = refl
