use Rattle.std.proofs.Common.{◌≡◌, ◌≤◌, ltb, filter, length, take}
use Rattle.recurrence.proofs.gather.Given as goal

abbrev pub invariant-loop-task : goal.invariant-loop-task
invariant-loop-task l = record {
  are : take l.size l.outranking ≡ filter (λ t. ltb l.rank t.rank) (take l.task-index l.task-items);
  room : length l.outranking ≡ 16;
  few : l.size ≤ l.task-index;
  items : length l.task-items ≤ 16;
}
