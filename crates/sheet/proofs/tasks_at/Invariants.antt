use mathlib.Core.Path.{◌≡◌}
use Prim.Native.Nat.{◌+◌, ◌*◌}
use Rattle.bits.specs.Bits.{unpack}
use Rattle.theory.specs.Model.Schedule.{none}
use Rattle.sheet.specs.Calls.{places, task_bits}
use Rattle.sheet.specs.Order.{task_at}
use Rattle.sheet.proofs.tasks_at.Given as goal

abbrev pub invariant-loop-i : goal.invariant-loop-i
invariant-loop-i l = l.tasks ≡ places 16 none l.i (λ j. task_at (unpack l.bytes) (l.at + task_bits * j))
