-- After i turns the first i places are taken.
use mathlib.Core.Path.{ap, ap₂, ◌∙◌}
use Prim.Native.Nat.{ℕ, ◌+◌, ◌*◌, min}
use native.Mathlib.Omega.{arith}
use lib.ListN.{set}
use Rattle.bits.specs.Bits.{unpack, list_of}
use Rattle.theory.specs.declared.Task.{Task}
use Rattle.theory.specs.Model.Schedule.{none}
use Rattle.sheet.specs.Calls.{places, task_bits}
use Rattle.sheet.specs.Order.{task_at}
use Rattle.sheet.specs.PlaceLaws.{places_set, places_most, task_none}
use Rattle.sheet.proofs.tasks_at.Goals as goal

pub loop-i-init : goal.loop-i-init
unfolding list_of
loop-i-init c = let e = c.default-tasks.ensures in ap (λ x. list_of 16 (λ j. x)) (task_none c.default-tasks.result e.0 e.1.0 e.1.1)

pub loop-i-preserved : goal.loop-i-preserved
loop-i-preserved c =
    let l = c.loop-i in
    let f : ℕ → Task = λ j. task_at (unpack c.args.bytes.now) (c.args.at + task_bits * j) in
    ap₂ (λ x y. set x l.i y) l.invariant (c.task_at.ensures ∙ ap f c.from.ensures) ∙ places_set 16 none f l.i (omega (arith, c.min-i-end.ensures))

pub returns : goal.returns
returns c =
    let a = c.args in
    let f : ℕ → Task = λ j. task_at (unpack a.bytes.now) (a.at + task_bits * j) in
    c.loop-i.invariant ∙ ap (λ k. places 16 none k f) {x = c.loop-i.i} {y = min a.n 16} (omega (arith, c.min-i-end.ensures)) ∙ places_most 16 none f a.n
