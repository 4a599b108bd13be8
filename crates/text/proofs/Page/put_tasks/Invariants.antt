use Rattle.text.specs.Shown.{task_lines}
use Rattle.text.specs.Conditions.{Puts}
use Rattle.text.proofs.Page.put_tasks.Given as goal

-- The first i tasks' lines stand on the page.
abbrev pub invariant-loop-i : goal.invariant-loop-i
invariant-loop-i l = Puts l.initial.self (task_lines l.s.tasks l.i) l.self
