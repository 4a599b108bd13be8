use Rattle.std.proofs.Common.{◌+◌, ◌-◌}
use Rattle.theory.specs.Model.Schedule.{budget}
use Rattle.theory.proofs.Analysis.RecurrenceLaws.{Climbs}
use Rattle.sheet.specs.Tasks.{tasks_of}
use Rattle.recurrence.proofs.climb.Given as goal

abbrev pub invariant-loop-candidate : goal.invariant-loop-candidate
invariant-loop-candidate l = Climbs (tasks_of l.fn.s.sheet) (budget (tasks_of l.fn.s.sheet)) l.i l.candidate

abbrev pub decreases-loop-candidate : goal.decreases-loop-candidate
decreases-loop-candidate l = (l.task.period + 1) - l.candidate
