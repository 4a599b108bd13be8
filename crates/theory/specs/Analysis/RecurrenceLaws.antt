-- The least fixed point: a search that climbs finds it, and where it does not pass the period the level's backlog, each job at its cost,
-- is empty within that time of every tick.
-- The quotient
use Rattle.theory.specs.Model.Schedule.{Demands}
use Rattle.theory.specs.Model.Recurrence.{Costs}

-- Each job of task i needs cost i.
abbrev pub at_cost : Costs → Demands
at_cost cost i k = cost i
