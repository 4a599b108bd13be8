-- The recurrence on sheets: Radio, one whose hyperperiod is over 1,000,000,000, a task that just fits and one that just does not.
use Rattle.std.specs.Prelude.{List, [], ◌∷◌}
use Rattle.theory.specs.declared.Task.{Task}
use Rattle.theory.specs.Results.Examples.{task}

-- "Periods 997, 1,009 and 1,013"
abbrev pub odd : List Task
odd = task 997 300 3 ∷ task 1009 300 2 ∷ task 1013 300 1 ∷ []

-- The second task is left 4 of every 8 ticks, and needs 4, or 5.
abbrev pub fitting : List Task
fitting = task 4 2 2 ∷ task 8 4 1 ∷ []

abbrev pub passing : List Task
passing = task 4 2 2 ∷ task 8 5 1 ∷ []
