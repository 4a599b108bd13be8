-- A path that newer readings overtake: tasks (2,1,1) and (10,1,2), chain 0 1. The write of job 0 at 2 is overwritten at 3, 5, 7 and 9; its path
-- goes to the job that starts at 10, which reads what job 4, released at 8, wrote at 9.
use Rattle.std.specs.Prelude.{List, [], ◌∷◌}
use Rattle.theory.specs.declared.Task.{Task}
use Rattle.theory.specs.Results.Examples.{task}

abbrev pub pair : List Task
pair = task 2 1 1 ∷ task 10 1 2 ∷ []
