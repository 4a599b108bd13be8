-- A task's response with no schedule and no hyperperiod: the least fixed point of a recurrence over what a job of each task costs.
-- In P4 a job costs its task's budget. Quotations are from document 02, P4.
use Rattle.std.specs.Prelude.{List, cond, ℕ, suc, ◌+◌, ◌-◌, ◌*◌, ◌/◌, ◌<◌, eqb, length}
use Rattle.theory.specs.declared.Task.{Task}
use Rattle.arith.specs.Ranges.{sum, least}
use Rattle.theory.specs.Model.Schedule.{period, budget}
use Rattle.theory.specs.Model.Responses.{Late}
use Rattle.theory.specs.Model.Chain.{outranks}

-- What a job of task i costs, at cost i.
abbrev pub Costs : Type 0
Costs = ℕ → ℕ

-- "the candidate divided by that task's period, the quotient rounded up"
unfoldable pub quotient : ℕ → ℕ → ℕ
quotient x T = (x + (T - 1)) / T

-- What is claimed at a candidate x: "own budget, plus for each outranking task its budget times" the quotient.
unfoldable pub claim : List Task → Costs → ℕ → ℕ → ℕ
unfolding sum quotient
claim ts cost i x = cost i + sum (length ts) (λ j. cond (outranks ts j i) (cost j * quotient x (period ts j)) 0)

-- "the least fixed point": the least number that is its own claim, of those up to the period, or T + 1 where none of these is.
-- (None below the own budget is: no claim is less.)
unfoldable pub fixed_point : List Task → Costs → ℕ → ℕ
unfolding least claim
fixed_point ts cost i = least (suc (period ts i)) (λ x. eqb (claim ts cost i x) x)

-- A task's response by the recurrence: the least fixed point where each job costs the budget.
abbrev pub quick_response : List Task → ℕ → ℕ
quick_response ts = fixed_point ts (budget ts)

-- A task "whose value passes its period".
abbrev pub Passing : List Task → ℕ → Type 0
Passing ts i = period ts i < quick_response ts i

-- Some job of the task, of all its jobs, is late in the full-budget schedule.
abbrev pub EverLate : List Task → ℕ → Type 0
EverLate ts i = (k : ℕ) × Late ts i k
