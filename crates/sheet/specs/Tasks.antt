-- The tasks and the chains on a sheet.
use Rattle.std.specs.Prelude.{cond, List, ℕ, ◌-◌, eqb, get_or, take, drop}
use Rattle.theory.specs.declared.Task.{Task}
use Rattle.sheet.specs.declared.Chain.{Chain}
use Rattle.sheet.specs.declared.Sheet.{Sheet}
use Rattle.answers.specs.Answers.{Judgement, when}
use Rattle.sheet.specs.Fields.{idle, outside}

-- The tasks are in the first `count` of sixteen places.
unfoldable pub tasks_of : Sheet → List Task
tasks_of s = take s.count s.tasks

-- An old sheet has chain 1 alone.
abbrev pub chain_count : Sheet → ℕ
chain_count s = cond (eqb s.edition 1) 1 s.suite

-- "17 for a chain number the sheet lacks"
abbrev pub lacks : Sheet → ℕ → Judgement
lacks s number = when (outside 1 (chain_count s) number) 17

-- "calls name their chain from 1"
abbrev pub chain_at : Sheet → ℕ → Chain
chain_at s number = get_or s.chains (number - 1) idle

-- A chain's entries are in the first `length` of its sixteen places.
abbrev pub entries_of : Chain → List ℕ
entries_of c = take c.length c.entries

abbrev pub chain_of : Sheet → ℕ → List ℕ
chain_of s number = entries_of (chain_at s number)

abbrev pub limit_of : Sheet → ℕ → ℕ
limit_of s number = (chain_at s number).limit

-- The first task of a chain, and those that follow.
abbrev pub first_of : List ℕ → ℕ
first_of chain = get_or chain 0 0

abbrev pub rest_of : List ℕ → List ℕ
rest_of chain = drop 1 chain
