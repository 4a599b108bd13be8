-- No line of the table has this word where this is wanted.
use Rattle.std.proofs.Common.{rules}
use Rattle.text.specs.Grammar.{step}
use Rattle.text.proofs.Draft.read_word.Goals as goal
use Rattle.text.proofs.Draft.read_word.Goals.{in_default-via-in-Opening+in-Key+in_default, in_default-via-in-Opening+in_default, in_default-via-in-Task+in-Key+in_default, in_default-via-in-Task+in_default, in_default-via-in-More+in-Key+in_default, in_default-via-in-More+in_default, in_default-via-in-Chain+in-Key+in_default, in_default-via-in-Chain+in_default, in_default-via-in-Edition+in_default, in_default-via-in-Name+in_default, in_default-via-in-Period+in-Key+in_default, in_default-via-in-Period+in_default, in_default-via-in-PeriodNumber+in_default, in_default-via-in-Budget+in-Key+in_default, in_default-via-in-Budget+in_default, in_default-via-in-BudgetNumber+in_default, in_default-via-in-Rank+in-Key+in_default, in_default-via-in-Rank+in_default, in_default-via-in-RankNumber+in_default, in_default-via-in-Limit+in-Key+in_default, in_default-via-in-Limit+in_default, in_default-via-in-LimitNumber+in_default, in_default-via-in-Entry+in_default, in_default-via-in_default}

pub returns-in_default : goal.returns-in_default
unfolding step
returns-in_default c =
    elim c.in_default.branch [
      | in_default-via-in-Opening+in-Key+in_default w ↦ search rules
      | in_default-via-in-Opening+in_default w ↦ search rules
      | in_default-via-in-Task+in-Key+in_default w ↦ search rules
      | in_default-via-in-Task+in_default w ↦ search rules
      | in_default-via-in-More+in-Key+in_default w ↦ search rules
      | in_default-via-in-More+in_default w ↦ search rules
      | in_default-via-in-Chain+in-Key+in_default w ↦ search rules
      | in_default-via-in-Chain+in_default w ↦ search rules
      | in_default-via-in-Edition+in_default w ↦ search rules
      | in_default-via-in-Name+in_default w ↦ search rules
      | in_default-via-in-Period+in-Key+in_default w ↦ search rules
      | in_default-via-in-Period+in_default w ↦ search rules
      | in_default-via-in-PeriodNumber+in_default w ↦ search rules
      | in_default-via-in-Budget+in-Key+in_default w ↦ search rules
      | in_default-via-in-Budget+in_default w ↦ search rules
      | in_default-via-in-BudgetNumber+in_default w ↦ search rules
      | in_default-via-in-Rank+in-Key+in_default w ↦ search rules
      | in_default-via-in-Rank+in_default w ↦ search rules
      | in_default-via-in-RankNumber+in_default w ↦ search rules
      | in_default-via-in-Limit+in-Key+in_default w ↦ search rules
      | in_default-via-in-Limit+in_default w ↦ search rules
      | in_default-via-in-LimitNumber+in_default w ↦ search rules
      | in_default-via-in-Entry+in_default w ↦ search rules
      | in_default-via-in_default w ↦ search rules
    ]
