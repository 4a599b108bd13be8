-- Each place is made as that of its index.
use Rattle.std.proofs.Common.{rules}
use Rattle.theory.specs.Model.Schedule.{none}
use Rattle.bellkettle.specs.Fields.{task_from}
use Rattle.bellkettle.proofs.Made.{made}
use Rattle.bellkettle.proofs.TaskFields.tasks.Goals as goal

pub returns : goal.returns
returns c = let f = c.args.self.now in made 16 (task_from f.periods.now f.budgets.now f.ranks.now) none c.from_fn.ensures.items (λ i h p q k. search rules)
