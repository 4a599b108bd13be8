-- Two lists are the same exactly when their lengths and entries are.
use Rattle.std.proofs.Common.{ap, ap₂, ◌∙◌}
use Rattle.sheet.specs.Tasks.{entries_of}
use Rattle.lower.specs.Calls.{same_entries}
use Rattle.lower.specs.CallLaws.{same_is}
use Rattle.lower.proofs.Pair.same_chain.Goals as goal

pub returns : goal.returns
returns c =
    same_is c.tasks.result.now c.tasks-2.result.now c.eq.result c.eq.ensures
    ∙ ap₂ same_entries (c.tasks.ensures ∙ ap entries_of c.chain_one.ensures.one) (c.tasks-2.ensures ∙ ap entries_of c.chain_one-2.ensures.one)
