-- One of those that come before.
use Rattle.std.proofs.Common.{◌==◌, rules, tests}
use Rattle.std.proofs.lemmas.Iterator.{YieldsList-from_slice, YieldsList-from_take}
use Rattle.std.proofs.lemmas.Iterator.Search.{any_from_yields_List}
use Rattle.text.proofs.Draft.has_rank.Goals as goal

pub returns : goal.returns
returns c =
    let d = c.args.self in
    any_from_yields_List (λ t. t.rank == c.args.rank) _ _ _ c.any.ensures.ran (YieldsList-from_take d.count (YieldsList-from_slice d.tasks cc) cc) (λ x b q k. search (rules, tests))
