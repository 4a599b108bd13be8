-- The branch is the definition's.
use Rattle.std.proofs.Common.{sym}
use Rattle.telltale.specs.CallLaws.{begin_kept, begin_new}
use Rattle.telltale.proofs.begin.Goals as goal

pub returns-then-kept : goal.returns-then-kept
returns-then-kept c = sym (begin_kept _ _ c.if-kept.true)

pub returns : goal.returns
returns c = sym (begin_new _ _ c.if-kept.false)
