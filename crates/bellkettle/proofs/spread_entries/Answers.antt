-- After i turns the first i places of the slice hold the entries.
use Rattle.std.proofs.Common.{refl, ◌∙◌, arith}
use Rattle.bits.specs.Bits.{list_of}
use Rattle.bellkettle.specs.Fields.{entries_in}
use Rattle.bellkettle.specs.FieldLaws.{filled_more, filled_short}
use Rattle.bellkettle.proofs.spread_entries.Goals as goal

pub loop-i-init : goal.loop-i-init
unfolding list_of
loop-i-init c = refl

pub loop-i-preserved : goal.loop-i-preserved
loop-i-preserved c = filled_more c.loop-i.i (entries_in c.args.s.now) c.args.entries.now refl c.loop-i.invariant

pub returns : goal.returns
returns c = c.loop-i.invariant ∙ filled_short 128 c.loop-i.i (entries_in c.args.s.now) c.args.entries.now (omega arith)
