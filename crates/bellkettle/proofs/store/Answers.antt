-- As many items as both slices have are copied, and a place past the end of the lent one is none.
use Rattle.std.proofs.Common.{arith}
use Rattle.std.proofs.lemmas.Grind.{common_steps}
use Rattle.bellkettle.specs.FieldLaws.{stored}
use Rattle.bellkettle.proofs.store.Goals as goal

pub returns : goal.returns
returns g c = let s = stored c.min-n.result c.args.items.now c.args.out.now (omega arith) in grind (arith, common_steps, s)
