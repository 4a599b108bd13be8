-- The chains stand where the tasks end, and there is room for all.
use Rattle.std.proofs.Common.{arith}
use Rattle.text.specs.Shown.{text_of}
use Rattle.text.specs.ShownLaws.{puts_more, puts_whole}
use Rattle.text.specs.SizeLaws.{text_short}
use Rattle.text.proofs.page_of.Goals as goal

pub returns : goal.returns
unfolding text_of
returns c =
    puts_whole c.new.ensures (omega (arith, text_short c.args.s)) (puts_more c.put_tasks.ensures c.put_chains.ensures)
