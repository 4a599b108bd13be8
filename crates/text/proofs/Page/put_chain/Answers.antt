-- Each part stands where the one before it ends.
use Rattle.text.specs.Shown.{chain_line}
use Rattle.text.specs.ShownLaws.{puts_more}
use Rattle.text.proofs.Page.put_chain.Goals as goal

pub returns : goal.returns
unfolding chain_line
returns c =
    puts_more c.put.ensures (puts_more c.put_limit.ensures (puts_more c.put_entries.ensures c.put-2.ensures))
