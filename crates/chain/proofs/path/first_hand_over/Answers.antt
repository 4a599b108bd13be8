-- A path of two rows or more starts with the hand-over from the first to the second.
use Rattle.std.proofs.Common.{arith}
use Rattle.chain.specs.PathLaws.{handed_first}
use Rattle.chain.proofs.path.first_hand_over.Goals as goal

pub returns-in-len2-up : goal.returns-in-len2-up
returns-in-len2-up c =
    handed_first c.args.path.now c.args.k c.hand_over.result c.row-item.result c.next-item.result (omega (arith, c.in-len2-up.len_at_least)) c.row-item.is c.next-item.is c.hand_over.ensures
