-- The front of a text that is too long.
use Rattle.std.proofs.Common.{sym, arith}
use lib.Seq.{length-take-le}
use Rattle.text.proofs.parse.Goals as goal

pub slice_bounds-after-end : goal.slice_bounds-after-end
slice_bounds-after-end c =
    sym (length-take-le 16384 c.args.text.now (omega arith))

pub after-requires : goal.after-requires
after-requires c =
    omega (arith, length-take-le 16384 c.args.text.now (omega arith))
