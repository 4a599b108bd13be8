-- One bit is 0 or 1.
use Rattle.std.proofs.Common.{◌+◌, ap, arith}
use Rattle.bits.specs.Bits.{unpack, number}
use Rattle.bits.specs.Laws.{number_lt}
use Rattle.clocklog.proofs.Record.kind.Goals as goal

pub returns-in_default : goal.returns-in_default
returns-in_default c =
    let bs = unpack c.args.self.now.log.now in
    omega (arith, c.number.ensures, number_lt bs (c.begin_of.result + 4) 1, ap (λ at. number bs (at + 4) 1) c.begin_of.ensures.0, c.in_default)
