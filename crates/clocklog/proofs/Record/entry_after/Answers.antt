-- Four bits fit.
use Rattle.std.proofs.Common.{arith}
use Rattle.bits.specs.Bits.{unpack}
use Rattle.bits.specs.Laws.{number_lt}
use Rattle.clocklog.proofs.Record.entry_after.Goals as goal

pub overflow_cast-result : goal.overflow_cast-result
overflow_cast-result c = omega (arith, c.number.ensures, number_lt (unpack c.args.self.now.log.now) c.begin_of.result 4)
