-- The first bit that is wrong is within the last byte, or the one behind it.
use Rattle.std.proofs.Common.{◌+◌, ◌-◌, ◌*◌, ◌/◌, sym, ap, ◌∙◌, arith}
use Rattle.bits.specs.Bits.{unpack}
use Rattle.bits.specs.SurplusLaws.{surplus_some, first_one_most}
use Rattle.sheet.specs.Calls.{tail_of}
use Rattle.sheet.specs.TailLaws.{tail_none, tail_some}
use Rattle.clocklog.proofs.judge_tail.Goals as goal

pub overflow_cast-result : goal.overflow_cast-result
overflow_cast-result c =
    let a = c.args in
    let end = c.begin_of.result in
    let wrong = surplus_some a.log.now end (sym c.surplus.ensures ∙ c.in-Some.is) in
    omega (arith, wrong.0, first_one_most (unpack a.log.now) end ((end + 7) / 8 * 8 - end), c.begin_of.ensures.1)

pub returns-in-Some : goal.returns-in-Some
returns-in-Some c = sym (tail_some c.args.log.now c.begin_of.result (sym c.surplus.ensures ∙ c.in-Some.is)) ∙ ap (tail_of c.args.log.now) c.begin_of.ensures.0

pub returns-in-None : goal.returns-in-None
returns-in-None c = sym (tail_none c.args.log.now c.begin_of.result (sym c.surplus.ensures ∙ c.in-None.is)) ∙ ap (tail_of c.args.log.now) c.begin_of.ensures.0
