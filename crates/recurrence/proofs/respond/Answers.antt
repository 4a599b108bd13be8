-- Where none passes its period, the values are responses.
use Rattle.std.proofs.Common.{sym}
use Rattle.sheet.specs.LatenessLaws.{lateness_fine}
use Rattle.recurrence.specs.CallLaws.{none_responding}
use Rattle.recurrence.proofs.respond.Goals as goal

pub invariant_of-result : goal.invariant_of-result
invariant_of-result c = record {
  responding = none_responding c.args.s.sheet c.args.s.sound c.each_response-each.ensures (lateness_fine _ (sym c.in_ok-passing.ensures));
}
