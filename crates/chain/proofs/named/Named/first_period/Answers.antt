-- The chain's first entry is a task of the sheet.
use Rattle.std.proofs.Common.{sym, ap, ◌∙◌, ◌<◌, arith, get_or}
use Rattle.theory.specs.Model.Schedule.{period}
use Rattle.sheet.specs.Tasks.{tasks_of}
use Rattle.sheet.specs.TaskLaws.{tasks_length, period_at, place_allowed, entry_listed}
use Rattle.chain.proofs.Lent.{lent_some, lent_first}
use Rattle.chain.proofs.named.Named.first_period.Goals as goal

pub returns : goal.returns
returns c =
    let s = c.args.self.judged.sheet in
    let sound = c.args.self.judged.sound in
    let number = c.args.self.number in
    let chain = c.chain.result in
    let p = get_or chain.entries 0 0 in
    let first = lent_first s sound number c.args.self.known chain c.chain.ensures (omega arith) in
    let some = lent_some s sound number c.args.self.known chain c.chain.ensures (omega arith) in
    let known : p < s.count = omega (arith, first, entry_listed s sound number c.args.self.known 0 some, tasks_length s sound) in
    rw c.from.ensures (sym (period_at s sound p known) ∙ ap (period (tasks_of s)) first, (place_allowed s sound p known).period_positive)
