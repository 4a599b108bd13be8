-- The chain's entries are the first of sixteen places; its first is a task of the sheet, and that task's period is added less 1.
use Rattle.std.proofs.Common.{◌≡◌, sym, ap, ◌∙◌, subst, arith}
use Rattle.sheet.specs.Tasks.{tasks_of, entries_of}
use Rattle.recurrence.specs.Calls.{bound_by}
use Rattle.recurrence.specs.Conditions.{ChainOn}
use Rattle.recurrence.specs.BoundLaws.{chain_on, with_flag}
use Rattle.recurrence.proofs.Responses.bounds_of.Goals.{After-bound_along-sampling_bound}
use Rattle.recurrence.proofs.Responses.bounds_of.Goals as goal

pub bound_along-sampling_bound-requires : goal.bound_along-sampling_bound-requires
bound_along-sampling_bound-requires c = subst (ChainOn c.args.self.now.judged.sheet) (sym c.tasks.ensures) (chain_on c.requires (omega arith))

-- It is the bound along the chain's entries.
along : (c : After-bound_along-sampling_bound)
    → c.bound_along-sampling_bound.result ≡ bound_by (tasks_of c.args.self.now.judged.sheet) (entries_of c.args.chain)
along c = c.bound_along-sampling_bound.ensures ∙ ap (bound_by (tasks_of c.args.self.now.judged.sheet)) c.tasks.ensures

pub overflow_add-bound : goal.overflow_add-bound
overflow_add-bound c =
    let on = chain_on c.requires (omega arith) in
    let so_far = along (goal.at.overflow_add-bound c).After-bound_along-sampling_bound in
    rw c.from-first.ensures (omega (arith, (with_flag c.args.self.now.judged.sound c.args.self.now.responding c.requires on so_far).1))

pub returns : goal.returns
returns c =
    let on = chain_on c.requires (omega arith) in
    let so_far = along (goal.at.returns c).After-bound_along-sampling_bound in
    rw c.from-first.ensures (with_flag c.args.self.now.judged.sound c.args.self.now.responding c.requires on so_far).0
