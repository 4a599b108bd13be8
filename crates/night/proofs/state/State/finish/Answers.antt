-- What finishes is the job that ran in the tick before.
use Rattle.std.proofs.Common.{refl, sym, ◌∙◌, arith, rules}
use Rattle.night.specs.Conditions.{slot}
use Rattle.night.proofs.Laws.{slot_same, finish_goes}
use Rattle.night.proofs.state.State.finish.Goals as goal

pub returns : goal.returns
returns c =
    let s = c.args.self.now in
    record {
      tasks_same = refl;
      leads = finish_goes s.jobs (search rules) s.tick s.tick (slot s.last) s.tasks.now c.args.task s.tick (omega (arith, c.requires.0, s.few)) (slot_same s.last c.args.task (sym c.ne.ensures ∙ c.if-ne.false));
    }
