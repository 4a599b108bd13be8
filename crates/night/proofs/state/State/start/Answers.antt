-- What starts is what runs in this tick, and is not in progress.
use Rattle.std.proofs.Common.{refl, sym, ◌∙◌, arith, rules}
use Rattle.night.specs.Conditions.{slot}
use Rattle.night.proofs.Laws.{slot_same, start_goes}
use Rattle.night.proofs.state.State.start.Goals as goal

pub returns : goal.returns
returns c =
    let s = c.args.self.now in
    record {
      tasks_same = refl;
      leads = start_goes s.jobs (search rules) s.tick s.tick (slot s.last) c.args.self.now.tasks.now c.args.task s.tick (omega (arith, c.requires.0, s.few))
          (sym c.goes_on.ensures ∙ c.if-not-goes_on.false)
          (sym (slot_same c.turn.result c.args.task (sym c.ne.ensures ∙ c.if-ne.false)) ∙ c.turn.ensures.0)
          c.if-self-i-ne0.false;
    }
