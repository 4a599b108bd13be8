-- The wait up to the record, and then the record.
use Rattle.std.proofs.Common.{sym, ap, ◌∙◌, refl, length, arith}
use Rattle.clocklog.specs.declared.answer.Kind.TheVariants.{Start, Finish}
use Rattle.clocklog.specs.Format.{kind_in, event}
use Rattle.theory.specs.declared.Task.{Task}
use Rattle.night.specs.Pass.{wait, accept}
use Rattle.night.specs.StepLaws.{wait_ended}
use Rattle.night.specs.Conditions.{state_of, event_of}
use Rattle.night.proofs.Laws.{event_time, step_early, step_breaks, step_goes}
use Rattle.night.proofs.state.State.step.Goals as goal

pub returns-then-r-self : goal.returns-then-r-self
returns-then-r-self c =
    let r = c.args.r in
    let s = c.args.self.now in
    record { tasks_same = refl; leads = step_early s.tasks.now (state_of s) (event_of r) (omega (arith, event_time r.task r.kind r.at, c.if-r-self.true)) }

pub returns-then-not-wait : goal.returns-then-not-wait
returns-then-not-wait c =
    let r = c.args.r in
    let s = c.args.self.now in
    let w = c.if-not-wait.ensures.state_after in
    let at = event_time r.task r.kind r.at in
    record { tasks_same = w.tasks_same; leads = step_breaks s.tasks.now (state_of s) (event_of r) (omega (arith, at, c.if-r-self.false)) (w.leads ∙ ap (wait s.tasks.now (state_of s)) (sym at)) }

pub finish-requires : goal.finish-requires
finish-requires c =
    let s = c.args.self.now in
    let w = c.if-not-wait.ensures.state_after in (
      omega (arith, c.requires.0, ap (length {A = Task}) w.tasks_same),
      omega (arith, c.requires.2, ap (λ f. f c.args.r.task) (wait_ended s.tasks.now (state_of s) c.args.r.at c.if-r-self.false (sym w.leads))),
    )

pub returns-in-Start : goal.returns-in-Start
returns-in-Start c =
    let r = c.args.r in
    let s = c.args.self.now in
    let w = c.if-not-wait.ensures.state_after in
    let a = state_of c.wait.new.self in
    let at = event_time r.task r.kind r.at in
    record {
      tasks_same = c.start.ensures.tasks_same ∙ w.tasks_same;
      leads =
          step_goes s.tasks.now (state_of s) (event_of r) (omega (arith, at, c.if-r-self.false)) a _ (w.leads ∙ ap (wait s.tasks.now (state_of s)) (sym at))
          (c.start.ensures.leads ∙ ap (λ ts. accept ts a (event r.task (kind_in Start) r.at)) w.tasks_same
          ∙ ap (λ k. accept s.tasks.now a (event r.task (kind_in k) r.at)) (sym c.in-Start.is));
    }

pub returns-in-Finish : goal.returns-in-Finish
returns-in-Finish c =
    let r = c.args.r in
    let s = c.args.self.now in
    let w = c.if-not-wait.ensures.state_after in
    let a = state_of c.wait.new.self in
    let at = event_time r.task r.kind r.at in
    record {
      tasks_same = c.finish.ensures.tasks_same ∙ w.tasks_same;
      leads =
          step_goes s.tasks.now (state_of s) (event_of r) (omega (arith, at, c.if-r-self.false)) a _ (w.leads ∙ ap (wait s.tasks.now (state_of s)) (sym at))
          (c.finish.ensures.leads ∙ ap (λ ts. accept ts a (event r.task (kind_in Finish) r.at)) w.tasks_same
          ∙ ap (λ k. accept s.tasks.now a (event r.task (kind_in k) r.at)) (sym c.in-Finish.is));
    }
