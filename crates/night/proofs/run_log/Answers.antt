-- Each turn takes one record more, and follows it if it agrees: what is known is the state of the pass and the readings after the records so far.
use Rattle.std.proofs.Common.{◌+◌, refl, sym, ap, ap₂, ◌∙◌, subst, length, arith}
use Rattle.theory.specs.declared.Task.{Task}
use Rattle.sheet.specs.Tasks.{first_of, rest_of}
use Rattle.clocklog.specs.Format.{kind_in, event}
use Rattle.night.specs.Pass.{step}
use Rattle.night.specs.Follow.{follow}
use Rattle.night.specs.Conditions.{state_of, readings_of}
use Rattle.night.proofs.Records.{Going, Tracked, going_start, going_time, recorded, going_breaks, going_next, going_ends, tracked_start, tracked_next, found_break, found_all}
use Rattle.night.proofs.run_log.Goals as goal

pub loop-k-init : goal.loop-k-init
loop-k-init c =
    let a = c.args in
    let r = c.unread-readings.ensures in
    record {
      period_is = refl;
      tasks_are = c.fresh-state.ensures.1;
      chain_is = r.1;
      follows_period = r.2;
      going = subst (Going a.tasks.now a.log.now a.n 0 0) (sym c.fresh-state.ensures.0) (going_start a.tasks.now a.log.now a.n);
      tracked = subst (Tracked _ a.chain.now a.log.now 0) (sym r.0) (tracked_start _ a.chain.now a.log.now);
    }

pub overflow_add-at : goal.overflow_add-at
overflow_add-at c =
    let a = c.args in
    let l = c.loop-k in
    record { fits = omega (arith, c.entry-entry.ensures.2, c.requires.sane_log.timed l.k c.loop-k-test.true, going_time a.tasks.now a.log.now a.n l.at l.k (state_of l.state) l.invariant.going) }

pub step-requires : goal.step-requires
step-requires c =
    let a = c.args in
    let l = c.loop-k in
    let e = c.entry-entry in
    let sane = c.requires.sane_log in
    let inside = c.loop-k-test.true in (
      omega (arith, e.ensures.0, sane.named l.k inside, ap (length {A = Task}) l.invariant.tasks_are),
      omega (arith, e.ensures.2, sane.timed l.k inside, going_time a.tasks.now a.log.now a.n l.at l.k (state_of l.state) l.invariant.going),
      omega (arith, l.invariant.going.few e.result.task, sane.few, inside),
    )

pub returns-then-not-step : goal.returns-then-not-step
returns-then-not-step c =
    let a = c.args in
    let l = c.loop-k in
    let i = l.invariant in
    let s = state_of l.state in
    let same = recorded a.tasks.now a.log.now a.n l.at l.k s i.going c.entry-entry.result c.entry-entry.ensures in
    found_break a.tasks.now a.chain.now a.log.now a.n l.k _ l.readings i.chain_is i.tracked i.period_is
    (going_breaks a.tasks.now a.log.now a.n l.at l.k s i.going c.loop-k-test.true (c.if-not-step.ensures.leads ∙ ap₂ (λ ts e. step ts s e) i.tasks_are same))
    c.loop-k-test.true c.found.result c.found.ensures

pub loop-k-preserved : goal.loop-k-preserved
loop-k-preserved c =
    let a = c.args in
    let l = c.loop-k in
    let i = l.invariant in
    let s = state_of l.state in
    let e = c.entry-entry in
    let same = recorded a.tasks.now a.log.now a.n l.at l.k s i.going e.result e.ensures in
    record {
      period_is = i.period_is;
      tasks_are = c.if-not-step.ensures.tasks_same ∙ i.tasks_are;
      chain_is = c.follow.ensures.chain_same ∙ i.chain_is;
      follows_period = c.follow.ensures.period_same ∙ i.follows_period;
      going =
          subst (λ d. Going a.tasks.now a.log.now a.n (l.at + d) (l.k + 1) (state_of c.step.new.self)) (sym e.ensures.2)
          (going_next a.tasks.now a.log.now a.n l.at l.k s i.going c.loop-k-test.true (state_of c.step.new.self) (c.if-not-step.ensures.leads ∙ ap₂ (λ ts e. step ts s e) i.tasks_are same));
      tracked =
          tracked_next _ a.chain.now a.log.now l.k (readings_of l.readings) (readings_of c.follow.new.self) i.tracked
          (c.follow.ensures.readings_are ∙ ap₂ (λ T c. follow T (first_of c) (rest_of c) (readings_of l.readings) (event e.result.task (kind_in e.result.kind) (l.at + e.result.gap))) i.follows_period i.chain_is
          ∙ ap (follow _ (first_of a.chain.now) (rest_of a.chain.now) (readings_of l.readings)) same);
    }

pub returns : goal.returns
returns c =
    let a = c.args in
    let l = c.loop-k in
    let i = l.invariant in
    let all = going_ends a.tasks.now a.log.now a.n l.at l.k (state_of l.state) i.going (omega (arith, c.loop-k-test.false)) in
    found_all a.tasks.now a.chain.now a.log.now a.n l.k _ l.readings i.chain_is i.tracked i.period_is (omega (arith, all, c.loop-k-test.false)) (omega (arith, c.loop-k-test.false)) c.found-2.result c.found-2.ensures
