-- What runs in the tick before the record ran in the whole gap, for nothing starts or ends in it.
use Rattle.std.proofs.Common.{◌≡◌, ◌-◌, true, refl, sym, ◌∙◌, subst, length, arith, rules}
use Rattle.theory.specs.Model.Schedule.{busy, idle}
use Rattle.night.specs.Pass.{quiet}
use Rattle.night.specs.Conditions.{Room, state_of, ran_in}
use Rattle.night.specs.Conditions.{slot}
use Rattle.night.proofs.Laws.{wait_now, wait_stops, wait_breaks, wait_goes, stretched_none, stretched_some}
use Rattle.night.proofs.state.State.wait.Goals.{in-Some, in_default}
use Rattle.night.proofs.state.State.wait.Goals as goal

pub returns-then-at-self-clause-state_after : goal.returns-then-at-self-clause-state_after
returns-then-at-self-clause-state_after c =
    record { leads = wait_now c.args.self.now.tasks.now (state_of c.args.self.now) c.args.at c.if-at-self.true; tasks_same = refl }

pub returns-then-not-goes_on-clause-state_after : goal.returns-then-not-goes_on-clause-state_after
returns-then-not-goes_on-clause-state_after c =
    record { leads = wait_stops c.args.self.now.tasks.now (state_of c.args.self.now) c.args.at c.if-at-self.false (sym c.goes_on.ensures ∙ c.if-not-goes_on.true); tasks_same = refl }

pub returns-then-not-is_quiet-clause-state_after : goal.returns-then-not-is_quiet-clause-state_after
returns-then-not-is_quiet-clause-state_after c =
    record {
      leads =
          wait_breaks c.args.self.now.tasks.now (state_of c.args.self.now) c.args.at c.if-at-self.false (sym c.goes_on.ensures ∙ c.if-not-goes_on.false)
          (slot c.turn-x.result) c.turn-x.ensures.0 (sym c.is_quiet.ensures.is_quiet ∙ c.if-not-is_quiet.true);
      tasks_same = refl;
    }

pub overflow_add-self : goal.overflow_add-self
overflow_add-self c =
    let s = c.args.self.now in
    let room : Room (ran_in s.jobs) (c.args.at - s.tick) c.turn-x.result = c.is_quiet.ensures.room c.if-not-is_quiet.false in
    record { fits = subst (Room (ran_in s.jobs) (c.args.at - s.tick)) c.in-Some.is room }

pub returns-clause-state_after : goal.returns-clause-state_after
returns-clause-state_after c =
    let s = c.args.self.now in
    let ts = c.args.self.now.tasks.now in
    let at = c.args.at in
    let goes = sym c.goes_on.ensures ∙ c.if-not-goes_on.false in
    let still : quiet ts (ran_in s.jobs) (at - s.tick) (slot c.turn-x.result) ≡ true = sym c.if-not-is_quiet.ensures.is_quiet in
    let whole : length s.jobs ≡ 16 = search rules in
    elim c.match-x.branch [
      | in-Some w ↦ record {
        tasks_same = refl;
        leads = rw (w.self-is, w.x-is)
            (wait_goes ts (state_of s) at c.if-at-self.false goes (busy w.in-Some.i) w.in-Some.ensures.0
            (subst (λ x. quiet ts (ran_in s.jobs) (at - s.tick) (slot x) ≡ true) w.in-Some.is still) _
            (stretched_some s.jobs whole s.tick at (slot s.last) w.in-Some.i (omega (arith, w.in-Some.ensures.1, c.args.self.now.few))));
      }
      | in_default w ↦ record {
        tasks_same = refl;
        leads = rw (w.self-is, w.x-is, w.in_default.is)
            (wait_goes ts (state_of s) at c.if-at-self.false goes idle w.in_default.ensures.0
            (subst (λ x. quiet ts (ran_in s.jobs) (at - s.tick) (slot x) ≡ true) w.in_default.is still) _
            (stretched_none s.jobs whole s.tick at (slot s.last)));
      }
    ]
