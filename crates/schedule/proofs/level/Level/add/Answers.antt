-- The place that is found has the task's period; where none has, the task takes the next one.
use Rattle.std.proofs.Common.{◌≡◌, ◌+◌, ◌<◌, inl, ap, ◌∙◌, length, get_or, take, length-take, rules, tests, arith}
use Rattle.std.proofs.Math.ListN.{set}
use Rattle.std.proofs.lemmas.Iterator.{IsFirst-from_position, YieldsList-from_slice}
use Rattle.std.proofs.lemmas.Option.{MatchOption-at_some}
use Rattle.theory.specs.Model.Schedule.{none}
use Rattle.schedule.specs.declared.level.Place.{Place}
use Rattle.schedule.specs.Conditions.{place_of}
use Rattle.schedule.proofs.Gathered.{take_changed}
use Rattle.schedule.proofs.level.Level.add.Goals as goal

pub returns-in-Some : goal.returns-in-Some
returns-in-Some c =
    let places = c.args.self.now in
    let found = IsFirst-from_position _ _ c.position-own.result (λ (x : Place). x.period ≡ c.args.task.period) (λ (x : Place). Unit {0}) c.position-own.ensures.ran (YieldsList-from_slice places cc) (λ x q k. search (rules, tests)) (λ x q k. search (rules, tests)) in
    let at = MatchOption-at_some _ _ c.in-Some.p c.in-Some.is found in
    let n = c.self.inside.size in
    let all = c.self.inside.places in
    let same : take n all ≡ places = c.self.view_is in
    let before : c.in-Some.p < n = omega (arith, at.0, ap length same, length-take n all) in
    inl (c.in-Some.p, at.0, at.1 _, take_changed n all c.in-Some.p (λ place. record place { budget = place.budget + c.args.task.budget }) before ∙ ap (λ x. set x c.in-Some.p (record (get_or x c.in-Some.p (place_of none)) { budget = (get_or x c.in-Some.p (place_of none)).budget + c.args.task.budget })) same)
