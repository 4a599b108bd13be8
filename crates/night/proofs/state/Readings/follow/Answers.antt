-- A start reads; a finish ends the paths under way at the last place, and writes.
use Rattle.std.proofs.Common.{sym, ap, ◌∙◌}
use Rattle.sheet.specs.Tasks.{first_of, rest_of}
use Rattle.clocklog.specs.Format.{kind_in, event}
use Rattle.night.specs.Follow.{follow}
use Rattle.night.specs.Conditions.{written_by, readings_of}
use Rattle.night.proofs.state.Readings.follow.Goals as goal

pub returns-in-Start : goal.returns-in-Start
unfolding follow
returns-in-Start c =
    let a = c.args.self.now in
    let r = c.args.r in
    let e = c.read.ensures in
    record {
      readings_are = e.readings_are ∙ ap (λ k. follow a.period (first_of a.chain.now) (rest_of a.chain.now) (readings_of a) (event r.task (kind_in k) r.at)) (sym c.in-Start.is);
      chain_same = e.chain_same;
      period_same = e.period_same;
    }

pub returns-in-Finish : goal.returns-in-Finish
unfolding follow
returns-in-Finish c =
    let a = c.args.self.now in
    let r = c.args.r in
    let e = c.write.ensures in
    record {
      readings_are =
          e.readings_are
          ∙ ap (λ x. written_by a.chain.now r.task (record (readings_of a) { longest = x })) c.longest_by-self.ensures
          ∙ ap (λ k. follow a.period (first_of a.chain.now) (rest_of a.chain.now) (readings_of a) (event r.task (kind_in k) r.at)) (sym c.in-Finish.is);
      chain_same = e.chain_same;
      period_same = e.period_same;
    }
