-- Each turn settles one place: where the task stands it reads what is ready, elsewhere nothing changes.
use Rattle.std.proofs.Common.{◌≡◌, ℕ}
use Rattle.night.specs.Follow.{ready}
use Rattle.night.specs.Conditions.{read_in, written_in}
use Rattle.night.proofs.Places.{Swept}
use Rattle.night.proofs.state.Readings.read.Given as goal

abbrev pub invariant-loop-q : goal.invariant-loop-q
invariant-loop-q l = record {
  reads : Swept l.initial.self.chain.now l.task (ready (written_in l.initial.self.places)) (read_in l.initial.self.places) (read_in l.self.places) l.q;
  writes : (j : ℕ) → written_in l.self.places j ≡ written_in l.initial.self.places j;
  next : l.ready ≡ ready (written_in l.initial.self.places) l.q;
  longest : l.self.longest ≡ l.initial.self.longest;
  chain_same : l.self.chain.now ≡ l.initial.self.chain.now;
  period_same : l.self.period ≡ l.initial.self.period;
}
