-- Each turn settles one place: where the task stands it writes what it has read, elsewhere nothing changes.
use Rattle.std.proofs.Common.{◌≡◌, ℕ}
use Rattle.night.specs.Conditions.{read_in, written_in}
use Rattle.night.proofs.Places.{Swept}
use Rattle.night.proofs.state.Readings.write.Given as goal

abbrev pub invariant-loop-q : goal.invariant-loop-q
invariant-loop-q l = record {
  writes : Swept l.initial.self.chain.now l.task (read_in l.initial.self.places) (written_in l.initial.self.places) (written_in l.self.places) l.q;
  reads : (j : ℕ) → read_in l.self.places j ≡ read_in l.initial.self.places j;
  longest : l.self.longest ≡ l.initial.self.longest;
  chain_same : l.self.chain.now ≡ l.initial.self.chain.now;
  period_same : l.self.period ≡ l.initial.self.period;
}
