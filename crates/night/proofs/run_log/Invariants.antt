use Rattle.std.proofs.Common.{◌≡◌}
use Rattle.theory.specs.Model.Schedule.{period}
use Rattle.sheet.specs.Tasks.{first_of}
use Rattle.night.specs.Conditions.{state_of, readings_of}
use Rattle.night.proofs.Records.{Going, Tracked}
use Rattle.night.proofs.run_log.Given as goal

abbrev pub invariant-loop-k : goal.invariant-loop-k
invariant-loop-k l = record {
  period_is : l.period ≡ period l.tasks (first_of l.chain);
  going : Going l.tasks l.log l.n l.at l.k (state_of l.state);
  tasks_are : l.state.tasks.now ≡ l.tasks;
  chain_is : l.readings.chain.now ≡ l.chain;
  follows_period : l.readings.period ≡ l.period;
  tracked : Tracked l.period l.chain l.log l.k (readings_of l.readings);
}
