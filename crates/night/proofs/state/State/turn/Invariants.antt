use Rattle.std.proofs.Common.{◌≡◌, length}
use Rattle.night.specs.Conditions.{ended_in}
use Rattle.night.specs.Conditions.{slot, known}
use Rattle.night.proofs.Laws.{best_of}
use Rattle.night.proofs.state.State.turn.Given as goal

abbrev pub invariant-loop-i : goal.invariant-loop-i
invariant-loop-i l = record {
  is_greatest : slot l.best ≡ best_of l.self.tasks.now (ended_in l.self.jobs) l.at l.i;
  best_known : known (length l.self.tasks.now) l.best;
}
