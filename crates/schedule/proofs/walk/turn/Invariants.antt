use Rattle.schedule.proofs.Releases.{TurnedTo}
use Rattle.schedule.proofs.walk.turn.Given as goal

abbrev pub invariant-loop-place : goal.invariant-loop-place
invariant-loop-place l = TurnedTo l.initial.others l.others l.at l.own.next l.initial.clear l.clear l.soon l.place-index
