use Rattle.std.proofs.Common.{◌-◌, length}
use Rattle.schedule.specs.Conditions.{coming}
use Rattle.schedule.proofs.Draining.{Underway}
use Rattle.schedule.proofs.Releases.{Walking}
use Rattle.schedule.proofs.walk.walk_row.Given as goal

abbrev pub invariant-loop-at : goal.invariant-loop-at
invariant-loop-at l =
    Underway (coming l.initial.own l.initial.others) l.initial.own.period l.h (length l.initial.row) l.at l.clear l.rests l.release l.k l.row
    × Walking l.initial.own l.initial.others l.at l.own l.others

abbrev pub decreases-loop-at : goal.decreases-loop-at
decreases-loop-at l = l.h - l.at
