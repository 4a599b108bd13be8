-- The level that was gathered brings its load, so its walk tells the responses.
use Rattle.std.proofs.Common.{◌∙◌}
use Rattle.schedule.proofs.Backlogs.{coming_load, walkable, row_filled}
use Rattle.schedule.proofs.Gathered.{starts_due}
use Rattle.schedule.proofs.cycle.Cycle.fill_row.Goals as goal

pub walk_row-requires : goal.walk_row-requires
walk_row-requires c =
    let self = c.args.self.now in
    let g = c.level-level.ensures in record {
      starts = record { own_due = rw c.from.ensures (starts_due (self.fine.allowed c.args.i c.requires.known)); others_due = rw c.places.ensures g.due };
      walk_fits = rw (c.places.ensures, c.from.ensures, coming_load self.fine.proper c.args.i c.requires.known g, c.requires.whole) (walkable self.fine c.args.i c.requires.known self.sized.hyperperiod_is self.sized.hyperperiod_most);
    }

pub returns : goal.returns
returns c =
    let self = c.args.self.now in
    let g = c.level-level.ensures in
    row_filled self.fine c.args.i c.requires.known self.sized.hyperperiod_is self.sized.hyperperiod_most c.walk_row.new.row c.walk_row.result (c.walk_row.auto.row ∙ c.requires.whole)
    (rw (c.places.ensures, c.from.ensures, coming_load self.fine.proper c.args.i c.requires.known g) at c.walk_row.ensures)
