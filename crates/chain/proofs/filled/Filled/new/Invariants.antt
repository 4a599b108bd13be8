-- Place by place the row of one task more is noted, and taken off what is left of the table.
use Rattle.std.proofs.Common.{◌≡◌, length, drop}
use Rattle.arith.specs.Ranges.{sum}
use Rattle.theory.specs.Model.Responses.{jobs}
use Rattle.chain.specs.Paths.{RowsOf}
use Rattle.chain.proofs.filled.Filled.new.Given as goal

abbrev pub invariant-loop-i : goal.invariant-loop-i
invariant-loop-i l = record {
  whole : length l.rows ≡ 16;
  left_is : l.left ≡ drop (sum l.i (jobs l.task-items)) l.table;
  noted : RowsOf l.task-items l.i l.rows;
}
