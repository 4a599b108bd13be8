-- Row by row the part of the table that belongs to the task is lent to its walk, straight after the rows before it.
use Rattle.std.proofs.Common.{◌≡◌, ◌+◌, ◌≤◌, refl, ap, ◌∙◌, subst, add-one, length, arith}
use Rattle.arith.specs.Ranges.{sum}
use Rattle.theory.specs.Model.Greatest.{greatest}
use Rattle.theory.specs.Model.Responses.{jobs, all_jobs}
use Rattle.schedule.specs.Calls.{rows}
use Rattle.schedule.specs.Conditions.{Filled}
use Rattle.schedule.proofs.Tasks.{jobs_next, jobs_short, jobs_within}
use Rattle.schedule.proofs.Entries.{part_length, row_more}
use Rattle.schedule.proofs.cycle.Cycle.fill_rows.Goals as goal

pub loop-i-init : goal.loop-i-init
unfolding sum rows greatest
loop-i-init c = (
  refl,
  record {
    told = record { none_late = refl; known = omega arith; lowest = λ j l. absurd (omega arith); rest = λ l. absurd (omega arith) };
    same_length = refl;
    untouched = refl;
    filled = λ e. refl;
  },
)

pub overflow_add-end : goal.overflow_add-end
overflow_add-end c =
    let l = c.loop-i in
    let self = c.args.self.now in
    omega (arith, l.invariant.0, c.jobs_of.ensures, jobs_next self.tasks.now l.i, jobs_short self.fine self.sized (l.i + 1) (omega arith))

pub offset_bounds-table-from : goal.offset_bounds-table-from
offset_bounds-table-from c =
    let l = c.loop-i in
    let self = c.args.self.now in
    omega (arith, l.invariant.0, jobs_short self.fine self.sized l.i (omega arith))

pub slice_bounds-fill_row-end : goal.slice_bounds-fill_row-end
slice_bounds-fill_row-end c =
    let l = c.loop-i in
    omega (arith, c.requires.room, l.invariant.0, l.invariant.1.same_length, c.jobs_of.ensures, jobs_within c.args.self.now.tasks.now l.i (omega arith))

pub loop-i-preserved : goal.loop-i-preserved
loop-i-preserved c =
    let l = c.loop-i in
    let ts = c.args.self.now.tasks.now in
    let n = c.jobs_of.result in
    let room : l.from + n ≤ length l.table = omega (arith, c.requires.room, l.invariant.0, l.invariant.1.same_length, c.jobs_of.ensures, jobs_within ts l.i (omega arith)) in (
      omega (arith, l.invariant.0, c.jobs_of.ensures, jobs_next ts l.i),
      rw (add-one l.i) (row_more ts l.i l.from n c.args.table.now l.table c.fill_row-row.new.row room (c.fill_row-row.auto.row ∙ part_length l.from n l.table room) l.invariant.1 c.fill_row-row.ensures c.noted-found.ensures),
    )

pub returns : goal.returns
unfolding all_jobs
returns c =
    let l = c.loop-i in
    let ts = c.args.self.now.tasks.now in
    let all : l.i ≡ length ts = omega arith in
    let ends : l.from ≡ all_jobs ts = l.invariant.0 ∙ ap (λ n. sum n (jobs ts)) all in
    subst (λ e. Filled ts (length ts) e c.args.table.now l.table l.found) ends (subst (λ n. Filled ts n l.from c.args.table.now l.table l.found) all l.invariant.1)
