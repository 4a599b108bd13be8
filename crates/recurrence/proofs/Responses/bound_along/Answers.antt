-- What is added so far and what is left from this entry on are the whole bound.
use Rattle.std.proofs.Common.{◌≡◌, ◌∙◌, ◌+◌, ◌-◌, ◌≤◌, length, get_or, drop, length-take, length-drop, arith}
use Rattle.sheet.specs.Tasks.{tasks_of}
use Rattle.recurrence.specs.Calls.{bound_by}
use Rattle.recurrence.specs.Conditions.{most_bound}
use Rattle.recurrence.specs.BoundLaws.{bound_from, bound_start, pair_taken, pairs_taken, entry_is}
use Rattle.recurrence.proofs.Responses.bound_along.Goals.{After-pair_bound, After-loop-entry}
use Rattle.recurrence.proofs.Responses.bound_along.Goals as goal

pub loop-entry-init : goal.loop-entry-init
loop-entry-init c = omega (arith, bound_start c.args.self.now.judged.sheet c.args.chain.now)

pub bounds-tasks-c : goal.bounds-tasks-c
bounds-tasks-c c =
    let next = entry_is c.args.chain.now c.loop-entry.entry-index c.loop-entry-test.true in
    omega (arith, next, c.requires.entry_below (c.loop-entry.entry-index + 1) next.0, c.args.self.now.judged.sound.count_most)

-- A pair more.
taken : (c : After-pair_bound) → let l = c.loop-entry in
    (l.ticks + c.pair_bound.result + bound_from c.args.self.now.judged.sheet c.args.chain.now (l.entry-index + 1) ≡ bound_by (tasks_of c.args.self.now.judged.sheet) c.args.chain.now)
    × (l.ticks + c.pair_bound.result ≤ most_bound)
taken c =
    let l = c.loop-entry in
    let next = entry_is c.args.chain.now l.entry-index c.loop-entry-test.true in
    pair_taken c.args.self.now.judged.sound c.args.self.now.responding c.requires l.entry-index next.0 l.ticks l.invariant.at (c.from-c.ensures ∙ next.1) l.invariant.so_far c.pair_bound.ensures

pub overflow_cast-ticks : goal.overflow_cast-ticks
overflow_cast-ticks c = omega (arith, taken (goal.at.overflow_cast-ticks c).After-pair_bound)

pub overflow_add-ticks : goal.overflow_add-ticks
overflow_add-ticks c = omega (arith, taken (goal.at.overflow_add-ticks c).After-pair_bound)

pub loop-entry-preserved : goal.loop-entry-preserved
loop-entry-preserved c =
    record {
      so_far = (taken (goal.at.loop-entry-preserved c).After-pair_bound).0;
      at = c.from-c.ensures ∙ (entry_is c.args.chain.now c.loop-entry.entry-index c.loop-entry-test.true).1;
    }

-- All pairs are taken.
all_taken : (c : After-loop-entry) → let l = c.loop-entry in
    (l.ticks + get_or c.args.self.now.each l.p 0 ≡ bound_by (tasks_of c.args.self.now.judged.sheet) c.args.chain.now)
    × (l.ticks + get_or c.args.self.now.each l.p 0 ≤ most_bound)
all_taken c =
    let l = c.loop-entry in
    let chain = c.args.chain.now in
    pairs_taken c.args.self.now.judged.sound c.args.self.now.responding c.requires l.entry-index l.ticks
    (omega (arith, c.requires.some, length-take (length chain - 1) (drop 1 chain), length-drop 1 chain)) l.invariant.at l.invariant.so_far

pub overflow_add-result : goal.overflow_add-result
overflow_add-result c = omega (arith, all_taken (goal.at.overflow_add-result c).After-loop-entry)

pub returns : goal.returns
returns c = (all_taken (goal.at.returns c).After-loop-entry).0
