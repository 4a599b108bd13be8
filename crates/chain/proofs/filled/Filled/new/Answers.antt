-- The row of task i is as long as the task has jobs, and the next one starts after it.
use Rattle.std.proofs.Common.{◌≡◌, ◌+◌, ◌/◌, ◌<◌, ◌≤◌, List, ℕ, length, get_or, take, drop, refl, sym, ap, ap₂, ◌∙◌, subst, arith, add-one, drop-drop, length-set}
use Rattle.arith.specs.Ranges.{sum}
use Rattle.theory.specs.declared.Task.{Task}
use Rattle.theory.specs.Model.Schedule.{none}
use Rattle.theory.specs.Model.Responses.{hyperperiod, jobs}
use Rattle.schedule.specs.Taken.{Taken, Holds}
use Rattle.chain.specs.Paths.{RowOf, RowsOf}
use Rattle.chain.specs.RowLaws.{row_left, row_cut, row_period_positive, row_period_most, row_some, row_before, row_response_most, rows_more}
use Rattle.chain.proofs.filled.Filled.new.Goals as goal

-- Row i, and how far it reaches.
module _ {us ts : List Task} (same : us ≡ ts) (taken : Taken ts) {h : ℕ} (is : h ≡ hyperperiod ts) {table : List ℕ} (holds : Holds ts table)
    (i : ℕ) (l : i < length us) {left : List ℕ} (e : left ≡ drop (sum i (jobs us)) table) where
  taken_here : Taken us
  taken_here = subst Taken (sym same) taken

  holds_here : Holds us table
  holds_here = subst (λ xs. Holds xs table) (sym same) holds

  count : h / (get_or us i none).period ≡ jobs us i
  count = ap (λ x. x / (get_or us i none).period) (is ∙ ap hyperperiod (sym same))

  room : h / (get_or us i none).period ≤ length left
  room = omega (arith, count, row_left holds_here i l e)

  cut : {front : List ℕ} → front ≡ take (h / (get_or us i none).period) left → RowOf us i (get_or us i none) front
  cut q = subst (RowOf us i (get_or us i none)) (sym q) (row_cut taken_here holds_here i l e count refl)

  next : {rest : List ℕ} → rest ≡ drop (h / (get_or us i none).period) left → rest ≡ drop (sum (i + 1) (jobs us)) table
  unfolding sum
  next q = rw add-one (q ∙ ap₂ drop count e ∙ drop-drop (jobs us i) (sum i (jobs us)) table)

pub loop-i-init : goal.loop-i-init
unfolding sum
loop-i-init c = record { whole = refl; left_is = refl; noted = λ i l past. absurd (omega arith) }

pub split_at-requires : goal.split_at-requires
split_at-requires c =
    let q = c.requires in
    room c.tasks-task-items.ensures q.taken q.h_value q.holds c.loop-i.i c.loop-i-test.true c.loop-i.invariant.left_is

pub invariant_of-rows-in-loop-i : goal.invariant_of-rows-in-loop-i
invariant_of-rows-in-loop-i c =
    let q = c.requires in
    let same = c.tasks-task-items.ensures in
    let i = c.loop-i.i in
    let k = c.loop-i-test.true in
    let e = c.loop-i.invariant.left_is in
    let taken = taken_here same q.taken q.h_value q.holds i k e in
    let row = cut same q.taken q.h_value q.holds i k e c.split_at.ensures.front in
    record {
      period_positive = row_period_positive taken i k row;
      period_most = row_period_most taken i k row;
      some = row_some taken i k row;
      before = row_before taken i k row;
      response_most = row_response_most taken i k row;
    }

pub loop-i-preserved : goal.loop-i-preserved
loop-i-preserved c =
    let q = c.requires in
    let same = c.tasks-task-items.ensures in
    let i = c.loop-i.i in
    let k = c.loop-i-test.true in
    let e = c.loop-i.invariant.left_is in
    record {
      whole = simp length-set c.loop-i.invariant.whole;
      left_is = next same q.taken q.h_value q.holds i k e c.split_at.ensures.back;
      noted = rows_more c.tasks-task-items.result.now i c.loop-i.rows _ c.loop-i.invariant.noted
          (cut same q.taken q.h_value q.holds i k e c.split_at.ensures.front) (omega (arith, k, ap length same, c.loop-i.invariant.whole, q.taken.count_most));
    }

pub invariant_of-result : goal.invariant_of-result
invariant_of-result c = record {
  taken = c.requires.taken;
  noted = subst (λ xs. RowsOf xs (length xs) c.loop-i.rows) c.tasks-task-items.ensures (λ i l past. c.loop-i.invariant.noted i (omega arith) past);
}
