-- The rows of a sheet's tasks: where they lie in a filled table, and how they are noted one by one and copied along a chain.
use Rattle.std.specs.Prelude.{◌≡◌, List, ℕ, suc, ◌+◌, ◌*◌, ◌≤◌, ◌<◌, length, get_or, set, take, drop}
use Rattle.std.proofs.Common.{sym, ap, ◌∙◌, subst, arith, length-take, length-take-le, length-drop, get_or-take, get_or-drop, get_or-set_same, get_or-set_other, below_more}
use Rattle.theory.specs.declared.Task.{Task}
use Rattle.arith.specs.Ranges.{sum}
use Rattle.arith.specs.RangeLaws.{sum_grows}
use Rattle.theory.specs.Model.Schedule.{none, period}
use Rattle.theory.specs.Model.Responses.{jobs, all_jobs}
use Rattle.theory.proofs.Analysis.Hyperperiod.{jobs_whole, jobs_positive}
use Rattle.theory.proofs.Analysis.Repetition.{response_period}
use Rattle.schedule.specs.Calls.{most_ticks, most_jobs}
use Rattle.schedule.specs.Taken.{Taken, Holds}
use Rattle.chain.specs.declared.row.Row.{Row}
use Rattle.chain.specs.Most.{most_period}
use Rattle.chain.specs.Paths.{RowOf, IsRow, RowsOf, PathOf, Copied}

-- The rows up to that of task i lie in the table,
pub row_within : (ts : List Task) (i : ℕ) → i < length ts → sum i (jobs ts) + jobs ts i ≤ all_jobs ts
unfolding all_jobs sum
row_within ts i l = sum_grows (jobs ts) (suc i) (length ts) l

-- which has few.
pub row_few : {ts : List Task} → Taken ts → (i : ℕ) → i < length ts → sum i (jobs ts) + jobs ts i ≤ most_jobs
row_few {ts} taken i l = omega (arith, row_within ts i l, taken.few)

pub row_left : {ts : List Task} {table : List ℕ} → Holds ts table → (i : ℕ) → i < length ts → {left : List ℕ} → left ≡ drop (sum i (jobs ts)) table → jobs ts i ≤ length left
row_left {ts} {table} holds i l e = omega (arith, ap length e, length-drop (sum i (jobs ts)) table, row_within ts i l, holds.enough)

-- Of what is left of a filled table after the rows before it, the front is the row of task i.
pub row_cut : {ts : List Task} {table : List ℕ} → Taken ts → Holds ts table → (i : ℕ) → i < length ts → {left : List ℕ} {n : ℕ} → left ≡ drop (sum i (jobs ts)) table → n ≡ jobs ts i
    → {task : Task} → task ≡ get_or ts i none → RowOf ts i task (take n left)
row_cut {ts} {table} taken holds i l {left} {n} e q t = record {
  task_is = t;
  count_is = simp length-take (omega (arith, q, row_left holds i l e));
  response_is = λ k m.
      get_or-take n left k 0 (omega arith) ∙ ap (λ xs. get_or xs k 0) e ∙ get_or-drop (sum i (jobs ts)) table k 0 ∙ holds.entry i k l m;
}

-- What the walk needs of a row.
module _ {ts : List Task} (taken : Taken ts) (i : ℕ) (l : i < length ts) {task : Task} {responses : List ℕ} (row : RowOf ts i task responses) where
  same : task.period ≡ period ts i
  same = ap (λ (t : Task). t.period) row.task_is

  pub row_period_positive : 0 < task.period
  row_period_positive = omega (arith, same, taken.accepted.proper.period_positive i l)

  pub row_period_most : task.period ≤ most_period
  row_period_most = omega (arith, same, taken.period_most i l)

  pub row_some : 0 < length responses
  row_some = omega (arith, row.count_is, jobs_positive taken.accepted.proper i l)

  pub row_before : length responses * task.period ≤ most_ticks
  row_before = rw (row.count_is, same) (omega (arith, jobs_whole taken.accepted.proper i l, taken.short))

  pub row_response_most : (k : ℕ) → k < length responses → get_or responses k 0 ≤ most_period
  row_response_most k m =
      omega (arith, row.response_is k (omega (arith, row.count_is)), response_period taken.accepted i l k, taken.period_most i l)

-- One row more.
pub rows_more : (ts : List Task) (n : ℕ) (rows : List Row) (row : Row) → RowsOf ts n rows → IsRow ts n row → n < length rows → RowsOf ts (n + 1) (set rows n row)
rows_more ts n rows row before is room = below_more (λ i. (past : Row) → IsRow ts i (get_or (set rows n row) i past)) n
    (λ i l past. subst (IsRow ts i) (sym (get_or-set_other rows n i row past (λ e. omega arith))) (before i l past))
    (λ past. subst (IsRow ts n) (sym (get_or-set_same rows n row past room)) is)

-- Copies along a chain of the list's tasks are the chain's path.
pub copied_path : (ts : List Task) (chain : List ℕ) (n : ℕ) (rows path : List Row) → RowsOf ts (length ts) rows → ((j : ℕ) → j < n → get_or chain j 0 < length ts)
    → Copied chain rows n path → PathOf ts chain n path
copied_path ts chain n rows path all known copied j l past = subst (IsRow ts (get_or chain j 0)) (sym (copied j l past)) (all (get_or chain j 0) (known j l) past)

-- The front of it is too.
pub path_front : (ts : List Task) (chain : List ℕ) (n : ℕ) (path : List Row) → PathOf ts chain n path → PathOf ts chain n (take n path)
path_front ts chain n path is j l past = subst (IsRow ts (get_or chain j 0)) (sym (get_or-take n path j past l)) (is j l past)

-- The front of a path that is copied along a chain is the chain's path.
pub front_path : (ts : List Task) (chain lent : List ℕ) (rows path : List Row) → lent ≡ chain → length chain ≤ length path → RowsOf ts (length ts) rows
    → ((j : ℕ) → j < length chain → get_or chain j 0 < length ts) → Copied lent rows (length lent) path
    → (length (take (length lent) path) ≡ length chain) × PathOf ts chain (length chain) (take (length lent) path)
front_path ts chain lent rows path e few all known copied = subst (λ xs. Copied xs rows (length xs) path → (length (take (length xs) path) ≡ length chain) × PathOf ts chain (length chain) (take (length xs) path))
    (sym e) (λ h. (length-take-le (length chain) path few, path_front ts chain (length chain) path (copied_path ts chain (length chain) rows path all known h))) copied
