-- The rows in a table: where each job's response stands.
use Rattle.std.specs.Prelude.{◌≡◌, List, ◌++◌, length, drop}
use Rattle.std.proofs.Math.Path.{refl, sym, ap, ap₂}
use Rattle.std.proofs.Common.{◌∙◌, subst, arith}
use Prim.Native.Nat.{ℕ, zero, suc, ◌+◌, ◌<◌}
use Rattle.std.proofs.Math.Decide.{ℕ_discrete}
use Rattle.std.proofs.Math.ListN.{get_or, length-append, get_or-append}
use Rattle.std.proofs.Math.Seq.{get_or-append-add}
use Rattle.arith.specs.Ranges.{sum}
use Rattle.arith.specs.RangeLaws.{sum_grows}
use Rattle.bits.specs.Lists.{length_list_of, get_d_list_of}
use Rattle.theory.specs.declared.Task.{Task}
use Rattle.theory.specs.Model.Responses.{all_jobs, response, jobs}
use Rattle.answers.specs.Answers.{given}
use Rattle.sheet.specs.declared.Sheet.{Sheet}
use Rattle.sheet.specs.Tasks.{tasks_of}
use Rattle.schedule.specs.declared.answer.Totals.{Totals}
use Rattle.schedule.specs.Calls.{responses_of, row, rows, table_after}
use Rattle.schedule.specs.Taken.{Holds}

module _ (ts : List Task) where
  pub rows_length : (n : ℕ) → length (rows ts n) ≡ sum n (jobs ts)
  unfolding rows sum
  rows_length zero = refl
  rows_length (suc n) = length-append (rows ts n) (row ts n) ∙ ap₂ ◌+◌ (rows_length n) (length_list_of (jobs ts n) (response ts n))

  -- Job k of task i has its response at place k of the task's row, which stands after the rows before it.
  pub rows_entry : (n i k : ℕ) → i < n → k < jobs ts i → get_or (rows ts n) (sum i (jobs ts) + k) 0 ≡ response ts i k
  unfolding rows sum
  rows_entry zero i k l m = absurd (omega arith)
  rows_entry (suc n) i k l m = go (ℕ_discrete i n) (λ q. rows_entry n i k q m)
    where
      go : Dec (i ≡ n) → (i < n → get_or (rows ts n) (sum i (jobs ts) + k) 0 ≡ response ts i k) → get_or (rows ts n ++ row ts n) (sum i (jobs ts) + k) 0 ≡ response ts i k
      go (yes e) rec =
          ap (λ x. get_or (rows ts n ++ row ts n) (x + k) 0) (ap (λ x. sum x (jobs ts)) e ∙ sym (rows_length n))
          ∙ get_or-append-add (rows ts n) (row ts n) k 0 ∙ get_d_list_of (jobs ts n) (response ts n) k 0 (subst (λ x. k < jobs ts x) e m) ∙ ap (λ x. response ts x k) (sym e)
      go (no e) rec = get_or-append (rows ts n) (row ts n) 0 (sum i (jobs ts) + k) (omega (arith, rows_length n, sum_grows (jobs ts) (suc i) n (omega arith))) ∙ rec (omega arith)

-- Where the answer is given, the table holds it there.
pub table_entry : (s : Sheet) (old : List ℕ) {totals : Totals} → responses_of s (length old) ≡ given totals → (i k : ℕ) → i < length (tasks_of s) → k < jobs (tasks_of s) i
    → get_or (table_after (responses_of s (length old)) (tasks_of s) old) (sum i (jobs (tasks_of s)) + k) 0 ≡ response (tasks_of s) i k
unfolding sum
table_entry s old e i k l m =
    ap (λ x. get_or (table_after x ts old) (sum i (jobs ts) + k) 0) e
    ∙ get_or-append (rows ts (length ts)) _ 0 (sum i (jobs ts) + k) (omega (arith, rows_length ts (length ts), sum_grows (jobs ts) (suc i) (length ts) l))
    ∙ rows_entry ts (length ts) i k l m
  where
    ts : List Task
    ts = tasks_of s

-- So it holds the rows.
pub filled_holds : (s : Sheet) (old : List ℕ) {table : List ℕ} {totals : Totals} → responses_of s (length old) ≡ given totals
    → table ≡ table_after (responses_of s (length old)) (tasks_of s) old → Holds (tasks_of s) table
unfolding all_jobs
filled_holds s old {table} e q = record {
  enough = omega (arith, ap length (q ∙ ap (λ a. table_after a ts old) e), length-append (rows ts (length ts)) (drop (all_jobs ts) old), rows_length ts (length ts));
  entry = λ i k l m. ap (λ xs. get_or xs (sum i (jobs ts) + k) 0) q ∙ table_entry s old e i k l m;
}
  where
    ts : List Task
    ts = tasks_of s
