-- How the call ends: the answer and the table in each case are those of the definitions.
use mathlib.Core.Path.{◌≡◌, sym, ap, ap₂, ◌∙◌}
use mathlib.Core.Logic.{◌≢◌}
use mathlib.Core.List.{List, ◌++◌}
use mathlib.Core.Bool.{cond}
use Prim.Native.Nat.{ℕ, ◌≤◌}
use lib.Dec.{eqb}
use lib.ListN.{length, drop, replicate, take-append-drop}
use borrow.Author.Tests.{ne_eqb, le-ltb}
use Rattle.std.specs.Prelude.{Result, Ok}
use Rattle.theory.specs.declared.Task.{Task}
use Rattle.theory.specs.Model.Responses.{all_jobs}
use Rattle.answers.specs.declared.Refusal.{Refusal}
use Rattle.answers.specs.Answers.{given, number_in, refusal, told}
use Rattle.sheet.specs.declared.Sheet.{Sheet}
use Rattle.sheet.specs.Tasks.{tasks_of}
use Rattle.schedule.specs.declared.answer.Size.{Size}
use Rattle.schedule.specs.declared.answer.Totals.{Totals}
use Rattle.schedule.specs.declared.cycle.Lowest.{Lowest}
use Rattle.schedule.specs.Calls.{sizes_of, responses_of, filled_of, table_after}
use Rattle.schedule.specs.Promises.{AnswersAs}
use Rattle.schedule.specs.NumberLaws.{sizes_never_15}
use Rattle.schedule.specs.CallLaws.{responses_refused, responses_filled}
use Rattle.schedule.specs.Tasks.{Fine, SizeOf}
use Rattle.schedule.specs.Conditions.{Filled, FilledAs}
use Rattle.schedule.proofs.Notes.{lowest_idle}

module _ {ts : List Task} (fine : Fine ts) {size : Size} (sized : SizeOf ts size) (old : List ℕ) where
  filled : (r : Result Totals Refusal) {table : List ℕ} → filled_of ts (length old) size ≡ told r → table ≡ table_after (told r) ts old → FilledAs ts size old r table
  filled r e t = (sym e, t ∙ ap (λ x. table_after x ts old) (sym e))

  module _ (room : size.jobs ≤ length old) where
    -- None is late: the rows stand there.
    pub filled_full : {lowest : Lowest} {table : List ℕ} → Filled ts (length ts) (all_jobs ts) old table (Ok lowest)
        → FilledAs ts size old (Ok (record { hyperperiod = size.hyperperiod; jobs = size.jobs; idle = lowest.rests })) table
    filled_full {lowest} {table} f =
        filled (Ok (record { hyperperiod = size.hyperperiod; jobs = size.jobs; idle = lowest.rests })) (rw (le-ltb (length old) size.jobs room, f.told.none_late) (ap (λ x. given (record { hyperperiod = size.hyperperiod; jobs = size.jobs; idle = x })) (sym (lowest_idle ts fine.some f.told))))
        (sym (take-append-drop (all_jobs ts) table) ∙ ap₂ ◌++◌ (f.filled f.told.none_late) f.untouched)

-- For a sheet: a refusal of its sizes leaves the table,
pub answers_refused : (s : Sheet) (old : List ℕ) (r : Refusal) → sizes_of s ≡ refusal r → AnswersAs (responses_of s (length old)) s old (refusal r) old
answers_refused s old r e =
    let q : responses_of s (length old) ≡ refusal r = responses_refused s (length old) r e in
    (sym q, untouched (number_in r) ((sizes_never_15 s).holds e) ∙ ap (λ x. table_after x (tasks_of s) old) (sym q))
  where
    untouched : (n : ℕ) → n ≢ 15 → old ≡ cond (eqb n 15) (replicate (all_jobs (tasks_of s)) 0 ++ drop (all_jobs (tasks_of s)) old) old
    untouched n d = rw (ne_eqb n 15 d)

-- and else it is filled.
pub answers_filled : (s : Sheet) (old : List ℕ) {size : Size} (r : Result Totals Refusal) {table : List ℕ} → sizes_of s ≡ given size
    → FilledAs (tasks_of s) size old r table → AnswersAs (responses_of s (length old)) s old (told r) table
answers_filled s old r fits f =
    let q = responses_filled s (length old) fits in
    (f.0 ∙ sym q, f.1 ∙ ap (λ x. table_after x (tasks_of s) old) (sym q))
