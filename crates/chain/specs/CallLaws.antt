-- The answers case by case: a refusal met on the way, or none, and what is known where an answer is given.
use Rattle.std.specs.Prelude.{◌≡◌, List, [], Bool, true, false, cond, ℕ, ◌%◌, ◌≤◌, ◌<◌, ltb, leb, ℤ, length, Result, Ok, Err}
use Rattle.std.proofs.Math.Path.{refl, sym, ap}
use Rattle.std.proofs.Common.{◌∙◌, subst, arith, lt-ltb, le-ltb, le-leb, ne_eqb, ltb-false}
use Rattle.std.proofs.lemmas.Bool.{false≢true, lt-leb}
use Rattle.theory.specs.Model.Flag.{from_flag}
use Rattle.theory.specs.declared.Task.{Task}
use Rattle.theory.specs.Model.Schedule.{period, release}
use Rattle.theory.specs.Model.Responses.{hyperperiod}
use Rattle.answers.specs.declared.Refusal.{Refusal}
use Rattle.answers.specs.Answers.{Answer, given, refused, Judgement, fine, when, after, also, number_in, refusal}
use Rattle.answers.specs.AnswerLaws.{when_fine, also_given, after_given, after_refused}
use Rattle.sheet.specs.declared.Sheet.{Sheet}
use Rattle.sheet.specs.Calls.{judge_of}
use Rattle.sheet.specs.Tasks.{tasks_of, chain_count, lacks, chain_of, first_of}
use Rattle.sheet.specs.Sound.{Sound}
use Rattle.sheet.specs.SoundLaws.{judged_sound}
use Rattle.sheet.specs.TaskLaws.{chain_known, chain_most}
use Rattle.schedule.specs.declared.answer.Totals.{Totals}
use Rattle.schedule.specs.declared.answer.Size.{Size}
use Rattle.schedule.specs.declared.answer.TaskResponses.{TaskResponses}
use Rattle.schedule.specs.Calls.{sizes_of, responses_of, task_responses_of, with_greatest, table_after}
use Rattle.schedule.specs.CallLaws.{task_table}
use Rattle.schedule.specs.NumberLaws.{sizes_never_15}
use Rattle.schedule.specs.Promises.{AnswersAs}
use Rattle.schedule.specs.Results.{responses_given, given_taken}
use Rattle.schedule.specs.Taken.{Taken, Holds}
use Rattle.schedule.specs.RowLaws.{filled_holds}
use Rattle.chain.specs.declared.answer.Suite.{Suite}
use Rattle.chain.specs.declared.answer.Summary.{Summary}
use Rattle.chain.specs.declared.answer.TaskFigures.{TaskFigures}
use Rattle.chain.specs.Calls.{delay_at, figure_of, quick_bound, less, no_release, named, most_limit, report_limit, summary_at, summaries_to, with_tasks, report_of, delay_of, margin_of, figures_of, task_figures_of, suite_of}
use Rattle.chain.specs.Conditions.{TakenChain, Lacking, over_limit}
use Rattle.chain.specs.NumberLaws.{named_never_15, over_never_15}
use Rattle.chain.specs.SuiteLaws.{report_most}

-- ---- how a call ends

module _ {A B : Type 0} (s : Sheet) (old : List ℕ) {source : Answer A} (next : A → Answer B) where
  -- "a refusal met on the way is handed up unchanged"
  pub answers_no : (r : Refusal) {table : List ℕ} → source ≡ refusal r → table ≡ table_after source (tasks_of s) old
      → AnswersAs (after source next) s old (refusal r) table
  answers_no r e t =
      let d : after source next ≡ refusal r = ap (λ a. after a next) e in
      (sym d, t ∙ ap (λ a. table_after a (tasks_of s) old) e ∙ ap (λ a. table_after a (tasks_of s) old) (sym d))

  pub answers_given : {a : A} {b : B} {table : List ℕ} → source ≡ given a → next a ≡ given b
      → table ≡ table_after source (tasks_of s) old → AnswersAs (after source next) s old (given b) table
  answers_given {b = b} e q t =
      let d : after source next ≡ given b = ap (λ x. after x next) e ∙ q in
      (sym d, t ∙ ap (λ x. table_after x (tasks_of s) old) e ∙ ap (λ x. table_after x (tasks_of s) old) (sym d))

-- A refusal of a field, of the chain's number or of H and J leaves the table untouched,
module _ (s : Sheet) (old : List ℕ) (r : Refusal) where
  pub named_untouched : (number : ℕ) → named s number ≡ refusal r → old ≡ table_after (named s number) (tasks_of s) old
  named_untouched number e = rw (e, ne_eqb (number_in r) 15 ((named_never_15 s number).holds e))

  pub sizes_untouched : sizes_of s ≡ refusal r → old ≡ table_after (sizes_of s) (tasks_of s) old
  sizes_untouched e = rw (e, ne_eqb (number_in r) 15 ((sizes_never_15 s).holds e))

  pub over_untouched : (number : ℕ) → over_limit s number ≡ refusal r → old ≡ table_after (over_limit s number) (tasks_of s) old
  over_untouched number e = rw (e, ne_eqb (number_in r) 15 ((over_never_15 s number).holds e))

-- and so does 12.
pub answers_number : {A : Type 0} {definition : Answer A} (n : ℕ) (s : Sheet) (old : List ℕ) → n ≤ 14 → definition ≡ refused n [] → AnswersAs definition s old (refused n []) old
answers_number n s old l e = (sym e, rw (e, ne_eqb n 15 (λ z. omega arith)))

-- ---- the chain's number

-- The number's refusal, or a field's, comes before the rest;
module _ (s : Sheet) (number : ℕ) {v : Result Unit Refusal} (l : Lacking s number v) where
  pub lacking_no : (r : Refusal) → v ≡ Err r → named s number ≡ refusal r
  lacking_no r e = subst (Lacking s number) e l

  pub lacking_fine : {u : Unit} → v ≡ Ok u → lacks s number ≡ fine
  lacking_fine e = subst (Lacking s number) e l

-- where the sheet has the chain, the fields are judged with H and J.
module _ {A : Type 0} (s : Sheet) (number : ℕ) (known : lacks s number ≡ fine) where
  pub known_sizes : (next : Size → Answer A) → also (named s number) (after (sizes_of s) next) ≡ after (sizes_of s) next
  unfolding sizes_of
  known_sizes next = ap (λ k. also (also (judge_of s) k) (after (sizes_of s) next)) known ∙ go (judge_of s) _
    where
      go : (j : Judgement) (sizes : Answer Size) → also (also j fine) (after (also j sizes) next) ≡ after (also j sizes) next
      go (given u) sizes = refl
      go (refused number values) sizes = refl

  pub known_responses : (room : ℕ) (next : Totals → Answer A) → also (named s number) (after (responses_of s room) next) ≡ after (responses_of s room) next
  unfolding responses_of
  known_responses room next = ap (also (named s number)) (out (sizes_of s) _) ∙ known_sizes _ ∙ sym (out (sizes_of s) _)
    where
      out : (z : Answer Size) (fill : Size → Answer Totals) → after (after z fill) next ≡ after z (λ size. after (fill size) next)
      out (given size) fill = refl
      out (refused number values) fill = refl

module _ (s : Sheet) (number : ℕ) (known : lacks s number ≡ fine) (room : ℕ) where
  pub figures_known : figures_of s number room ≡ after (responses_of s room) (λ totals. given (summary_at s number totals))
  unfolding figures_of
  figures_known = known_responses s number known room _

-- The answers with R of each task, from those of `task_responses`.
abbrev pub figures_from : Sheet → ℕ → TaskResponses → TaskFigures
figures_from s number x = record { summary = summary_at s number x.totals; greatest = x.greatest }

abbrev pub suite_from : Sheet → TaskResponses → Suite
suite_from s x = record { totals = x.totals; greatest = x.greatest; chains = summaries_to s x.totals (chain_count s) }

pub task_figures_known : (s : Sheet) (number : ℕ) → lacks s number ≡ fine → (room : ℕ)
    → task_figures_of s number room ≡ after (task_responses_of s room) (λ x. given (figures_from s number x))
unfolding task_figures_of task_responses_of
task_figures_known s number known room = ap (λ a. after a (λ x. given (with_tasks s x))) (figures_known s number known room) ∙ go (responses_of s room)
  where
    go : (a : Answer Totals) → after (after a (λ totals. given (summary_at s number totals))) (λ x. given (with_tasks s x))
        ≡ after (after a (λ totals. given (with_greatest s totals))) (λ x. given (figures_from s number x))
    go (given totals) = refl
    go (refused number values) = refl

pub suite_known : (s : Sheet) (room : ℕ) → suite_of s room ≡ after (task_responses_of s room) (λ x. given (suite_from s x))
unfolding suite_of task_responses_of
suite_known s room = go (responses_of s room)
  where
    go : (a : Answer Totals) → after a (λ totals. given (report_of s totals)) ≡ after (after a (λ totals. given (with_greatest s totals))) (λ x. given (suite_from s x))
    go (given totals) = refl
    go (refused number values) = refl

-- What is in them is what they are made of.
pub totals_in : (s : Sheet) (room : ℕ) {x : TaskResponses} → task_responses_of s room ≡ given x → responses_of s room ≡ given x.totals
unfolding task_responses_of
totals_in s room e = let g = after_given (responses_of s room) _ e in cc (g.1, g.2)

pub summary_in : (s : Sheet) (number room : ℕ) {x : TaskFigures} → task_figures_of s number room ≡ given x → figures_of s number room ≡ given x.summary
unfolding task_figures_of
summary_in s number room e = let g = after_given (figures_of s number room) _ e in cc (g.1, g.2)

pub suite_given : (s : Sheet) (room : ℕ) {x : Suite} → suite_of s room ≡ given x → (totals : Totals) × (responses_of s room ≡ given totals) × (report_of s totals ≡ x)
unfolding suite_of
suite_given s room e = let g = after_given (responses_of s room) _ e in (g.0, g.1, cc g.2)

-- What is refused of them is refused of what they are made of.
pub figures_refused : (s : Sheet) (number room : ℕ) (r : Refusal) → task_figures_of s number room ≡ refusal r → figures_of s number room ≡ refusal r
unfolding task_figures_of
figures_refused s number room r e = after_refused (figures_of s number room) (with_tasks s) r e

pub suite_refused : (s : Sheet) (room : ℕ) (r : Refusal) → suite_of s room ≡ refusal r → responses_of s room ≡ refusal r
unfolding suite_of
suite_refused s room r e = after_refused (responses_of s room) (report_of s) r e

pub over_known : (s : Sheet) (number : ℕ) → lacks s number ≡ fine → over_limit s number ≡ after (sizes_of s) (λ size. refused 13 [])
over_known s number known = known_sizes s number known _

-- ---- 12 and 13

module _ (s : Sheet) (number : ℕ) (known : lacks s number ≡ fine) (room : ℕ) where
  abbrev ts : List Task
  ts = tasks_of s

  abbrev T : ℕ
  T = period ts (first_of (chain_of s number))

  -- The release is judged after H and J.
  abbrev judged : ℕ → Size → Answer ℕ
  judged release size = also (when (no_release ts (chain_of s number) release) 12) (after (responses_of s room) (λ totals. given (delay_at ts (chain_of s number) release)))

  pub delay_known : (release : ℕ) → delay_of s number release room ≡ after (sizes_of s) (judged release)
  unfolding delay_of
  delay_known release = known_sizes s number known _

  module _ {size : Size} (fits : sizes_of s ≡ given size) where
    pub delay_beyond : (release : ℕ) → hyperperiod ts ≤ release → delay_of s number release room ≡ refused 12 []
    delay_beyond release h = delay_known release ∙ rw (fits, le-leb (hyperperiod ts) release h)

    pub delay_between : (release : ℕ) → release < hyperperiod ts → 0 < release % T → delay_of s number release room ≡ refused 12 []
    delay_between release h d = delay_known release ∙ rw (fits, lt-leb (hyperperiod ts) release h, lt-ltb 0 (release % T) d)

    pub delay_asked : (release : ℕ) → release < hyperperiod ts → release % T ≤ 0
        → delay_of s number release room ≡ after (responses_of s room) (λ totals. given (delay_at ts (chain_of s number) release))
    delay_asked release h d = delay_known release ∙ rw (fits, lt-leb (hyperperiod ts) release h, le-ltb 0 (release % T) d)

-- A limit that is too large is refused last,
pub margin_over : (s : Sheet) (number room limit : ℕ) → most_limit < limit → margin_of s number limit room ≡ over_limit s number
unfolding margin_of
margin_over s number room limit h = rw (lt-ltb most_limit limit h)

-- and one that is allowed takes no part in the refusals.
pub margin_asked : (s : Sheet) (number room limit : ℕ) → limit ≤ most_limit → margin_of s number limit room ≡ after (figures_of s number room) (λ x. given (less limit x.worst))
unfolding margin_of figures_of responses_of
margin_asked s number room limit h = rw (le-ltb most_limit limit h) (go (named s number) (sizes_of s) _ _ _)
  where
    go : (j : Judgement) (z : Answer Size) (fill : Size → Answer Totals) (sum : Totals → Answer Summary) (less : Summary → Answer ℤ)
        → also j (after z (λ size. after (also j (after (after z fill) sum)) less)) ≡ after (also j (after (after z fill) sum)) less
    go (refused number values) z fill sum less = refl
    go (given u) (given size) fill sum less = refl
    go (given u) (refused number values) fill sum less = refl

pub margin_tasks : (s : Sheet) (number room limit : ℕ) → limit ≤ most_limit → margin_of s number limit room ≡ after (task_figures_of s number room) (λ x. given (less limit x.summary.worst))
unfolding task_figures_of
margin_tasks s number room limit h = margin_asked s number room limit h ∙ go (figures_of s number room)
  where
    go : (a : Answer Summary) → after a (λ x. given (less limit x.worst)) ≡ after (after a (λ x. given (with_tasks s x))) (λ x. given (less limit x.summary.worst))
    go (given x) = refl
    go (refused number values) = refl

-- ---- where an answer is given

-- A chain on a sheet whose tasks are taken.
pub sheet_chain : (s : Sheet) → Sound s → Taken (tasks_of s) → (number : ℕ) → lacks s number ≡ fine → TakenChain (tasks_of s) (chain_of s number)
sheet_chain s sound taken number known = record { tasks = taken; known = chain_known _ sound number known; few = chain_most _ sound number known }

-- The answer of a chain's call is given for such a chain.
pub filled_chain : (s : Sheet) (number room : ℕ) {totals : Totals} → lacks s number ≡ fine → responses_of s room ≡ given totals → TakenChain (tasks_of s) (chain_of s number)
filled_chain s number room known e = sheet_chain _ (judged_sound s (responses_given s room e).judged_fine) (given_taken s room e) number known

-- A table that is filled: what its figures are worked out from.
pub filled_ready : (s : Sheet) (old : List ℕ) {table : List ℕ} {totals : Totals} → responses_of s (length old) ≡ given totals → table ≡ table_after (responses_of s (length old)) (tasks_of s) old
    → (Sound s × Taken (tasks_of s)) × ((totals.hyperperiod ≡ hyperperiod (tasks_of s)) × Holds (tasks_of s) table)
filled_ready s old e q =
    let g = responses_given s (length old) e in
    ((judged_sound s g.judged_fine, given_taken s (length old) e), (g.hyperperiod_is, filled_holds s old e q))

pub tasks_ready : (s : Sheet) (old : List ℕ) {table : List ℕ} {x : TaskResponses} → task_responses_of s (length old) ≡ given x → table ≡ table_after (task_responses_of s (length old)) (tasks_of s) old
    → (Sound s × Taken (tasks_of s)) × ((x.totals.hyperperiod ≡ hyperperiod (tasks_of s)) × Holds (tasks_of s) table)
tasks_ready s old e q = filled_ready s old (totals_in s (length old) e) (q ∙ sym (task_table s (length old) old))

-- The figures that are given: the chain is one of the sheet's and taken, the totals are those of `responses`, and the rest is worked out from
-- the chain.
pub record FiguresGiven (s : Sheet) (number room : ℕ) (x : Summary) : Type 0 where
  pub known : lacks s number ≡ fine
  pub limit_most : report_limit s number ≤ most_limit
  pub taken : TakenChain (tasks_of s) (chain_of s number)
  pub totals_are : responses_of s room ≡ given x.totals
  pub sampling_is : x.sampling ≡ figure_of (tasks_of s) (chain_of s number)
  pub quick_is : x.sampling_bound ≡ quick_bound (tasks_of s) (chain_of s number)
  pub worst_is : x.worst ≡ from_flag (tasks_of s) (first_of (chain_of s number)) x.sampling.ticks
  pub bound_is : x.bound ≡ from_flag (tasks_of s) (first_of (chain_of s number)) x.sampling_bound
  pub margin_is : x.margin ≡ less (report_limit s number) x.worst

pub figures_given : (s : Sheet) (number room : ℕ) {x : Summary} → figures_of s number room ≡ given x → FiguresGiven s number room x
unfolding figures_of
figures_given s number room {x} e = subst (FiguresGiven s number room) (cc found.2) (record {
  known = has;
  limit_most = report_most _ (judged_sound s fields.0) number has;
  taken = filled_chain s number room has found.1;
  totals_are = found.1;
  sampling_is = refl;
  quick_is = refl;
  worst_is = refl;
  bound_is = refl;
  margin_is = refl;
})
  where
    first : (named s number ≡ fine) × (after (responses_of s room) (λ totals. given (summary_at s number totals)) ≡ given x)
    first = also_given (named s number) _ e

    fields : (judge_of s ≡ fine) × (lacks s number ≡ fine)
    fields = also_given (judge_of s) (lacks s number) first.0

    has : lacks s number ≡ fine
    has = fields.1

    found : (totals : Totals) × (responses_of s room ≡ given totals) × (given (summary_at s number totals) ≡ given x)
    found = after_given (responses_of s room) _ first.1

-- A delay is given for such a chain, at a multiple of the first task's period.
pub delay_found : (s : Sheet) (number at room : ℕ) {ticks : ℕ} → delay_of s number at room ≡ given ticks
    → (lacks s number ≡ fine) × (no_release (tasks_of s) (chain_of s number) at ≡ false) × ((totals : Totals) × (responses_of s room ≡ given totals) × (delay_at (tasks_of s) (chain_of s number) at ≡ ticks))
unfolding delay_of
delay_found s number at room e =
    let first = also_given (named s number) _ e in
    let judged = after_given (sizes_of s) _ first.1 in
    let asked = also_given (when (no_release (tasks_of s) (chain_of s number) at) 12) _ judged.2 in
    let filled = after_given (responses_of s room) _ asked.1 in
    ((also_given (judge_of s) (lacks s number) first.0).1, when_fine _ 12 asked.0, (filled.0, filled.1, cc filled.2))

pub delay_given : (s : Sheet) (number at room : ℕ) {ticks : ℕ} → delay_of s number at room ≡ given ticks
    → TakenChain (tasks_of s) (chain_of s number) × (delay_at (tasks_of s) (chain_of s number) at ≡ ticks)
delay_given s number at room e = let f = delay_found s number at room e in (filled_chain s number room f.0 f.2.1, f.2.2)

pub delay_release : (s : Sheet) (number at room : ℕ) {ticks : ℕ} → delay_of s number at room ≡ given ticks → at % period (tasks_of s) (first_of (chain_of s number)) ≤ 0
delay_release s number at room e = go (leb (hyperperiod (tasks_of s)) at) (delay_found s number at room e).1
  where
    T : ℕ
    T = period (tasks_of s) (first_of (chain_of s number))

    go : (b : Bool) → cond b true (ltb 0 (at % T)) ≡ false → at % T ≤ 0
    go true q = absurd (false≢true (sym q))
    go false q = ltb-false 0 (at % T) q

pub margin_given : (s : Sheet) (number limit room : ℕ) {z : ℤ} → margin_of s number limit room ≡ given z
    → (x : Summary) × (figures_of s number room ≡ given x) × (less limit x.worst ≡ z)
unfolding margin_of
margin_given s number limit room e =
    let judged = after_given (sizes_of s) _ (also_given (named s number) _ e).1 in
    let asked = also_given (when (ltb most_limit limit) 13) _ judged.2 in
    let g = after_given (figures_of s number room) _ asked.1 in
    (g.0, g.1, cc g.2)
