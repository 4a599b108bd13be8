-- The bound with no table (`recurrence`) and the answers that come from a table are the same, wherever both are given.
use Rattle.std.specs.Prelude.{◌≡◌, List, [], ◌∷◌, ℕ, ◌≤◌, ◌<◌, length}
use Rattle.std.proofs.Common.{sym, ap, ◌∙◌, arith}
use Rattle.theory.specs.Model.Flag.{from_flag}
use Rattle.theory.specs.declared.Task.{Task}
use Rattle.theory.specs.Model.Schedule.{Proper, rank}
use Rattle.theory.specs.Model.Responses.{task_response}
use Rattle.theory.specs.Model.Recurrence.{quick_response, Passing}
use Rattle.theory.proofs.Analysis.QuickLaws.{quick_response_task, passing_late_task, late_task_passing, accepted_within}
use Rattle.theory.proofs.Results.QuickBound.{quick_bound_same}
use Rattle.answers.specs.Answers.{given, refused, fine}
use Rattle.answers.specs.AnswerLaws.{after_given}
use Rattle.sheet.specs.declared.Sheet.{Sheet}
use Rattle.sheet.specs.PlaceLaws.{places_same}
use Rattle.sheet.specs.SoundLaws.{judged_sound}
use Rattle.sheet.specs.Tasks.{tasks_of, lacks, chain_of, first_of, rest_of}
use Rattle.sheet.specs.TaskLaws.{tasks_length, sound_proper, chain_known}
use Rattle.schedule.specs.declared.answer.Totals.{Totals}
use Rattle.schedule.specs.declared.answer.Size.{Size}
use Rattle.schedule.specs.declared.answer.TaskResponses.{TaskResponses}
use Rattle.schedule.specs.Calls.{sizes_of, responses_of, task_responses_of, greatest_after}
use Rattle.schedule.specs.CallLaws.{sizes_given}
use Rattle.schedule.specs.Lateness.{GreatestLate}
use Rattle.schedule.specs.Results.{responses_given, responses_15, late_responses}
use Rattle.recurrence.specs.declared.answer.Bounds.{Bounds}
use Rattle.recurrence.specs.declared.answer.QuickBound.{QuickBound}
use Rattle.recurrence.specs.CallLaws.{given_bound}
use Rattle.recurrence.specs.Calls.{quick_of, quick_bound_of, responses_in, responses_after}
use Rattle.recurrence.specs.Results.{quick_15, given_quick, late_quick}
use Rattle.chain.specs.declared.answer.Summary.{Summary}
use Rattle.chain.specs.declared.answer.TaskFigures.{TaskFigures}
use Rattle.chain.specs.Calls.{quick_bound, figures_of, task_figures_of}
use Rattle.chain.specs.CallLaws.{figures_given}

module _ (s : Sheet) (number : ℕ) where
  -- A bound of this many ticks, from a release on, and with the flag's wait.
  abbrev pub with_wait : ℕ → Bounds
  with_wait b = record { sampling_bound = b; bound = from_flag (tasks_of s) (first_of (chain_of s number)) b }

  module _ (known : lacks s number ≡ fine) (room : ℕ) where
    -- Where the table is filled the quick bound is document 01's, from the R of each task,
    filled_quick : {totals : Totals} → responses_of s room ≡ given totals → quick_of s number ≡ given (with_wait (quick_bound (tasks_of s) (chain_of s number)))
    filled_quick e =
        let g = responses_given s room e in
        given_quick s number (record {
          judged_fine = g.judged_fine;
          numbered_fine = known;
          none_passing = accepted_within g.accepted;
          bounds_are = ap with_wait (quick_bound_same g.accepted.proper (first_of (chain_of s number)) (rest_of (chain_of s number)) (chain_known _ (judged_sound s g.judged_fine) number known));
        })

    -- and each value is the greatest response in its task's row.
    pub quick_responses_same : {totals : Totals} → responses_of s room ≡ given totals → responses_after (quick_of s number) s ≡ greatest_after (responses_of s room) s
    quick_responses_same e =
        let g = responses_given s room e in
        let sound = judged_sound s g.judged_fine in
        ap (λ a. responses_after a s) (filled_quick e)
        ∙ places_same 16 0 s.count (quick_response (tasks_of s)) (task_response (tasks_of s)) (λ i l m. quick_response_task g.accepted.proper i (omega (arith, tasks_length _ sound)))
        ∙ sym (ap (λ a. greatest_after a s) e)

    -- So the values that `bound` answers are R of each task, as `task_responses` answers it,
    pub bound_responses_same : {q : QuickBound} {x : TaskResponses} → quick_bound_of s number ≡ given q → task_responses_of s room ≡ given x → q.responses ≡ x.greatest
    unfolding task_responses_of
    bound_responses_same {q} e f =
        let b = given_bound s number q (sym e) in
        let g = after_given (responses_of s room) _ f in
        let same : responses_in s ≡ greatest_after (given g.0) s =
        sym (ap (λ a. responses_after a s) b.0) ∙ quick_responses_same g.1 ∙ ap (λ a. greatest_after a s) g.1 in
        b.1 ∙ same ∙ cc g.2

    -- and as `figures` does.
    pub bound_figures_same : {q : QuickBound} {x : TaskFigures} → quick_bound_of s number ≡ given q → task_figures_of s number room ≡ given x → q.responses ≡ x.greatest
    unfolding task_figures_of
    bound_figures_same {q} e f =
        let b = given_bound s number q (sym e) in
        let g = after_given (figures_of s number room) _ f in
        let h = (figures_given s number room g.1).totals_are in
        let same : responses_in s ≡ greatest_after (given g.0) s =
        sym (ap (λ a. responses_after a s) b.0) ∙ quick_responses_same h ∙ ap (λ a. greatest_after a s) h in
        b.1 ∙ same ∙ cc g.2

  -- Where `figures` answers, both bounds are its own.
  pub quick_bound_is_reported : (room : ℕ) {x : Summary} (answer : figures_of s number room ≡ given x)
      → quick_of s number ≡ given (record { sampling_bound = x.sampling_bound; bound = x.bound })
  quick_bound_is_reported room answer =
      let g = figures_given s number room answer in
      rw (g.bound_is, g.quick_is) (filled_quick g.known room g.totals_are)

-- ---- 15

late_greatest_lem : {ts : List Task} → Proper ts → {i : ℕ} → GreatestLate ts i
    → (i < length ts) × Passing ts i × ((j : ℕ) → j < length ts → Passing ts j → rank ts j ≤ rank ts i)
late_greatest_lem good {i} g =
    (g.known, late_task_passing good i g.known g.is_late, λ j l p. g.greatest_rank j l (passing_late_task good j l p))

module _ (s : Sheet) (number room : ℕ) {i : ℕ} where
  -- Where the table's calls name a late task, this one names it too, for each chain that the sheet has,
  pub table_late_quick : lacks s number ≡ fine → responses_of s room ≡ refused 15 (i ∷ []) → quick_of s number ≡ refused 15 (i ∷ [])
  table_late_quick known answer =
      let w = responses_15 s room answer in
      let g = late_greatest_lem (sound_proper _ (judged_sound s w.judged_fine)) w.greatest_late in
      late_quick s number (record { judged_fine = w.judged_fine; numbered_fine = known; known = g.0; passing = g.1; greatest_rank = g.2 })

  -- and the other way round, where they come to judge it.
  pub quick_late_table : {size : Size} (sized : sizes_of s ≡ given size) (enough : size.jobs ≤ room)
      (answer : quick_of s number ≡ refused 15 (i ∷ [])) → responses_of s room ≡ refused 15 (i ∷ [])
  quick_late_table sized enough answer =
      let z = sizes_given s sized in
      let w = quick_15 s number answer in
      let good = sound_proper _ (judged_sound s w.judged_fine) in
      late_responses s room (record {
        judged_fine = z.judged_fine;
        hyperperiod_most = z.hyperperiod_most;
        jobs_most = z.jobs_most;
        jobs_fit = omega (arith, z.jobs_are);
        greatest_late = record {
          known = w.known;
          is_late = passing_late_task good i w.known w.passing;
          greatest_rank = λ j l late. w.greatest_rank j l (late_task_passing good j l late);
        };
      })
