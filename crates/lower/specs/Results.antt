-- What `compare` comes to: it finds nothing in the way exactly when both sheets are accepted, of edition 2, and differ only below chain one;
-- and then what is answered of chain one is the same on both (document 02, P10).
use Rattle.std.specs.Prelude.{◌≡◌, Bool, true, false, cond, ℕ, ◌+◌, ◌-◌, ◌≤◌, ◌<◌, eqb, get_or, Option, Some, None, is_some}
use Rattle.std.proofs.Math.Path.{refl, ap}
use Rattle.std.proofs.Common.{sym, ap₂, ◌∙◌, arith}
use Rattle.std.proofs.Math.Decide.{dec_lt}
use borrow.Author.Tests.{eq-eqb, eqb-true}
use Rattle.arith.specs.RangeLaws.{least_passes}
use Rattle.theory.specs.Model.Responses.{all_jobs, task_response}
use Rattle.theory.specs.Model.Chain.{bound}
use Rattle.theory.specs.Model.Flag.{flag_wait}
use Rattle.theory.specs.Results.LowerRanks.{SameFigures}
use Rattle.theory.proofs.Results.LowerRanks.{apart_response}
use Rattle.theory.proofs.Results.QuickBound.{quick_bound_same}
use Rattle.answers.specs.Answers.{given, refused, Judgement, fine, after}
use Rattle.answers.specs.AnswerLaws.{after_given}
use Rattle.sheet.specs.declared.Sheet.{Sheet}
use Rattle.sheet.specs.Sound.{Sound}
use Rattle.sheet.specs.SoundLaws.{judged_sound}
use Rattle.sheet.specs.Tasks.{tasks_of, chain_of, first_of, rest_of}
use Rattle.sheet.specs.PlaceLaws.{places_taken}
use Rattle.sheet.specs.TaskLaws.{tasks_length, chain_known}
use Rattle.schedule.specs.declared.answer.Totals.{Totals}
use Rattle.schedule.specs.Calls.{most_jobs, responses_of, greatest_after}
use Rattle.schedule.specs.Results.{responses_given, given_responses}
use Rattle.recurrence.specs.declared.answer.Bounds.{Bounds}
use Rattle.recurrence.specs.Calls.{quick_of, bound_by}
use Rattle.recurrence.specs.Results.{GivenWhen, quick_given, given_accepted}
use Rattle.chain.specs.declared.answer.Figure.{Figure}
use Rattle.chain.specs.declared.answer.Summary.{Summary}
use Rattle.chain.specs.Calls.{figure_of, quick_bound, less, report_limit, summary_at}
use Rattle.chain.specs.CallLaws.{FiguresGiven, figures_known, figures_given}
use Rattle.chain.specs.Results.{FiguresAnswers}
use Rattle.lower.specs.declared.answer.Which.{Which}
use Rattle.lower.specs.declared.answer.Which.TheVariants.{Old, New}
use Rattle.lower.specs.declared.answer.Difference.{Difference}
use Rattle.lower.specs.Below.{chain_task, last_place, DifferBelow}
use Rattle.lower.specs.Calls.{acceptance, same_entries, way_at, Finding, nothing, refused_of, edition, chain, task, beside, standing, first_blocked, tasks_compared, compare_of}
use Rattle.lower.specs.CallLaws.{accepted_sound, least_none, none_least, one_known, same_entries_equal, equal_same_entries, counts_not_below, not_below_counts, clear_way, way_clear, not_blocked, way_past}
use Rattle.lower.specs.ApartLaws.{task_same, task_apart, figures_same, first_period_same}

-- ---- exactly when

-- "two accepted edition 2 sheets" that differ only below chain one.
pub record Comparable (old new : Sheet) : Type 0 where
  pub old_accepted : acceptance old ≡ fine
  pub new_accepted : acceptance new ≡ fine
  pub old_edition : old.edition ≡ 2
  pub new_edition : new.edition ≡ 2
  pub differ_below : DifferBelow old new

-- Whether a finding is that nothing stands in the way.
abbrev is_nothing : Finding → Bool
is_nothing nothing = true
is_nothing (refused_of which number values) = false
is_nothing (edition which) = false
is_nothing chain = false
is_nothing (task index difference) = false

module _ {B : Type 0} where
  other : {f : Finding} → is_nothing f ≡ false → f ≡ nothing → B
  other {f} q e = let z : ◌≡◌ {A = Bool} true false = sym (ap is_nothing e) ∙ q in let w : ◌≡◌ {A = ℕ} 0 1 = cc in absurd (omega arith)

beside_nothing : (which : Which) (j : Judgement) (next : Finding) → beside which j next ≡ nothing → (j ≡ fine) × (next ≡ nothing)
beside_nothing which (given u) next e = (refl, e)
beside_nothing which (refused number values) next e = other refl e

cond_nothing : (b : Bool) (f g : Finding) → is_nothing g ≡ false → cond b f g ≡ nothing → (b ≡ true) × (f ≡ nothing)
cond_nothing true f g q e = (refl, e)
cond_nothing false f g q e = other q e

standing_nothing : (i : ℕ) (w : Option Difference) → standing i w ≡ nothing → w ≡ None
standing_nothing i None e = refl
standing_nothing i (Some d) e = other refl e

module _ (old new : Sheet) where
  all_clear : tasks_compared old new ≡ nothing → (i : ℕ) → i < 16 → way_at old new i ≡ None
  all_clear e i l = go (dec_lt (first_blocked old new) 16)
    where
      test : ℕ → Bool
      test j = is_some (way_at old new j)

      go : Dec (first_blocked old new < 16) → way_at old new i ≡ None
      go (yes h) =
          let z : ◌≡◌ {A = Bool} false true = sym (ap is_some (standing_nothing (first_blocked old new) (way_at old new (first_blocked old new)) e)) ∙ least_passes 16 test h in
          let w : ◌≡◌ {A = ℕ} 0 1 = cc in absurd (omega arith)
      go (no h) = not_blocked (way_at old new i) (none_least 16 test (omega arith) i l)

  -- The answer that nothing stands in the way is given exactly when the theorem's condition holds.
  pub applies_comparable : compare_of old new ≡ nothing → Comparable old new
  unfolding compare_of
  applies_comparable e =
      let first = beside_nothing Old (acceptance old) _ e in
      let second = beside_nothing New (acceptance new) _ first.1 in
      let third = cond_nothing (eqb old.edition 2) _ (edition Old) refl second.1 in
      let fourth = cond_nothing (eqb new.edition 2) _ (edition New) refl third.1 in
      let fifth = cond_nothing (same_entries (chain_of old 1) (chain_of new 1)) _ chain refl fourth.1 in
      record {
        old_accepted = first.0;
        new_accepted = second.0;
        old_edition = eqb-true _ _ third.0;
        new_edition = eqb-true _ _ fourth.0;
        differ_below = record {
          same_chain = same_entries_equal (chain_of old 1) (chain_of new 1) fifth.0;
          old_tasks = λ i l out.
              (clear_way old new i (all_clear fifth.1 i (omega (arith, (accepted_sound old first.0).count_most)))).0 (not_below_counts old i l out);
          new_tasks = λ i l out.
              (clear_way old new i (all_clear fifth.1 i (omega (arith, (accepted_sound new second.0).count_most)))).1 (not_below_counts new i l out);
        };
      }

  pub comparable_applies : Comparable old new → compare_of old new ≡ nothing
  unfolding compare_of
  comparable_applies c = rw (
    c.old_accepted,
    c.new_accepted,
    eq-eqb old.edition 2 c.old_edition,
    eq-eqb new.edition 2 c.new_edition,
    equal_same_entries (chain_of old 1) (chain_of new 1) c.differ_below.same_chain,
  ) (ap (λ i. standing i (way_at old new i)) none_blocked ∙ ap (standing 16) (way_past old new (accepted_sound old c.old_accepted) (accepted_sound new c.new_accepted) 16 (omega arith)))
    where
      clear : (i : ℕ) → way_at old new i ≡ None
      clear i = way_clear old new i
          (λ q. let x = counts_not_below old i q in c.differ_below.old_tasks i x.0 x.1)
          (λ q. let x = counts_not_below new i q in c.differ_below.new_tasks i x.0 x.1)

      none_blocked : first_blocked old new ≡ 16
      none_blocked = least_none 16 (λ i. is_some (way_at old new i)) (λ i l. ap is_some (clear i))

-- ---- the theorem

-- What `figures` answers of chain one is the same.
pub record SameChainOne (x y : Summary) : Type 0 where
  pub same_sampling : x.sampling.ticks ≡ y.sampling.ticks
  pub same_release : x.sampling.release ≡ y.sampling.release
  pub same_sampling_bound : x.sampling_bound ≡ y.sampling_bound
  pub same_worst : x.worst ≡ y.worst
  pub same_bound : x.bound ≡ y.bound

module _ {old new : Sheet} (below : DifferBelow old new) where
  -- "For chain one the sampling figure, the smallest release that gives it, the bound .. are the same": if `figures` answers x of the one sheet and
  -- y of the other. So are worst and bound, which count from a flag.
  pub lower_ranks_apart : (room room' : ℕ) (x y : Summary) (answer : FiguresAnswers old 1 room x) (answer' : FiguresAnswers new 1 room' y) → SameChainOne x y
  lower_ranks_apart room room' x y answer answer' =
      record {
        same_sampling = ticks;
        same_release = ap (λ (f : Figure). f.release) g.sampling_is ∙ same.same_release ∙ sym (ap (λ (f : Figure). f.release) there);
        same_sampling_bound = bounds;
        same_worst = g.worst_is ∙ ap₂ ◌+◌ ticks wait ∙ sym h.worst_is;
        same_bound = g.bound_is ∙ ap₂ ◌+◌ bounds wait ∙ sym h.bound_is;
      }
    where
      g : FiguresGiven old 1 room x
      g = figures_given old 1 room answer

      h : FiguresGiven new 1 room' y
      h = figures_given new 1 room' answer'

      ok : Sound old
      ok = judged_sound old (responses_given old room g.totals_are).judged_fine

      ok' : Sound new
      ok' = judged_sound new (responses_given new room' h.totals_are).judged_fine

      same : SameFigures (tasks_of old) (tasks_of new) (first_of (chain_of old 1)) (rest_of (chain_of old 1))
      same = figures_same below ok ok' g.taken.tasks.accepted h.taken.tasks.accepted

      there : y.sampling ≡ figure_of (tasks_of new) (chain_of old 1)
      there = h.sampling_is ∙ ap (figure_of (tasks_of new)) (sym below.same_chain)

      ticks : x.sampling.ticks ≡ y.sampling.ticks
      ticks = ap (λ (f : Figure). f.ticks) g.sampling_is ∙ same.same_sampling ∙ sym (ap (λ (f : Figure). f.ticks) there)

      bounds : x.sampling_bound ≡ y.sampling_bound
      bounds = g.quick_is ∙ same.same_bound ∙ sym (h.quick_is ∙ ap (quick_bound (tasks_of new)) (sym below.same_chain))

      wait : flag_wait (tasks_of old) (first_of (chain_of old 1)) ≡ flag_wait (tasks_of new) (first_of (chain_of new 1))
      wait = ap (λ T. T - 1) (first_period_same below ok ok') ∙ ap (λ c. flag_wait (tasks_of new) (first_of c)) below.same_chain

  -- Under the same limit the margins are the same too, so the report's lines of chain one are.
  pub same_margin : (room room' : ℕ) (x y : Summary) (answer : FiguresAnswers old 1 room x) (answer' : FiguresAnswers new 1 room' y)
      (limits : report_limit old 1 ≡ report_limit new 1) → x.margin ≡ y.margin
  same_margin room room' x y answer answer' limits =
      (figures_given old 1 room answer).margin_is
      ∙ ap₂ less limits (lower_ranks_apart room room' x y answer answer').same_worst
      ∙ sym (figures_given new 1 room' answer').margin_is

  -- "and every chain task's response": what `responses`, and so every call that fills a table, gives for it.
  pub same_responses : (room room' : ℕ) {t u : Totals} (answer : responses_of old room ≡ given t) (answer' : responses_of new room' ≡ given u)
      (place : ℕ) (on : place ≤ last_place old)
      → get_or (greatest_after (responses_of old room) old) (chain_task old place) 0 ≡ get_or (greatest_after (responses_of new room') new) (chain_task old place) 0
  same_responses room room' answer answer' place on =
      let g = responses_given old room answer in
      let h = responses_given new room' answer' in
      let ok = judged_sound old g.judged_fine in
      let ok' = judged_sound new h.judged_fine in
      let apart = task_apart below ok ok' place on in
      let i = chain_task old place in
      response_in old ok room answer i (omega (arith, apart.known, tasks_length _ ok))
      ∙ apart_response g.accepted h.accepted i apart
      ∙ sym (response_in new ok' room' answer' i (task_same below ok ok' place on).on_new)
    where
      response_in : (s : Sheet) → Sound s → (room : ℕ) {t : Totals} → responses_of s room ≡ given t → (i : ℕ) → i < s.count
          → get_or (greatest_after (responses_of s room) s) i 0 ≡ task_response (tasks_of s) i
      response_in s ok room e i l =
          ap (λ a. get_or (greatest_after a s) i 0) e ∙ places_taken 16 0 (task_response (tasks_of s)) s.count 0 i l (omega (arith, ok.count_most))

  -- The bounds of the call without a table are the same as well, whatever the hyperperiods.
  pub same_quick_bounds : (b c : Bounds) (answer : quick_of old 1 ≡ given b) (answer' : quick_of new 1 ≡ given c) → b ≡ c
  same_quick_bounds b c answer answer' =
      sym g.bounds_are ∙ ap₂ (λ x w. record { sampling_bound = x; bound = x + w }) bounds wait ∙ h.bounds_are
    where
      g : GivenWhen old 1 b
      g = quick_given old 1 answer

      h : GivenWhen new 1 c
      h = quick_given new 1 answer'

      ok : Sound old
      ok = judged_sound old g.judged_fine

      ok' : Sound new
      ok' = judged_sound new h.judged_fine

      bounds : bound_by (tasks_of old) (chain_of old 1) ≡ bound_by (tasks_of new) (chain_of new 1)
      bounds =
          quick_bound_same (given_accepted old 1 answer).proper (first_of (chain_of old 1)) (rest_of (chain_of old 1)) (chain_known _ ok 1 (one_known _ ok))
          ∙ (figures_same below ok ok' (given_accepted old 1 answer) (given_accepted new 1 answer')).same_bound
          ∙ ap (λ c. bound (tasks_of new) (task_response (tasks_of new)) (first_of c) (rest_of c)) below.same_chain
          ∙ sym (quick_bound_same (given_accepted new 1 answer').proper (first_of (chain_of new 1)) (rest_of (chain_of new 1)) (chain_known _ ok' 1 (one_known _ ok')))

      wait : flag_wait (tasks_of old) (first_of (chain_of old 1)) ≡ flag_wait (tasks_of new) (first_of (chain_of new 1))
      wait = ap (λ T. T - 1) (first_period_same below ok ok') ∙ ap (λ c. flag_wait (tasks_of new) (first_of c)) below.same_chain

-- ---- what the answer is worth

accepted_figures : (s : Sheet) → acceptance s ≡ fine → (room : ℕ) → all_jobs (tasks_of s) ≤ room → (x : Summary) × FiguresAnswers s 1 room x
accepted_figures s e room l =
    let f = after_given (responses_of s most_jobs) _ e in
    let g = responses_given s most_jobs f.1 in (
      summary_at s 1 f.0,
      figures_known s 1 (one_known _ (judged_sound s g.judged_fine)) room ∙ ap (λ a. after a (λ totals. given (summary_at s 1 totals))) (given_responses s room (record {
        judged_fine = g.judged_fine;
        accepted = g.accepted;
        hyperperiod_is = g.hyperperiod_is;
        hyperperiod_most = g.hyperperiod_most;
        jobs_are = g.jobs_are;
        jobs_most = g.jobs_most;
        jobs_fit = l;
        idle_is = g.idle_is;
      })),
    )

-- Where `compare` finds nothing in the way, `figures` answers of chain one on both sheets, for tables that hold their jobs, and says the same.
pub applies_figures : (old new : Sheet) (applies : compare_of old new ≡ nothing)
    (room room' : ℕ) (enough : all_jobs (tasks_of old) ≤ room) (enough' : all_jobs (tasks_of new) ≤ room')
    → (x y : Summary) × FiguresAnswers old 1 room x × FiguresAnswers new 1 room' y × SameChainOne x y
applies_figures old new applies room room' enough enough' =
    let c = applies_comparable old new applies in
    let f = accepted_figures old c.old_accepted room enough in
    let g = accepted_figures new c.new_accepted room' enough' in
    (f.0, g.0, f.1, g.1, lower_ranks_apart c.differ_below room room' f.0 g.0 f.1 g.1)
