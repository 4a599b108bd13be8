-- The answer case by case: tests over ranges, whether a sheet is accepted, and what each test says of the sheets.
use Rattle.std.specs.Prelude.{◌≡◌, refl, Bool, true, false, not, cond, List, [], ◌∷◌, ℕ, zero, suc, ◌≤◌, ◌<◌, ◌↔◌, ltb, eqb, length, get_or, All, Option, Some, None, is_some, Err}
use Rattle.std.proofs.Common.{sym, ◌∙◌, le_refl, arith, lt-ltb, le-ltb, ltb-true, eq-eqb, eqb-true}
use Rattle.std.proofs.Math.Path.{ap, ap₂}
use Rattle.std.proofs.lemmas.Bool.{false≢true}
use Rattle.std.specs.Bool.{Decides}
use Rattle.std.proofs.lemmas.Bool.Decides.{Decides-eqb}
use Rattle.std.proofs.lemmas.Slice.Eq.{slice_eq-Decides}
use lib.Pointwise.{pointwise}
use Rattle.std.proofs.lemmas.List.Elements.{All-from_get_or}
use Rattle.std.proofs.Math.Decide.{dec_lt}
use Rattle.arith.specs.Ranges.{least}
use Rattle.arith.specs.RangeLaws.{below_suc, least_within, least_passes, least_first}
use Rattle.theory.specs.Model.Schedule.{none, period, budget, rank, Slot, idle, busy}
use Rattle.theory.specs.Model.Responses.{hyperperiod, all_jobs, idle_ticks}
use Rattle.answers.specs.declared.Refusal.{Refusal}
use Rattle.answers.specs.Answers.{Answer, given, refused, fine, after, also, refusal}
use Rattle.answers.specs.AnswerLaws.{after_given}
use Rattle.sheet.specs.declared.Sheet.{Sheet}
use Rattle.sheet.specs.Sound.{Sound}
use Rattle.sheet.specs.SoundLaws.{judged_sound}
use Rattle.sheet.specs.Tasks.{tasks_of, lacks, chain_at, chain_of, rest_of}
use Rattle.sheet.specs.Lateness.{lateness}
use Rattle.sheet.specs.TaskLaws.{tasks_length, period_at, budget_at, rank_at_lem, chain_count_lem, number_known, chain_place, chain_length, entry_listed}
use Rattle.schedule.specs.declared.answer.Size.{Size}
use Rattle.schedule.specs.Calls.{most_jobs, sizes_of, responses_of}
use Rattle.schedule.specs.CallLaws.{sizes_given}
use Rattle.schedule.specs.Results.{responses_given, given_responses}
use Rattle.recurrence.specs.declared.answer.QuickBound.{QuickBound}
use Rattle.recurrence.specs.Calls.{passing_greatest, quick_of, quick_bound_of}
use Rattle.recurrence.specs.CallLaws.{quick_fits, quick_passing_task, given_bound, bound_refused as quick_refused}
use Rattle.recurrence.specs.Results.{given_accepted}
use Rattle.chain.specs.QuickResults.{quick_late_table}
use Rattle.lower.specs.declared.answer.Difference.{Difference}
use Rattle.lower.specs.declared.answer.Difference.TheVariants.{OldOnly, NewOnly, Period, Budget, Rank}
use Rattle.lower.specs.declared.answer.Which.TheVariants.{Old, New}
use Rattle.lower.specs.declared.answer.Obstacle.TheVariants.{Refused}
use Rattle.lower.specs.Below.{BelowChain, HoldsSame}
use Rattle.lower.specs.Calls.{acceptance, every, same_entries, below, counts, difference_at, way_at, beside, chains_compared, compare_of, told_comparison}

-- ---- tests over ranges

pub every_each : (n : ℕ) (test : ℕ → Bool) → every n test ≡ true → (j : ℕ) → j < n → test j ≡ true
unfolding every
every_each zero test e = λ j l. absurd (omega arith)
every_each (suc n) test e = go (every n test) (every_each n test) e
  where
    go : (b : Bool) → (b ≡ true → (j : ℕ) → j < n → test j ≡ true) → cond b (test n) false ≡ true → (j : ℕ) → j < suc n → test j ≡ true
    go true before h = below_suc (λ j. test j ≡ true) (before refl) h
    go false before h = absurd (false≢true h)

pub each_every : (n : ℕ) (test : ℕ → Bool) → ((j : ℕ) → j < n → test j ≡ true) → every n test ≡ true
unfolding every
each_every zero test h = refl
each_every (suc n) test h = rw (each_every n test (λ j l. h j (omega arith))) (h n (omega arith))

pub every_fails : (n : ℕ) (test : ℕ → Bool) (j : ℕ) → j < n → test j ≡ false → every n test ≡ false
every_fails n test j l e = go (every n test) refl
  where
    go : (b : Bool) → every n test ≡ b → every n test ≡ false
    go true q = absurd (false≢true (sym e ∙ every_each n test q j l))
    go false q = q

-- The least number that passes is the one before which none does.
pub least_is : (n : ℕ) (test : ℕ → Bool) (i : ℕ) → i < n → test i ≡ true → ((j : ℕ) → j < i → test j ≡ false) → least n test ≡ i
least_is n test i l e none = go (dec_lt (least n test) i)
  where
    go : Dec (least n test < i) → least n test ≡ i
    go (yes h) = absurd (false≢true (sym (none (least n test) h) ∙ least_passes n test (omega arith)))
    go (no h) = omega (arith, least_first n test i e)

pub least_none : (n : ℕ) (test : ℕ → Bool) → ((j : ℕ) → j < n → test j ≡ false) → least n test ≡ n
least_none n test none = go (dec_lt (least n test) n)
  where
    go : Dec (least n test < n) → least n test ≡ n
    go (yes h) = absurd (false≢true (sym (none (least n test) h) ∙ least_passes n test h))
    go (no h) = omega (arith, least_within n test)

pub none_least : (n : ℕ) (test : ℕ → Bool) → n ≤ least n test → (j : ℕ) → j < n → test j ≡ false
none_least n test l j h = go (test j) refl
  where
    go : (b : Bool) → test j ≡ b → test j ≡ false
    go true q = absurd (omega (arith, least_first n test j q))
    go false q = q

-- ---- a sheet that is accepted

-- A sheet whose fields are fine has a chain one, whose entries are tasks.
pub one_known : (s : Sheet) → Sound s → lacks s 1 ≡ fine
one_known s sound = number_known s 1 (le_refl _) (omega (arith, chain_count_lem _ sound, sound.chains_least))

-- They stand in sixteen places, of which it takes at least one.
pub one_some : (s : Sheet) → Sound s → length (chain_at s 1).entries ≡ 16 → 0 < length (chain_of s 1)
one_some s sound whole =
    omega (arith, chain_length _ sound 1 (one_known _ sound) whole, sound.length_least 0 (chain_place _ sound 1 (one_known _ sound)))

module _ (s : Sheet) where
  -- H and J are judged first,
  pub accept_sizes : (r : Refusal) → sizes_of s ≡ refusal r → acceptance s ≡ refusal r
  unfolding responses_of
  accept_sizes r e = rw e

  -- and then the late task, the same with and without a table.
  pub accept_late : {size : Size} → sizes_of s ≡ given size → acceptance s ≡ after (quick_of s 1) (λ bounds. fine)
  accept_late {size} sized = go (passing_greatest (tasks_of s) (length (tasks_of s))) refl
    where
      has : lacks s 1 ≡ fine
      has = one_known _ (judged_sound s (sizes_given s sized).judged_fine)

      go : (x : Slot) → passing_greatest (tasks_of s) (length (tasks_of s)) ≡ x → acceptance s ≡ after (quick_of s 1) (λ bounds. fine)
      go idle q =
          let z = sizes_given s sized in
          let e = quick_fits s 1 z.judged_fine has (ap lateness q) in
          ap (λ a. after a (λ totals. fine)) (given_responses s most_jobs {totals = record {
            hyperperiod = hyperperiod (tasks_of s);
            jobs = all_jobs (tasks_of s);
            idle = idle_ticks (tasks_of s);
          }} (record {
            judged_fine = z.judged_fine;
            accepted = given_accepted s 1 e;
            hyperperiod_is = refl;
            hyperperiod_most = z.hyperperiod_most;
            jobs_are = refl;
            jobs_most = z.jobs_most;
            jobs_fit = z.jobs_most;
            idle_is = refl;
          }))
          ∙ sym (ap (λ a. after a (λ bounds. fine)) e)
      go (busy i) q =
          let z = sizes_given s sized in
          let e = quick_passing_task s 1 z.judged_fine has q in
          ap (λ a. after a (λ totals. fine)) (quick_late_table s 1 most_jobs sized (omega (arith, z.jobs_are, z.jobs_most)) e)
          ∙ sym (ap (λ a. after a (λ bounds. fine)) e)

  -- So it is accepted where both calls answer,
  pub accept_fine : {size : Size} (q : QuickBound) → given size ≡ sizes_of s → given q ≡ quick_bound_of s 1 → acceptance s ≡ fine
  accept_fine q sized e = accept_late (sym sized) ∙ ap (λ a. after a (λ bounds. fine)) (given_bound s 1 q e).0

  -- and is refused as the first that does not.
  pub sizes_refused : (r : Refusal) → refusal r ≡ sizes_of s → refusal r ≡ also (acceptance s) (given s)
  sizes_refused r e = sym (ap (λ j. also j (given s)) (accept_sizes r (sym e)))

  pub bound_refused : {size : Size} (r : Refusal) → given size ≡ sizes_of s → refusal r ≡ quick_bound_of s 1 → refusal r ≡ also (acceptance s) (given s)
  bound_refused r sized e = sym (ap (λ j. also j (given s)) (accept_late (sym sized) ∙ ap (λ a. after a (λ bounds. fine)) (quick_refused s 1 r e)))

pub accepted_sound : (s : Sheet) → acceptance s ≡ fine → Sound s
accepted_sound s e = judged_sound s (responses_given s most_jobs (after_given (responses_of s most_jobs) _ e).1).judged_fine

-- ---- the judgements in their order

module _ (old new : Sheet) where
  pub compare_old : (r : Refusal) → acceptance old ≡ refusal r → compare_of old new ≡ told_comparison (Err (Refused Old r))
  unfolding compare_of
  compare_old r e = ap (λ j. beside Old j (beside New (acceptance new) (chains_compared old new))) e

  pub compare_new : (r : Refusal) → acceptance old ≡ fine → acceptance new ≡ refusal r → compare_of old new ≡ told_comparison (Err (Refused New r))
  unfolding compare_of
  compare_new r e q = ap₂ (λ j k. beside Old j (beside New k (chains_compared old new))) e q

  pub compare_both : acceptance old ≡ fine → acceptance new ≡ fine → compare_of old new ≡ chains_compared old new
  unfolding compare_of
  compare_both e q = ap₂ (λ j k. beside Old j (beside New k (chains_compared old new))) e q

-- ---- the chain

-- A chain is its first task and those that follow.
pub chain_places : (chain : List ℕ) → 0 < length chain → suc (length (rest_of chain)) ≡ length chain
chain_places [] some = absurd (omega arith)
chain_places (p ∷ rest) some = refl

entries_equal : (xs ys : List ℕ) → length xs ≡ length ys → ((e : ℕ) → e < length xs → get_or xs e 0 ≡ get_or ys e 0) → xs ≡ ys
entries_equal [] [] l h = refl
entries_equal [] (y ∷ ys) l h = absurd (omega arith)
entries_equal (x ∷ xs) [] l h = absurd (omega arith)
entries_equal (x ∷ xs) (y ∷ ys) l h = ap₂ ◌∷◌ (h 0 (omega arith)) (entries_equal xs ys (omega arith) (λ e m. h (suc e) (omega arith)))

pub same_entries_equal : (xs ys : List ℕ) → same_entries xs ys ≡ true → xs ≡ ys
same_entries_equal xs ys e = go (eqb (length xs) (length ys)) refl e
  where
    go : (b : Bool) → eqb (length xs) (length ys) ≡ b → cond b (every (length xs) (λ place. eqb (get_or xs place 0) (get_or ys place 0))) false ≡ true → xs ≡ ys
    go true q h = entries_equal xs ys (eqb-true _ _ q) (λ e l. eqb-true _ _ (every_each (length xs) _ h e l))
    go false q h = absurd (false≢true h)

pub equal_same_entries : (xs ys : List ℕ) → xs ≡ ys → same_entries xs ys ≡ true
equal_same_entries xs ys e =
    rw (eq-eqb (length xs) (length ys) (ap length e)) (each_every (length xs) _ (λ k l. eq-eqb (get_or xs k 0) (get_or ys k 0) (ap (λ zs. get_or zs k 0) e)))

-- as the library's test of two slices says it
pub same_is : (xs ys : List ℕ) (r : Bool) → r ≡ pointwise eqb xs ys → r ≡ same_entries xs ys
same_is xs ys r e = go r (slice_eq-Decides Decides-eqb xs ys r e) (same_entries xs ys) refl
  where
    go : (r : Bool) → Decides r (xs ≡ ys) → (b : Bool) → same_entries xs ys ≡ b → r ≡ same_entries xs ys
    go true d b q = sym (equal_same_entries xs ys (d.0 refl))
    go false d true q = absurd (false≢true (d.1 (same_entries_equal xs ys q)))
    go false d false q = sym q

-- ---- an index that counts

-- Each task of chain one outranks task i, by the ranks that stand in the places.
module _ (s : Sheet) (ok : Sound s) (whole : length (chain_at s 1).entries ≡ 16) (i : ℕ) (l : i < s.count) where
  outranks_at : (place : ℕ) → place < length (chain_of s 1)
      → ltb (rank (tasks_of s) i) (rank (tasks_of s) (get_or (chain_of s 1) place 0)) ≡ ltb (rank s.tasks i) (rank s.tasks (get_or (chain_of s 1) place 0))
  outranks_at place m =
      ap₂ ltb (rank_at_lem s ok i l) (rank_at_lem s ok (get_or (chain_of s 1) place 0) (omega (arith, entry_listed _ ok 1 (one_known _ ok) place m, tasks_length _ ok)))

  places : suc (length (rest_of (chain_of s 1))) ≡ length (chain_of s 1)
  places = chain_places (chain_of s 1) (one_some s ok whole)

  pub below_is : (b : Bool) → (b ≡ true) ↔ All (λ entry. rank s.tasks i < rank s.tasks entry) (chain_of s 1) → b ≡ below (tasks_of s) (chain_of s 1) i
  below_is true says =
      sym (each_every (suc (length (rest_of (chain_of s 1)))) _ (λ place m.
      let known : place < length (chain_of s 1) = omega (arith, places) in
      outranks_at place known ∙ lt-ltb _ _ (says.0 refl place 0 known)))
  below_is false says = go (below (tasks_of s) (chain_of s 1) i) refl
    where
      go : (b : Bool) → below (tasks_of s) (chain_of s 1) i ≡ b → false ≡ b
      go true q = says.1 (All-from_get_or (λ entry. rank s.tasks i < rank s.tasks entry) (chain_of s 1) 0 (λ place m.
          ltb-true _ _ (sym (outranks_at place m) ∙ every_each (suc (length (rest_of (chain_of s 1)))) _ q place (omega (arith, places)))))
      go false q = refl

module _ (s : Sheet) (i : ℕ) where
  -- It counts if it is not below.
  pub counts_is : i < s.count → {b : Bool} → b ≡ below (tasks_of s) (chain_of s 1) i → not b ≡ counts s i
  counts_is l e = rw (lt-ltb i s.count l) (ap not e)

  below_chain : below (tasks_of s) (chain_of s 1) i ≡ true → BelowChain s i
  below_chain q e l = ltb-true _ _ (every_each (suc (length (rest_of (chain_of s 1)))) _ q e (omega arith))

  chain_below : BelowChain s i → below (tasks_of s) (chain_of s 1) i ≡ true
  chain_below h = each_every (suc (length (rest_of (chain_of s 1)))) _ (λ e l. lt-ltb _ _ (h e (omega arith)))

  pub counts_not_below : counts s i ≡ true → (i < s.count) × ¬ (BelowChain s i)
  counts_not_below e = go (ltb i s.count) refl e
    where
      go : (b : Bool) → ltb i s.count ≡ b → cond b (not (below (tasks_of s) (chain_of s 1) i)) false ≡ true → (i < s.count) × ¬ (BelowChain s i)
      go true q h = (ltb-true _ _ q, λ under. false≢true (sym (ap not (chain_below under)) ∙ h))
      go false q h = absurd (false≢true h)

  pub not_below_counts : i < s.count → ¬ (BelowChain s i) → counts s i ≡ true
  not_below_counts l out = rw (lt-ltb i s.count l) (go (below (tasks_of s) (chain_of s 1) i) refl)
    where
      go : (b : Bool) → below (tasks_of s) (chain_of s 1) i ≡ b → not b ≡ true
      go true q = absurd (out (below_chain q))
      go false q = refl

  pub past_counts : s.count ≤ i → counts s i ≡ false
  past_counts l = rw (le-ltb i s.count l)

-- ---- what differs there

-- Of an index that both sheets have it is told by the fields of the task in that place.
pub difference_fields : (old new : Sheet) → Sound old → Sound new → (i : ℕ) → i < old.count → i < new.count → {b c d : Bool}
    → eqb (get_or old.tasks i none).period (get_or new.tasks i none).period ≡ b
    → eqb (get_or old.tasks i none).budget (get_or new.tasks i none).budget ≡ c
    → eqb (get_or old.tasks i none).rank (get_or new.tasks i none).rank ≡ d
    → difference_at old new i ≡ cond b (cond c (cond d None (Some Rank)) (Some Budget)) (Some Period)
difference_fields old new ok ok' i l m p q r = rw (
  lt-ltb i old.count l,
  lt-ltb i new.count m,
  period_at _ ok i l,
  period_at _ ok' i m,
  budget_at _ ok i l,
  budget_at _ ok' i m,
  rank_at_lem _ ok i l,
  rank_at_lem _ ok' i m,
  p,
  q,
  r,
)

clear_next : (b : Bool) (w : Option Difference) (d : Difference) → cond b w (Some d) ≡ None → (b ≡ true) × (w ≡ None)
clear_next true w d e = (refl, e)
clear_next false w d e = absurd (false≢true (sym (ap is_some e)))

module _ (old new : Sheet) (i : ℕ) where
  pub clear_holds : difference_at old new i ≡ None → HoldsSame old new i
  clear_holds e =
      let on_old = clear_next (ltb i old.count) _ NewOnly e in
      let on_new = clear_next (ltb i new.count) _ OldOnly on_old.1 in
      let periods = clear_next (eqb (period (tasks_of old) i) (period (tasks_of new) i)) _ Period on_new.1 in
      let budgets = clear_next (eqb (budget (tasks_of old) i) (budget (tasks_of new) i)) _ Budget periods.1 in
      let ranks = clear_next (eqb (rank (tasks_of old) i) (rank (tasks_of new) i)) _ Rank budgets.1 in
      record {
        on_old = ltb-true _ _ on_old.0;
        on_new = ltb-true _ _ on_new.0;
        same_period = eqb-true _ _ periods.0;
        same_budget = eqb-true _ _ budgets.0;
        same_rank = eqb-true _ _ ranks.0;
      }

  pub holds_clear : HoldsSame old new i → difference_at old new i ≡ None
  holds_clear h = rw (
    lt-ltb i old.count h.on_old,
    lt-ltb i new.count h.on_new,
    eq-eqb _ _ h.same_period,
    eq-eqb _ _ h.same_budget,
    eq-eqb _ _ h.same_rank,
  )

  -- Nothing stands in the way at an index exactly when it holds the same, if it counts on either sheet.
  pub clear_way : way_at old new i ≡ None → (counts old i ≡ true → HoldsSame old new i) × (counts new i ≡ true → HoldsSame old new i)
  clear_way e = ((λ c. clear_holds (sym (ap (λ b. cond b (difference_at old new i) (cond (counts new i) (difference_at old new i) None)) c) ∙ e)), (λ c. go (counts old i) c e))
    where
      go : (b : Bool) → counts new i ≡ true → cond b (difference_at old new i) (cond (counts new i) (difference_at old new i) None) ≡ None → HoldsSame old new i
      go true c h = clear_holds h
      go false c h = clear_holds (sym (ap (λ b. cond b (difference_at old new i) None) c) ∙ h)

  pub way_clear : (counts old i ≡ true → HoldsSame old new i) → (counts new i ≡ true → HoldsSame old new i) → way_at old new i ≡ None
  way_clear first second = go (counts old i) refl (counts new i) refl
    where
      go : (b : Bool) → counts old i ≡ b → (c : Bool) → counts new i ≡ c → cond b (difference_at old new i) (cond c (difference_at old new i) None) ≡ None
      go true p c q = holds_clear (first p)
      go false p true q = holds_clear (second q)
      go false p false q = refl

pub not_blocked : (w : Option Difference) → is_some w ≡ false → w ≡ None
not_blocked None e = refl
not_blocked (Some d) e = absurd (false≢true (sym e))

-- No sheet has a task past the sixteen places.
pub way_past : (old new : Sheet) → Sound old → Sound new → (i : ℕ) → 16 ≤ i → way_at old new i ≡ None
way_past old new ok ok' i l = rw (past_counts old i (omega (arith, ok.count_most)), past_counts new i (omega (arith, ok'.count_most)))
