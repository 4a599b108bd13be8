-- The answer case by case, and the task that 15 names.
use Rattle.std.specs.Prelude.{◌≡◌, List, [], ◌∷◌, Bool, true, false, ℕ, ◌+◌, ◌≤◌, ◌<◌, ltb, length, get_or, Option, Some, None}
use Rattle.std.proofs.Math.Path.{refl, ap, ap₂}
use Rattle.std.proofs.Common.{sym, ◌∙◌, subst, add-one, arith, lt-ltb, le-ltb, ltb-false}
use Rattle.std.proofs.Math.Bool.{cond}
use Rattle.theory.specs.declared.Task.{Task}
use Rattle.theory.specs.Model.Schedule.{none, period, rank, Slot, idle, busy}
use Rattle.theory.specs.Model.Greatest.{outranking, greatest}
use Rattle.theory.specs.Model.Recurrence.{quick_response}
use Rattle.theory.specs.Analysis.GreatestLaws.{IsGreatest}
use Rattle.theory.proofs.Analysis.GreatestLaws.{greatest_is}
use Rattle.answers.specs.declared.Refusal.{Refusal}
use Rattle.answers.specs.Answers.{Answer, given, refused, Judgement, fine, after, also, refusal}
use Rattle.answers.specs.AnswerLaws.{after_given, after_refused, also_given}
use Rattle.sheet.specs.declared.Sheet.{Sheet}
use Rattle.sheet.specs.declared.sound.Judged.{Judged}
use Rattle.sheet.specs.Calls.{judge_of}
use Rattle.sheet.specs.PlaceLaws.{places_taken}
use Rattle.sheet.specs.Sound.{Sound}
use Rattle.sheet.specs.Tasks.{tasks_of, chain_count, lacks, chain_of}
use Rattle.sheet.specs.Lateness.{lateness}
use Rattle.sheet.specs.TaskLaws.{tasks_length, rank_at_lem, period_at}
use Rattle.recurrence.specs.declared.answer.Bounds.{Bounds}
use Rattle.recurrence.specs.declared.answer.QuickBound.{QuickBound}
use Rattle.recurrence.specs.declared.answer.QuickSuite.{QuickSuite}
use Rattle.recurrence.specs.Calls.{passes, passing_greatest, bounds_of, quick_of, quick_bound_of, suite_of, quick_suite_of, responses_in, no_responses, responses_after, bounds_to}
use Rattle.recurrence.specs.Conditions.{Responding}

-- ---- what a call before it answered

-- What is given after a judgement was judged fine,
pub judged_fine : {A : Type 0} (j : Judgement) {a b : A} → given b ≡ also j (given a) → (j ≡ fine) × (b ≡ a)
judged_fine j {a} {b} e = let x = also_given j (given a) (sym e) in (x.0, same (x.1))
  where
    same : given a ≡ given b → b ≡ a
    same e = cc

-- and what is refused was refused by it.
pub judged_refused : {A : Type 0} (j : Judgement) (a : A) (r : Refusal) → ◌≡◌ {A = Answer A} (refusal r) (also j (given a)) → j ≡ refusal r
judged_refused j a r e = after_refused j (λ u. a) r (sym e)

-- A sheet that was judged is fine.
pub sheet_judged : (s : Sheet) (x : Judged) → given x.sheet ≡ also (judge_of s) (given s) → (judge_of x.sheet ≡ fine) × (x.sheet ≡ s)
sheet_judged s x e = let j = judged_fine (judge_of s) e in (ap judge_of j.1 ∙ j.0, j.1)

-- ---- the answer

module _ (s : Sheet) (number : ℕ) where
  abbrev passing : Judgement
  passing = lateness (passing_greatest (tasks_of s) (length (tasks_of s)))

  -- The judgements in their order.
  quick_by : {j k l : Judgement} → judge_of s ≡ j → lacks s number ≡ k → passing ≡ l
      → quick_of s number ≡ also j (also k (also l (given (bounds_of (tasks_of s) (chain_of s number)))))
  unfolding quick_of
  quick_by {j} {k} e n q =
      ap₂ (λ j k. also j (also k (also passing (given (bounds_of (tasks_of s) (chain_of s number)))))) e n
      ∙ ap (λ l. also j (also k (also l (given (bounds_of (tasks_of s) (chain_of s number)))))) q

  pub quick_refused : (r : Refusal) → judge_of s ≡ refusal r → quick_of s number ≡ refusal r
  quick_refused r e = quick_by e refl refl

  pub quick_lacking : (r : Refusal) → judge_of s ≡ fine → lacks s number ≡ refusal r → quick_of s number ≡ refusal r
  quick_lacking r e n = quick_by e n refl

  pub quick_passing : (r : Refusal) → judge_of s ≡ fine → lacks s number ≡ fine → passing ≡ refusal r → quick_of s number ≡ refusal r
  quick_passing r e n q = quick_by e n q

  pub quick_passing_task : {i : ℕ} → judge_of s ≡ fine → lacks s number ≡ fine → passing_greatest (tasks_of s) (length (tasks_of s)) ≡ busy i
      → quick_of s number ≡ refused 15 (i ∷ [])
  quick_passing_task e n q = quick_by e n (ap lateness q)

  pub quick_fits : judge_of s ≡ fine → lacks s number ≡ fine → passing ≡ fine → quick_of s number ≡ given (bounds_of (tasks_of s) (chain_of s number))
  quick_fits e n q = quick_by e n q

  -- A refusal stands alone,
  pub refused_alone : (r : Refusal) → quick_of s number ≡ refusal r → refusal r ≡ quick_bound_of s number
  refused_alone r e = sym (ap (λ a. after a (λ b. given (record { bounds = b; responses = responses_in s }))) e)

  -- for which there are no responses,
  pub responses_none : (r : Refusal) → quick_of s number ≡ refusal r → no_responses ≡ responses_after (quick_of s number) s
  responses_none r e = ap (λ a. responses_after a s) (sym e)

-- and the bounds come with the responses.
pub bound_given : (s : Sheet) (number : ℕ) {b : Bounds} {xs : List ℕ} → quick_of s number ≡ given b → xs ≡ responses_in s
    → given (record { bounds = b; responses = xs }) ≡ quick_bound_of s number
bound_given s number {b} e is =
    ap (λ xs. given (record { bounds = b; responses = xs })) is ∙ sym (ap (λ a. after a (λ b. given (record { bounds = b; responses = responses_in s }))) e)

pub given_bound : (s : Sheet) (number : ℕ) (q : QuickBound) → given q ≡ quick_bound_of s number → (quick_of s number ≡ given q.bounds) × (q.responses ≡ responses_in s)
given_bound s number q e = (x.1 ∙ ap (λ q. given q.bounds) same, sym (ap (λ (q : QuickBound). q.responses) same))
  where
    x : (b : Bounds) × (quick_of s number ≡ given b) × (given (record { bounds = b; responses = responses_in s }) ≡ given q)
    x = after_given (quick_of s number) (λ b. given (record { bounds = b; responses = responses_in s })) (sym e)

    same : record { bounds = x.0; responses = responses_in s } ≡ q
    same = cc x.2

-- What is refused is refused of the bounds.
pub bound_refused : (s : Sheet) (number : ℕ) (r : Refusal) → refusal r ≡ quick_bound_of s number → quick_of s number ≡ refusal r
bound_refused s number r e = after_refused (quick_of s number) (λ b. record { bounds = b; responses = responses_in s }) r (sym e)

-- ---- of every chain

module _ (s : Sheet) where
  abbrev late : Judgement
  late = lateness (passing_greatest (tasks_of s) (length (tasks_of s)))

  abbrev all : QuickSuite
  all = record { responses = responses_in s; chains = bounds_to s (chain_count s) }

  pub suite_refused : (r : Refusal) → judge_of s ≡ refusal r → suite_of s ≡ refusal r
  unfolding suite_of
  suite_refused r e = ap (λ j. also j late) e

  pub suite_judged : judge_of s ≡ fine → suite_of s ≡ late
  unfolding suite_of
  suite_judged e = ap (λ j. also j late) e

  -- A refusal stands alone, and the bounds come with the responses.
  pub suite_alone : (r : Refusal) → suite_of s ≡ refusal r → refusal r ≡ quick_suite_of s
  suite_alone r e = sym (ap (λ j. also j (given all)) e)

  pub suite_given : {xs : List ℕ} {bounds : List Bounds} → suite_of s ≡ fine → xs ≡ responses_in s → bounds ≡ bounds_to s (chain_count s)
      → given (record { responses = xs; chains = bounds }) ≡ quick_suite_of s
  suite_given e is are =
      ap₂ (λ xs bounds. given (record { responses = xs; chains = bounds })) is are ∙ sym (ap (λ j. also j (given all)) e)

  pub suite_not : (r : Refusal) → refusal r ≡ quick_suite_of s → suite_of s ≡ refusal r
  suite_not r e = judged_refused (suite_of s) all r e

  -- What is given of a chain that the sheet has.
  pub quick_known : (number : ℕ) → lacks s number ≡ fine → quick_of s number ≡ also (suite_of s) (given (bounds_of (tasks_of s) (chain_of s number)))
  unfolding quick_of suite_of
  quick_known number known =
      ap (λ k. also (judge_of s) (also k (also late (given (bounds_of (tasks_of s) (chain_of s number)))))) known ∙ go (judge_of s)
    where
      go : (j : Judgement) → also j (also late (given (bounds_of (tasks_of s) (chain_of s number)))) ≡ also (also j late) (given (bounds_of (tasks_of s) (chain_of s number)))
      go (given u) = refl
      go (refused n vs) = refl

  pub suite_sound : suite_of s ≡ fine → judge_of s ≡ fine
  unfolding suite_of
  suite_sound e = (also_given (judge_of s) late e).0

-- ---- the greatest-ranked task that passes its period

pub found : (ts : List Task) {x : Slot} → passing_greatest ts (length ts) ≡ x → IsGreatest (rank ts) (passes ts) (length ts) x
found ts e = subst (IsGreatest (rank ts) (passes ts) (length ts)) e (greatest_is (rank ts) (passes ts) (length ts))

-- The task so far, if there is one.
abbrev pub slot_of : Option ℕ → Slot
slot_of None = idle
slot_of (Some i) = busy i

-- It is the one of the first i.
abbrev pub FoundTo : Sheet → ℕ → Option ℕ → Type 0
FoundTo s i best = passing_greatest (tasks_of s) i ≡ slot_of best

pub found_known : (s : Sheet) (i j : ℕ) → FoundTo s i (Some j) → j < i
found_known s i j e = (subst (IsGreatest (rank (tasks_of s)) (passes (tasks_of s)) i) e (greatest_is (rank (tasks_of s)) (passes (tasks_of s)) i)).0

-- Whether task i takes its place if it passes its period: it outranks it, or there is none.
abbrev pub takes : Sheet → ℕ → Option ℕ → Bool
takes s i None = true
takes s i (Some j) = ltb (get_or s.tasks j none).rank (get_or s.tasks i none).rank

module _ (s : Sheet) (ok : Sound s) {values : List ℕ} (are : values ≡ responses_in s) where
  pub response_at : (i : ℕ) → i < s.count → get_or values i 0 ≡ quick_response (tasks_of s) i
  response_at i l =
      ap (λ xs. get_or xs i 0) are ∙ places_taken 16 0 (quick_response (tasks_of s)) s.count 0 i l (omega (arith, ok.count_most))

  module _ (i : ℕ) (l : i < s.count) where
    abbrev ts : List Task
    ts = tasks_of s

    outranking_is : (best : Option ℕ) → FoundTo s i best → outranking (rank ts) i (slot_of best) ≡ cond (takes s i best) (busy i) (slot_of best)
    outranking_is None f = refl
    outranking_is (Some j) f = rw (rank_at_lem _ ok i l, rank_at_lem _ ok j (omega (arith, found_known s i j f)))

    step : (best : Option ℕ) {b t : Bool} → FoundTo s i best → passes ts i ≡ b → takes s i best ≡ t
        → passing_greatest ts (i + 1) ≡ cond b (cond t (busy i) (slot_of best)) (slot_of best)
    unfolding greatest
    step best {b} f e t =
        ap (passing_greatest ts) (add-one i) ∙ ap₂ (λ b x. cond b (outranking (rank ts) i x) x) e f
        ∙ ap (λ x. cond b x (slot_of best)) (outranking_is best f ∙ ap (λ t. cond t (busy i) (slot_of best)) t)

    passing_is : (get_or s.tasks i none).period < get_or values i 0 → passes ts i ≡ true
    passing_is p = lt-ltb (period ts i) (quick_response ts i) (omega (arith, response_at i l, period_at _ ok i l))

    -- Task i passes its period and takes the place,
    pub found_more : (best : Option ℕ) → FoundTo s i best → (get_or s.tasks i none).period < get_or values i 0 → takes s i best ≡ true
        → FoundTo s (i + 1) (Some i)
    found_more best f p t = step best f (passing_is p) t

    -- or does not take it,
    pub found_lower : (best : Option ℕ) → FoundTo s i best → (get_or s.tasks i none).period < get_or values i 0 → takes s i best ≡ false
        → FoundTo s (i + 1) best
    found_lower best f p t = step best f (passing_is p) t

    -- or keeps its period.
    pub found_same : (best : Option ℕ) → FoundTo s i best → get_or values i 0 ≤ (get_or s.tasks i none).period → FoundTo s (i + 1) best
    found_same best f p = step best f (le-ltb (period ts i) (quick_response ts i) (omega (arith, response_at i l, period_at _ ok i l))) refl

  -- Where none passes, the values are responses.
  pub none_responding : passing_greatest (tasks_of s) (length (tasks_of s)) ≡ idle → Responding s values
  none_responding e = record { response_is = response_at; response_most = λ i l. ltb-false _ _ (found (tasks_of s) e i (omega (arith, tasks_length _ ok))) }

-- All tasks are looked at,
pub found_all : (s : Sheet) → Sound s → {i : ℕ} (x : Option ℕ) → i ≡ s.count → FoundTo s i x
    → passing_greatest (tasks_of s) (length (tasks_of s)) ≡ slot_of x
found_all s ok x e f = ap (passing_greatest (tasks_of s)) (tasks_length _ ok ∙ sym e) ∙ f

-- and that is what is refused, or nothing.
pub found_late : (s : Sheet) → Sound s → {i : ℕ} (x : Option ℕ) {y : Option ℕ} → i ≡ s.count → FoundTo s i x → x ≡ y
    → lateness (passing_greatest (tasks_of s) (length (tasks_of s))) ≡ lateness (slot_of y)
found_late s ok x e f is = ap lateness (found_all s ok x e f) ∙ ap (λ x. lateness (slot_of x)) is
