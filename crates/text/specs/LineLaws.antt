-- What the lines of a shown text do to a reading: a task line adds its task, a chain line its chain.
use Rattle.std.specs.Prelude.{◌≡◌, Bool, true, false, ◌⊎◌, ◌==◌, ◌||◌, length, get_or, take, None, Ok, Err}
use Rattle.std.specs.List.{list_any}
use Rattle.std.proofs.Math.Path.{refl, ap, ap₂}
use Rattle.std.proofs.Common.{sym, ◌∙◌, inl, inr, arith, length-append, get_or-set_same, get_or-set_other, set-set, lt-ltb, le-ltb, ne_eqb}
use Rattle.std.proofs.Math.Bool.{cond}
use mathlib.Core.List.{List, [], ◌∷◌, ◌++◌, append_assoc}
use Prim.Native.Nat.{ℕ, zero, suc, ◌+◌, ◌≤◌, ◌<◌, min}
use Rattle.std.proofs.Math.ListN.{set}
use Rattle.theory.specs.declared.Task.{Task}
use Rattle.theory.specs.Model.Schedule.{none}
use Rattle.sheet.specs.declared.Chain.{Chain}
use Rattle.sheet.specs.Fields.{outside}
use Rattle.sheet.specs.Calls.{places}
use Rattle.sheet.specs.PlaceLaws.{places_taken, places_set}
use Rattle.text.specs.declared.Key.TheVariants.{Task as TaskKey}
use Rattle.text.specs.declared.Word.TheVariants.{Key as Keyword, Number}
use Rattle.text.specs.declared.Want.{Want}
use Rattle.text.specs.declared.Want.TheVariants.{Opening, More, Name, Period as WantPeriod, PeriodNumber, Budget as WantBudget, BudgetNumber, Rank as WantRank, RankNumber, TaskEnd}
use Rattle.text.specs.declared.Wrong.TheVariants.{RankTooGreat, Tasks as TasksRefused, Period as PeriodRefused, Budget as BudgetRefused, Rank as RankRefused}
use Rattle.text.specs.declared.Draft.{Draft}
use Rattle.text.specs.declared.Place.TheVariants.{Between, Word as InWord}
use Rattle.text.specs.Shown.{numeral, task_word, period_word, budget_word, rank_word, new_line, spaced, task_line}
use Rattle.text.specs.Words.{every, says}
use Rattle.text.specs.Grammar.{wanting, with_task, task_more, ranked, step, line_end}
use Rattle.text.specs.Run.{run}
use Rattle.text.specs.NumeralLaws.{numeral_long}
use Rattle.text.specs.RunWords.{stops, word_run, next_run, line_run}
use Rattle.text.specs.SaysLaws.{task_name, numeral_plain, name_plain, says_number, says_new}

pub allowed : (least most x : ℕ) → least ≤ x → x ≤ most → outside least most x ≡ false
allowed least most x a b = ap₂ (λ s t. cond s true t) (le-ltb x least a) (le-ltb most x b)

-- none of the first k passes
pub none_passes : {A : Type 0} (test : A → Bool) (l : List A) (k : ℕ) (blank : A) → ((j : ℕ) → j < k → j < length l → test (get_or l j blank) ≡ false) → list_any test (take k l) ≡ false
none_passes test l zero blank h = refl
none_passes test [] (suc k) blank h = refl
none_passes test (x ∷ l) (suc k) blank h =
    ap₂ (λ s t. s || t) (h 0 (omega arith) (omega arith)) (none_passes test l k blank (λ j m n. h (suc j) (omega arith) (omega arith)))

-- the names of the first k tasks
abbrev pub names : ℕ → List (List ℕ)
names k = places 16 [] k task_name

pub known : (k : ℕ) → k ≤ 16 → (j : ℕ) → j < k → get_or (names k) j [] ≡ task_name j
known k h j l = places_taken 16 [] task_name k [] j l (omega arith)

pub name_long : (i : ℕ) → 1 ≤ length (task_name i)
name_long i = omega (arith, length-append task_word (numeral i))

-- a space, a word, and what follows
abbrev pub next : List ℕ → List ℕ → List ℕ
next w rest = 32 ∷ (w ++ rest)

-- ---- a task

abbrev pub task_of : ℕ → ℕ → ℕ → Task
task_of period budget rank = record { period = period; budget = budget; rank = rank }

module _ (chains : List Chain) where
  -- so many tasks typed, and no chain
  abbrev pub tasked : Want → List Task → ℕ → Draft
  tasked want tasks count = record { tasks = tasks; chains = chains; edition = None; count = count; suite = 0; want = want }

  module _ (tasks : List Task) (i : ℕ) (few : i < 16) (room : i < length tasks) where
    task_step : step (Keyword TaskKey) (tasked More tasks i) ≡ Ok (tasked Name tasks i)
    unfolding step
    task_step = ap (λ t. cond t (Ok (tasked Name tasks i)) (Err TasksRefused)) (lt-ltb i 16 few)

    period_step : (T : ℕ) → 1 ≤ T → T ≤ 100000 → step (Number T) (tasked PeriodNumber tasks i) ≡ Ok (tasked WantBudget (set tasks i (task_of T 0 0)) i)
    unfolding step
    period_step T a b = ap (λ t. cond t (Err PeriodRefused) (Ok (tasked WantBudget (set tasks i (task_of T 0 0)) i))) (allowed 1 100000 T a b)

    budget_step : (T C : ℕ) → 1 ≤ C → C ≤ T → step (Number C) (tasked BudgetNumber (set tasks i (task_of T 0 0)) i) ≡ Ok (tasked WantRank (set tasks i (task_of T C 0)) i)
    unfolding step
    budget_step T C a b =
        let d : Draft = tasked BudgetNumber (set tasks i (task_of T 0 0)) i in
        ap (λ t. cond (outside 1 t.period C) (Err BudgetRefused) (Ok (wanting WantRank (with_task (task_of t.period C 0) d)))) (get_or-set_same tasks i (task_of T 0 0) none room)
        ∙ ap (λ t. cond t (Err BudgetRefused) (Ok (wanting WantRank (with_task (task_of T C 0) d)))) (allowed 1 T C a b)
        ∙ ap (λ l. Ok (tasked WantRank l i)) (set-set tasks i (task_of T 0 0) (task_of T C 0))

    rank_step : (T C R : ℕ) → R < 256 → ((j : ℕ) → j < i → (get_or tasks j none).rank ≡ R → ⊥)
        → step (Number R) (tasked RankNumber (set tasks i (task_of T C 0)) i) ≡ Ok (tasked TaskEnd (set tasks i (task_of T C R)) (suc i))
    unfolding step
    rank_step T C R fits differ =
        let before = set tasks i (task_of T C 0) in
        let d : Draft = tasked RankNumber before i in
        ap (λ t. cond (outside 0 255 R) (Err RankTooGreat) (cond (ranked d R) (Err RankRefused) (Ok (wanting TaskEnd (task_more (with_task (task_of t.period t.budget R) d))))))
        (get_or-set_same tasks i (task_of T C 0) none room)
        ∙ ap₂ (λ t u. cond t (Err RankTooGreat) (cond u (Err RankRefused) (Ok (wanting TaskEnd (task_more (with_task (task_of T C R) d)))))) (allowed 0 255 R (omega arith) (omega arith))
        (none_passes (λ t. t.rank == R) before i none
        (λ j l m. ne_eqb (get_or before j none).rank R (λ e. differ j l (sym (ap (λ t. t.rank) (get_or-set_other tasks i j (task_of T C 0) none (λ q. omega arith))) ∙ e))))
        ∙ ap₂ (λ l k. Ok (tasked TaskEnd l k)) {u = min (i + 1) 16} {v = suc i} (set-set tasks i (task_of T C 0) (task_of T C R)) (omega arith)

    -- the words after the first
    task_words : (T C R : ℕ) (rest : List ℕ) → 1 ≤ T → T ≤ 100000 → 1 ≤ C → C ≤ T → R < 256 → ((j : ℕ) → j < i → (get_or tasks j none).rank ≡ R → ⊥)
        → run (names i) InWord (tasked Name tasks i) (next (task_name i) (next period_word (next (numeral T) (next budget_word (next (numeral C) (next rank_word (next (numeral R) (10 ∷ rest))))))))
        ≡ run (names (suc i)) Between (tasked More (set tasks i (task_of T C R)) (suc i)) rest
    unfolding stops every says step line_end
    task_words T C R rest a b c e f g =
        next_run (names i) (tasked Name tasks i) (tasked WantPeriod tasks i) (task_name i) row1 (name_long i) (name_plain i) refl
        (ap (λ w. step w (tasked Name tasks i)) (says_new (names i) i (omega arith) (known i (omega arith)) (omega arith)))
        ∙ ap (λ n. run n InWord (tasked WantPeriod tasks i) row1) (places_set 16 [] task_name i few ∙ ap names {x = i + 1} {y = suc i} (omega arith))
        ∙ next_run N (tasked WantPeriod tasks i) (tasked PeriodNumber tasks i) period_word row2 (omega arith) refl refl refl
        ∙ next_run N (tasked PeriodNumber tasks i) (tasked WantBudget ts1 i) (numeral T) row3 (numeral_long T) (numeral_plain T) refl
        (ap (λ w. step w (tasked PeriodNumber tasks i)) (says_number N i T (omega arith)) ∙ period_step T a b)
        ∙ next_run N (tasked WantBudget ts1 i) (tasked BudgetNumber ts1 i) budget_word row4 (omega arith) refl refl refl
        ∙ next_run N (tasked BudgetNumber ts1 i) (tasked WantRank ts2 i) (numeral C) row5 (numeral_long C) (numeral_plain C) refl
        (ap (λ w. step w (tasked BudgetNumber ts1 i)) (says_number N i C (omega arith)) ∙ budget_step T C c e)
        ∙ next_run N (tasked WantRank ts2 i) (tasked RankNumber ts2 i) rank_word row6 (omega arith) refl refl refl
        ∙ next_run N (tasked RankNumber ts2 i) (tasked TaskEnd ts3 (suc i)) (numeral R) (10 ∷ rest) (numeral_long R) (numeral_plain R) refl
        (ap (λ w. step w (tasked RankNumber ts2 i)) (says_number N i R (omega arith)) ∙ rank_step T C R f g)
        ∙ line_run N (tasked TaskEnd ts3 (suc i)) (tasked More ts3 (suc i)) rest refl
      where
        row6 : List ℕ
        row6 = next (numeral R) (10 ∷ rest)

        row5 : List ℕ
        row5 = next rank_word row6

        row4 : List ℕ
        row4 = next (numeral C) row5

        row3 : List ℕ
        row3 = next budget_word row4

        row2 : List ℕ
        row2 = next (numeral T) row3

        row1 : List ℕ
        row1 = next period_word row2

        N : List (List ℕ)
        N = names (suc i)

        ts1 : List Task
        ts1 = set tasks i (task_of T 0 0)

        ts2 : List Task
        ts2 = set tasks i (task_of T C 0)

        ts3 : List Task
        ts3 = set tasks i (task_of T C R)

-- its words in one row
task_form : (i : ℕ) (t : Task) (rest : List ℕ) → task_line i t ++ rest
    ≡ task_word ++ next (task_name i) (next period_word (next (numeral t.period) (next budget_word (next (numeral t.budget) (next rank_word (next (numeral t.rank) (10 ∷ rest)))))))
unfolding task_line
task_form i t rest =
    ap (λ l. task_word ++ (32 ∷ (task_word ++ l)))
    (append_assoc (numeral i) after1 rest
    ∙ ap (λ l. numeral i ++ next period_word (32 ∷ l)) (append_assoc (numeral t.period) after2 rest
    ∙ ap (λ l. numeral t.period ++ next budget_word (32 ∷ l)) (append_assoc (numeral t.budget) after3 rest
    ∙ ap (λ l. numeral t.budget ++ next rank_word (32 ∷ l)) (append_assoc (numeral t.rank) new_line rest))))
  where
    after3 : List ℕ
    after3 = (spaced rank_word ++ numeral t.rank) ++ new_line

    after2 : List ℕ
    after2 = (spaced budget_word ++ numeral t.budget) ++ after3

    after1 : List ℕ
    after1 = (spaced period_word ++ numeral t.period) ++ after2

pub task_run : (chains : List Chain) (tasks : List Task) (i : ℕ) (want : Want) (T C R : ℕ) (rest : List ℕ) → (want ≡ Opening) ⊎ (want ≡ More) → i < 16 → i < length tasks → 1 ≤ T → T ≤ 100000 → 1 ≤ C → C ≤ T → R < 256
    → ((j : ℕ) → j < i → (get_or tasks j none).rank ≡ R → ⊥)
    → run (names i) Between (tasked chains want tasks i) (task_line i (task_of T C R) ++ rest) ≡ run (names (suc i)) Between (tasked chains More (set tasks i (task_of T C R)) (suc i)) rest
unfolding stops every says step
task_run chains tasks i want T C R rest w few room a b c e f g =
    ap (run (names i) Between (tasked chains want tasks i)) (task_form i (task_of T C R) rest) ∙ first w ∙ task_words chains tasks i few room T C R rest a b c e f g
  where
    line : List ℕ
    line = next (task_name i) (next period_word (next (numeral T) (next budget_word (next (numeral C) (next rank_word (next (numeral R) (10 ∷ rest)))))))

    first : (want ≡ Opening) ⊎ (want ≡ More) → run (names i) Between (tasked chains want tasks i) (task_word ++ line) ≡ run (names i) InWord (tasked chains Name tasks i) line
    first (inl q) =
        ap (λ x. run (names i) Between (tasked chains x tasks i) (task_word ++ line)) q
        ∙ word_run (names i) (tasked chains Opening tasks i) (tasked chains Name tasks i) task_word line (omega arith) refl refl refl
    first (inr q) =
        ap (λ x. run (names i) Between (tasked chains x tasks i) (task_word ++ line)) q
        ∙ word_run (names i) (tasked chains More tasks i) (tasked chains Name tasks i) task_word line (omega arith) refl refl (task_step chains tasks i few room)
