-- The tasks and the chains of a sheet that is judged fine: each place's task in the list, proper tasks, and a chain of them.
use Rattle.std.specs.Prelude.{◌≡◌, refl, ◌≢◌, Bool, true, false, cond, List, [], ◌∷◌, ℕ, suc, ◌-◌, ◌/◌, ◌≤◌, ◌<◌, eqb, length, get_or, Ok}
use Rattle.std.proofs.Common.{sym, ap, ap₂, ◌∙◌, subst, arith, length-take-le, le-ltb}
use Rattle.std.proofs.Math.Decide.{dec_le}
use Rattle.std.proofs.Math.ListN.{length-take, get_or-eq_default}
use Rattle.std.proofs.Math.Seq.{get_or-take}
use Rattle.theory.specs.declared.Task.{Task}
use Rattle.theory.specs.Model.Schedule.{none, period, budget, rank, Proper}
use Rattle.theory.specs.Model.Responses.{hyperperiod, jobs}
use Rattle.theory.specs.Model.Chain.{Chain}
use Rattle.sheet.specs.declared.Chain.{Chain as SheetChain}
use Rattle.sheet.specs.declared.Sheet.{Sheet}
use Rattle.sheet.specs.declared.sound.Judged.{Judged}
use Rattle.sheet.specs.declared.Field.TheVariants.{Entry}
use Rattle.answers.specs.Answers.{Answer, given, fine}
use Rattle.answers.specs.AnswerLaws.{also_given, when_fine}
use Rattle.sheet.specs.Fields.{old, new, kind_of, chains, value}
use Rattle.sheet.specs.Sound.{Within, Sound}
use Rattle.sheet.specs.SameLaws.{chains_few}
use Rattle.sheet.specs.SoundLaws.{inside}
use Rattle.sheet.specs.Tasks.{tasks_of, chain_count, lacks, chain_at, entries_of, chain_of, first_of, rest_of}
use Rattle.sheet.specs.Promises.{ChainPromise}

-- A task whose T and C are allowed.
pub record Allowed (t : Task) : Type 0 where
  pub period_positive : 0 < t.period
  pub period_most : t.period ≤ 100000
  pub budget_positive : 0 < t.budget
  pub budget_most : t.budget ≤ t.period

module _ (s : Sheet) (sound : Sound s) where
  -- A place past the list holds no task, and so no period that is allowed.
  tasks_enough : s.count ≤ length s.tasks
  tasks_enough = go (dec_le s.count (length s.tasks))
    where
      go : Dec (s.count ≤ length s.tasks) → s.count ≤ length s.tasks
      go (yes l) = l
      go (no l) = absurd (omega (
        arith,
        sound.period_least (length s.tasks) (omega arith),
        ap (λ (t : Task). t.period) (get_or-eq_default s.tasks none {n = length s.tasks} (omega arith)),
      ))

  pub tasks_length : length (tasks_of s) ≡ s.count
  unfolding tasks_of
  tasks_length = rw length-take (omega (arith, tasks_enough))

  -- Place i

  pub place_allowed : (i : ℕ) → i < s.count → Allowed (get_or s.tasks i none)
  place_allowed i l = record {
    period_positive = sound.period_least i l;
    period_most = sound.period_most i l;
    budget_positive = sound.budget_least i l;
    budget_most = sound.budget_most i l;
  }

  pub task_at_lem : (i : ℕ) → i < s.count → get_or (tasks_of s) i none ≡ get_or s.tasks i none
  unfolding tasks_of
  task_at_lem i l = get_or-take s.count s.tasks i none l

  pub period_at : (i : ℕ) → i < s.count → period (tasks_of s) i ≡ (get_or s.tasks i none).period
  period_at i l = ap (λ (t : Task). t.period) (task_at_lem i l)

  pub budget_at : (i : ℕ) → i < s.count → budget (tasks_of s) i ≡ (get_or s.tasks i none).budget
  budget_at i l = ap (λ (t : Task). t.budget) (task_at_lem i l)

  pub rank_at_lem : (i : ℕ) → i < s.count → rank (tasks_of s) i ≡ (get_or s.tasks i none).rank
  rank_at_lem i l = ap (λ (t : Task). t.rank) (task_at_lem i l)

  pub jobs_at : {h : ℕ} → h ≡ hyperperiod (tasks_of s) → (i : ℕ) → i < s.count → jobs (tasks_of s) i ≡ h / (get_or s.tasks i none).period
  jobs_at e i l = ap₂ ◌/◌ (sym e) (period_at i l)

  -- The list

  pub task_allowed : (i : ℕ) → i < length (tasks_of s) → Allowed (get_or (tasks_of s) i none)
  task_allowed i l = let m : i < s.count = omega (arith, tasks_length) in subst Allowed (sym (task_at_lem i m)) (place_allowed i m)

  pub sound_proper : Proper (tasks_of s)
  sound_proper = record {
    period_positive = λ i l. (task_allowed i l).period_positive;
    budget_positive = λ i l. (task_allowed i l).budget_positive;
    ranks_differ = λ i j l m e.
        let a : i < s.count = omega (arith, tasks_length) in
        let b : j < s.count = omega (arith, tasks_length) in
        sound.ranks_differ i j a b (sym (rank_at_lem i a) ∙ e ∙ rank_at_lem j b);
  }

-- Entries that are tasks, and of which no two neighbours are the same, are a chain; with no entry it is that of task 0.
entries_chain : (ts : List Task) (chain : List ℕ) → 0 < length ts
    → ((i : ℕ) → i < length chain → get_or chain i 0 < length ts) → ((i : ℕ) → suc i < length chain → get_or chain i 0 ≢ get_or chain (suc i) 0)
    → Chain ts (first_of chain) (rest_of chain)
entries_chain ts [] some known differ = some
entries_chain ts (p ∷ []) some known differ = known 0 (omega arith)
entries_chain ts (p ∷ c ∷ rest) some known differ = (
  known 0 (omega arith),
  differ 0 (omega arith),
  entries_chain ts (c ∷ rest) some (λ i l. known (suc i) (omega arith)) (λ i l. differ (suc i) (omega arith)),
)

-- The chains

-- how many there are
pub chain_count_lem : (s : Sheet) → Sound s → chain_count s ≡ chains (kind_of (value s)) (value s)
chain_count_lem s sound = go (eqb s.edition 1) sound
  where
    go : (b : Bool) → Within (cond (eqb (cond b 0 31) 31) new old) (value s) → cond b 1 s.suite ≡ chains (cond (eqb (cond b 0 31) 31) new old) (value s)
    go true w = refl
    go false w = sym (w.chains_are tt)

pub chains_most : (s : Sheet) → Sound s → chain_count s ≤ 8
chains_most s sound = omega (arith, chain_count_lem _ sound, chains_few (kind_of (value s)) (value s))

-- a number from 1 to the count is that of a chain
pub number_known : (s : Sheet) (number : ℕ) → 1 ≤ number → number ≤ chain_count s → lacks s number ≡ fine
number_known s number l m = rw (le-ltb number 1 l, le-ltb (chain_count s) number m)

-- a number for which a chain is answered is known, and the tasks along that chain are those of the number
pub chain_told : (s : Judged) (number : ℕ) {c : SheetChain} → ChainPromise s number (Ok c) → (lacks s.sheet number ≡ fine) × (entries_of c ≡ chain_of s.sheet number)
chain_told s number {c} h =
    let k = also_given (lacks s.sheet number) (given (chain_at s.sheet number)) (sym h) in
    let e : ◌≡◌ {A = Answer SheetChain} (given (chain_at s.sheet number)) (given c) = k.1 in
    let same : c ≡ chain_at s.sheet number = cc in
    (k.0, ap entries_of same)

module _ (s : Sheet) (sound : Sound s) (number : ℕ) (known : lacks s number ≡ fine) where
  -- the place of the chain among the eight
  pub chain_place : number - 1 < chains (kind_of (value s)) (value s)
  chain_place = let r = inside 1 (chain_count s) number (when_fine _ 17 known) in omega (arith, r, chain_count_lem _ sound)

  pub chain_length : length (chain_at s number).entries ≡ 16 → length (chain_of s number) ≡ (chain_at s number).length
  chain_length whole =
      length-take-le (chain_at s number).length (chain_at s number).entries (omega (arith, sound.length_most (number - 1) chain_place, sound.count_most))

  pub chain_most : length (chain_of s number) ≤ 16
  chain_most =
      omega (arith, length-take (chain_at s number).length (chain_at s number).entries, sound.length_most (number - 1) chain_place, sound.count_most)

  entry_at : (i : ℕ) → i < length (chain_of s number) → (get_or (chain_of s number) i 0 ≡ value s (Entry (number - 1) i)) × (i < (chain_at s number).length)
  entry_at i l =
      let c = chain_at s number in
      let m : i < c.length = omega (arith, length-take c.length c.entries) in (get_or-take c.length c.entries i 0 m, m)

  pub entry_listed : (i : ℕ) → i < length (chain_of s number) → get_or (chain_of s number) i 0 < length (tasks_of s)
  entry_listed i l = let e = entry_at i l in omega (arith, e.0, sound.entry_below (number - 1) i chain_place e.1, tasks_length _ sound)

  pub chain_known : Chain (tasks_of s) (first_of (chain_of s number)) (rest_of (chain_of s number))
  chain_known = entries_chain (tasks_of s) (chain_of s number) (omega (arith, tasks_length _ sound, sound.count_least))
      entry_listed
      (λ i l q.
      let a = entry_at i (omega arith) in
      let b = entry_at (suc i) l in
      omega (arith, sound.entries_differ (number - 1) chain_place i (suc i) a.1 b.1 (sym a.0 ∙ q ∙ b.0)))
