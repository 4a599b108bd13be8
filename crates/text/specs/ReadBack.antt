-- The shown text of a sheet that is judged fine, read line by line.
use Rattle.std.specs.Prelude.{◌≡◌, ◌⊎◌, eqb, set, Option, Some, None, Ok}
use Rattle.std.proofs.Math.Path.{refl, ap}
use Rattle.std.proofs.Common.{sym, ap₂, ◌∙◌, subst, inl, inr, arith, ne_eqb}
use Rattle.std.proofs.Math.Bool.{cond}
use mathlib.Core.List.{List, [], ◌∷◌, ◌++◌, append_assoc, append-nil}
use Prim.Native.Nat.{ℕ, zero, suc, ◌+◌, ◌≤◌, ◌<◌, min}
use Rattle.std.proofs.Math.Decide.{ℕ_discrete}
use Rattle.std.proofs.Math.ListN.{get_or}
use Rattle.bits.specs.Bits.{list_of}
use Rattle.theory.specs.declared.Task.{Task}
use Rattle.theory.specs.Model.Schedule.{none}
use Rattle.sheet.specs.declared.Chain.{Chain}
use Rattle.sheet.specs.declared.Sheet.{Sheet}
use Rattle.sheet.specs.Fields.{Values, Kind, old, new, kind_of, chains, idle, value}
use Rattle.sheet.specs.Calls.{places, unused, RanksFit, task_by, chain_by, sheet_by, cleared}
use Rattle.sheet.specs.PlaceLaws.{length_places, places_taken, places_set, places_none}
use Rattle.sheet.specs.SameLaws.{sheet_is}
use Rattle.sheet.specs.StepLaws.{old_edition, new_edition}
use Rattle.sheet.specs.Sound.{Within, Sound}
use Rattle.text.specs.declared.Want.{Want}
use Rattle.text.specs.declared.Want.TheVariants.{Opening, More, Chain as WantChain}
use Rattle.text.specs.declared.Edition.{Edition}
use Rattle.text.specs.declared.Edition.TheVariants.{Two}
use Rattle.text.specs.declared.Draft.{Draft}
use Rattle.text.specs.declared.Place.TheVariants.{Between}
use Rattle.text.specs.Shown.{numeral, task_line, joined, entry_word, limit_word, limit_words, chain_word, chain_line, new_line, chain_count, text_of}
use Rattle.text.specs.Grammar.{fresh, line_end, text_end, typed}
use Rattle.text.specs.Run.{run, nameless}
use Rattle.text.specs.LineLaws.{names, next, tasked, task_run}
use Rattle.text.specs.ChainLaws.{chain_of, chained, old_run, new_run}

-- ---- the form of a chain's line

old_form : (chain : Chain) (rest : List ℕ) → chain_line 1 chain ++ rest ≡ chain_word ++ (joined (λ i. entry_word (get_or chain.entries i 0)) 0 (min chain.length 16) ++ (10 ∷ rest))
unfolding chain_line limit_words
old_form chain rest = ap (λ l. chain_word ++ l) (append_assoc (joined (λ i. entry_word (get_or chain.entries i 0)) 0 (min chain.length 16)) new_line rest)

new_form : (chain : Chain) (rest : List ℕ) → chain_line 2 chain ++ rest
    ≡ chain_word ++ next limit_word (next (numeral chain.limit) (joined (λ i. entry_word (get_or chain.entries i 0)) 0 (min chain.length 16) ++ (10 ∷ rest)))
unfolding chain_line limit_words
new_form chain rest =
    let entries = joined (λ i. entry_word (get_or chain.entries i 0)) 0 (min chain.length 16) in
    ap (λ l. chain_word ++ (32 ∷ (limit_word ++ (32 ∷ l)))) (append_assoc (numeral chain.limit) (entries ++ new_line) rest ∙ ap (λ l. numeral chain.limit ++ l) (append_assoc entries new_line rest))

-- ---- its tasks

abbrev tasks_to : Sheet → ℕ → List Task
tasks_to s i = places 16 none i (task_by (value s))

abbrev no_chains : List Chain
no_chains = places 8 unused 0 (λ c. unused)

module _ (s : Sheet) (kind : Kind) (sound : Within kind (value s)) (fit : RanksFit s) where
  task_line_lem : (i : ℕ) (want : Want) (rest : List ℕ) → (want ≡ Opening) ⊎ (want ≡ More) → i < s.count
      → run (names i) Between (tasked no_chains want (tasks_to s i) i) (task_line i (get_or s.tasks i none) ++ rest) ≡ run (names (suc i)) Between (tasked no_chains More (tasks_to s (suc i)) (suc i)) rest
  task_line_lem i want rest w h =
      let v = value s in
      let t : Task = get_or s.tasks i none in
      task_run no_chains (tasks_to s i) i want t.period t.budget t.rank rest w (omega (arith, sound.count_most)) (omega (arith, sound.count_most, length_places 16 none (task_by v) i))
      (sound.period_least i h) (sound.period_most i h) (sound.budget_least i h) (sound.budget_most i h) (fit i)
      (λ j l e. let q = sound.ranks_differ j i (omega arith) h (sym (ap (λ t. t.rank) (places_taken 16 none (task_by v) i none j l (omega (arith, sound.count_most)))) ∙ e) in omega arith)
      ∙ ap (λ l. run (names (suc i)) Between (tasked no_chains More l (suc i)) rest)
      (places_set 16 none (task_by v) i (omega (arith, sound.count_most)) ∙ ap (tasks_to s) {x = i + 1} {y = suc i} (omega arith))

  task_lines_lem : (k i : ℕ) (rest : List ℕ) → i + k ≤ s.count
      → run (names i) Between (tasked no_chains More (tasks_to s i) i) (joined (λ j. task_line j (get_or s.tasks j none)) i k ++ rest) ≡ run (names (i + k)) Between (tasked no_chains More (tasks_to s (i + k)) (i + k)) rest
  unfolding joined
  task_lines_lem zero i rest h = ap (λ m. run (names m) Between (tasked no_chains More (tasks_to s m) m) rest) {x = i} {y = i + 0} (omega arith)
  task_lines_lem (suc k) i rest h =
      let line = task_line i (get_or s.tasks i none) in
      let left = joined (λ j. task_line j (get_or s.tasks j none)) (suc i) k in
      ap (run (names i) Between (tasked no_chains More (tasks_to s i) i)) (append_assoc line left rest)
      ∙ task_line_lem i More (left ++ rest) (inr refl) (omega arith) ∙ task_lines_lem k (suc i) rest (omega arith)
      ∙ ap (λ m. run (names m) Between (tasked no_chains More (tasks_to s m) m) rest) {x = suc i + k} {y = i + suc k} (omega arith)

  all_tasks : (n : ℕ) (rest : List ℕ) → n ≡ s.count
      → run nameless Between fresh (joined (λ j. task_line j (get_or s.tasks j none)) 0 n ++ rest) ≡ run (names n) Between (tasked no_chains More (tasks_to s n) n) rest
  unfolding joined fresh list_of
  all_tasks zero rest e = absurd (omega (arith, sound.count_least))
  all_tasks (suc k) rest e =
      let line = task_line 0 (get_or s.tasks 0 none) in
      let left = joined (λ j. task_line j (get_or s.tasks j none)) 1 k in
      ap (run nameless Between fresh) (append_assoc line left rest)
      ∙ task_line_lem 0 Opening (left ++ rest) (inl refl) (omega arith) ∙ task_lines_lem k 1 rest (omega arith)
      ∙ ap (λ m. run (names m) Between (tasked no_chains More (tasks_to s m) m) rest) {x = 1 + k} {y = suc k} (omega arith)

-- ---- the end

ended : (edition : Option Edition) (c : ℕ) (chains : List Chain) (tasks : List Task) (n : ℕ)
    → run (names n) Between (chained tasks n WantChain edition chains c) [] ≡ Ok (chained tasks n WantChain edition chains c)
unfolding run line_end text_end
ended edition c chains tasks n = refl

-- ---- its chains, of edition 2

module _ (s : Sheet) (sound : Within new (value s)) where
  -- all tasks and c chains
  abbrev chains_to : Want → Option Edition → ℕ → Draft
  chains_to want edition c = chained (tasks_to s s.count) s.count want edition (places 8 unused c (chain_by new (value s))) c

  chain_line_lem : (c : ℕ) (want : Want) (edition : Option Edition) (rest : List ℕ) → ((want ≡ More) × (edition ≡ None)) ⊎ ((want ≡ WantChain) × (edition ≡ Some Two)) → c < s.suite
      → run (names s.count) Between (chains_to want edition c) (chain_line 2 (get_or s.chains c idle) ++ rest) ≡ run (names s.count) Between (chains_to WantChain (Some Two) (suc c)) rest
  chain_line_lem c want edition rest w h =
      let v = value s in
      let n : ℕ = s.count in
      let chain : Chain = get_or s.chains c idle in
      let m : ℕ = chain.length in
      let f : ℕ → ℕ = λ x. get_or chain.entries x 0 in
      let here : c < chains new v = omega (arith, sound.chains_are tt) in
      let start = chains_to want edition c in
      ap (run (names n) Between start) (new_form (get_or s.chains c idle) rest)
      ∙ ap (λ k. run (names n) Between start (chain_word ++ next limit_word (next (numeral chain.limit) (joined (λ x. entry_word (f x)) 0 k ++ (10 ∷ rest)))))
      {x = min m 16} {y = m} (omega (arith, sound.length_most c here, sound.count_most))
      ∙ new_run (tasks_to s n) n (places 8 unused c (chain_by new v)) c f sound.count_most (omega (arith, length_places 8 unused (chain_by new v) c)) want edition m chain.limit rest w
      (sound.limit_most c tt here) (sound.length_least c here) (sound.length_most c here) (λ x l. sound.entry_below c x here l) (sound.entries_differ c here) (omega arith)
      ∙ ap (λ l. run (names n) Between (chained (tasks_to s n) n WantChain (Some Two) l (suc c)) rest)
      (places_set 8 unused (chain_by new v) c (omega arith) ∙ ap (λ k. places 8 unused k (chain_by new v)) {x = c + 1} {y = suc c} (omega arith))

  chain_lines_lem : (k c : ℕ) (rest : List ℕ) → c + k ≤ s.suite
      → run (names s.count) Between (chains_to WantChain (Some Two) c) (joined (λ j. chain_line 2 (get_or s.chains j idle)) c k ++ rest) ≡ run (names s.count) Between (chains_to WantChain (Some Two) (c + k)) rest
  unfolding joined
  chain_lines_lem zero c rest h = ap (λ m. run (names s.count) Between (chains_to WantChain (Some Two) m) rest) {x = c} {y = c + 0} (omega arith)
  chain_lines_lem (suc k) c rest h =
      let line = chain_line 2 (get_or s.chains c idle) in
      let left = joined (λ j. chain_line 2 (get_or s.chains j idle)) (suc c) k in
      ap (run (names s.count) Between (chains_to WantChain (Some Two) c)) (append_assoc line left rest)
      ∙ chain_line_lem c WantChain (Some Two) (left ++ rest) (inr (refl, refl)) (omega arith) ∙ chain_lines_lem k (suc c) rest (omega arith)
      ∙ ap (λ m. run (names s.count) Between (chains_to WantChain (Some Two) m) rest) {x = suc c + k} {y = c + suc k} (omega arith)

  all_chains : (k : ℕ) → k ≡ s.suite
      → run (names s.count) Between (chains_to More None 0) (joined (λ j. chain_line 2 (get_or s.chains j idle)) 0 k) ≡ run (names s.count) Between (chains_to WantChain (Some Two) k) []
  unfolding joined
  all_chains zero e = absurd (omega (arith, sound.chains_least, sound.chains_are tt))
  all_chains (suc k) e =
      let left = joined (λ j. chain_line 2 (get_or s.chains j idle)) 1 k in
      chain_line_lem 0 More None left (inl (refl, refl)) (omega arith)
      ∙ ap (run (names s.count) Between (chains_to WantChain (Some Two) 1)) (sym (append-nil left)) ∙ chain_lines_lem k 1 [] (omega arith)
      ∙ ap (λ m. run (names s.count) Between (chains_to WantChain (Some Two) m) []) {x = 1 + k} {y = suc k} (omega arith)

  new_typed : typed (chains_to WantChain (Some Two) s.suite) ≡ sheet_by new (value s)
  unfolding typed
  new_typed =
      let v = value s in
      sheet_is refl (ap (λ k. places 8 unused k (chain_by new v)) (sym (sound.chains_are tt))) (sym (ap (λ k. cond (eqb k 1) 0 k) (sound.edition_is tt))) refl refl

-- ---- its one chain, of edition 1

module _ (s : Sheet) (sound : Within old (value s)) where
  abbrev old_chain : ℕ → Chain
  old_chain c = let chain = get_or s.chains c idle in chain_of (λ x. get_or chain.entries x 0) chain.length 1000

  old_line : run (names s.count) Between (chained (tasks_to s s.count) s.count More None no_chains 0) (joined (λ j. chain_line 1 (get_or s.chains j idle)) 0 1)
      ≡ run (names s.count) Between (chained (tasks_to s s.count) s.count WantChain None (set no_chains 0 (old_chain 0)) 1) []
  unfolding joined
  old_line =
      let n : ℕ = s.count in
      let chain : Chain = get_or s.chains 0 idle in
      let m : ℕ = chain.length in
      let start = chained (tasks_to s n) n More None no_chains 0 in
      ap (run (names n) Between start) (old_form (get_or s.chains 0 idle) [])
      ∙ ap (λ k. run (names n) Between start (chain_word ++ (joined (λ x. entry_word (get_or chain.entries x 0)) 0 k ++ (10 ∷ [])))) {x = min m 16} {y = m} (omega (arith, sound.length_most 0 (omega arith), sound.count_most))
      ∙ old_run (tasks_to s n) n no_chains 0 (λ x. get_or chain.entries x 0) sound.count_most (omega (arith, length_places 8 unused (λ c. unused) 0)) m []
      (sound.length_least 0 (omega arith)) (sound.length_most 0 (omega arith)) (λ x l. sound.entry_below 0 x (omega arith) l) (sound.entries_differ 0 (omega arith)) (omega arith)

  old_typed : typed (chained (tasks_to s s.count) s.count WantChain None (set no_chains 0 (old_chain 0)) 1) ≡ sheet_by old (value s)
  unfolding typed list_of
  old_typed = refl

-- ---- the whole text

-- Nothing is wrong to the end, and what was typed is the sheet, its unused places zero.
pub record ReadBack (s : Sheet) : Type 0 where
  pub draft : Draft
  pub reads : run nameless Between fresh (text_of s) ≡ Ok draft
  pub same : typed draft ≡ cleared s

read_new : (s : Sheet) → (s.edition ≡ 1 → ⊥) → Sound s → RanksFit s → ReadBack s
unfolding text_of
read_new s e sound fit =
    record {
      draft = chains_to s within WantChain (Some Two) s.suite;
      reads =
          ap₂ (λ x y. run nameless Between fresh (joined task 0 x ++ joined (λ c. chain_line y (get_or s.chains c idle)) 0 (chain_count s))) {x = min s.count 16} {y = s.count} (omega (arith, within.count_most)) (within.edition_is tt)
          ∙ ap (λ k. run nameless Between fresh (joined task 0 s.count ++ joined chain 0 k)) (ap (λ b. cond b 1 (min s.suite 8)) (ne_eqb s.edition 1 e) ∙ within.chains_are tt)
          ∙ all_tasks s new within fit s.count (joined chain 0 s.suite) refl
          ∙ none_yet
          ∙ all_chains s within s.suite refl
          ∙ ended (Some Two) s.suite (places 8 unused s.suite (chain_by new v)) (tasks_to s s.count) s.count;
      same = new_typed s within ∙ ap (λ k. sheet_by k v) (sym is);
    }
  where
    v : Values
    v = value s

    is : kind_of v ≡ new
    is = new_edition s.edition e

    within : Within new v
    within = subst (λ k. Within k v) is sound

    task : ℕ → List ℕ
    task j = task_line j (get_or s.tasks j none)

    chain : ℕ → List ℕ
    chain c = chain_line 2 (get_or s.chains c idle)

    none_yet : run (names s.count) Between (tasked no_chains More (tasks_to s s.count) s.count) (joined chain 0 s.suite) ≡ run (names s.count) Between (chains_to s within More None 0) (joined chain 0 s.suite)
    none_yet = ap (λ l. run (names s.count) Between (chained (tasks_to s s.count) s.count More None l 0) (joined chain 0 s.suite)) (places_none 8 unused (λ c. unused) ∙ sym (places_none 8 unused (chain_by new v)))

read_old : (s : Sheet) → s.edition ≡ 1 → Sound s → RanksFit s → ReadBack s
unfolding text_of
read_old s e sound fit =
    record {
      draft = chained (tasks_to s s.count) s.count WantChain None (set no_chains 0 (old_chain s within 0)) 1;
      reads =
          ap₂ (λ x y. run nameless Between fresh (joined task 0 x ++ joined (λ c. chain_line y (get_or s.chains c idle)) 0 (cond (eqb y 1) 1 (min s.suite 8)))) {x = min s.count 16} {y = s.count} (omega (arith, within.count_most)) e
          ∙ all_tasks s old within fit s.count (joined (λ c. chain_line 1 (get_or s.chains c idle)) 0 1) refl
          ∙ old_line s within
          ∙ ended None 1 (set no_chains 0 (old_chain s within 0)) (tasks_to s s.count) s.count;
      same = old_typed s within ∙ ap (λ k. sheet_by k v) (sym is);
    }
  where
    v : Values
    v = value s

    is : kind_of v ≡ old
    is = old_edition s.edition e

    within : Within old v
    within = subst (λ k. Within k v) is sound

    task : ℕ → List ℕ
    task j = task_line j (get_or s.tasks j none)

pub read_back : (s : Sheet) → Sound s → RanksFit s → ReadBack s
read_back s sound fit = go (ℕ_discrete s.edition 1)
  where
    go : Dec (s.edition ≡ 1) → ReadBack s
    go (yes e) = read_old s e sound fit
    go (no e) = read_new s e sound fit
