-- What a chain line of a shown text does to a reading: it adds its chain.
use Rattle.std.specs.Prelude.{◌≡◌, true, ◌⊎◌, ◌==◌, Option, Some, None, Ok, Err}
use Rattle.std.proofs.Math.Path.{refl, ap, ap₂}
use Rattle.std.proofs.Common.{sym, ◌∙◌, inl, inr, arith, get_or-set_same, set-set, lt-ltb, ne_eqb}
use Rattle.std.proofs.Math.Bool.{cond}
use mathlib.Core.List.{List, ◌∷◌, ◌++◌, append_assoc}
use Prim.Native.Nat.{ℕ, zero, suc, ◌+◌, ◌≤◌, ◌<◌, min}
use lib.Dec.{leb}
use Rattle.std.proofs.Math.ListN.{length, get_or, set}
use Rattle.std.proofs.lemmas.Bool.{lt-leb}
use Rattle.bits.specs.Bits.{list_of}
use Rattle.theory.specs.declared.Task.{Task}
use Rattle.sheet.specs.declared.Chain.{Chain}
use Rattle.sheet.specs.Fields.{outside}
use Rattle.sheet.specs.Calls.{places, unused}
use Rattle.sheet.specs.PlaceLaws.{places_taken, places_set}
use Rattle.text.specs.declared.Key.TheVariants.{Chain as ChainKey}
use Rattle.text.specs.declared.Word.TheVariants.{Key as Keyword, Number, Known}
use Rattle.text.specs.declared.Want.{Want}
use Rattle.text.specs.declared.Want.TheVariants.{More, Chain as WantChain, Limit as WantLimit, LimitNumber, Entry as WantEntry, Entries}
use Rattle.text.specs.declared.Wrong.TheVariants.{Length as LengthRefused, Entry as EntryRefused, Repeat as RepeatRefused, Limit as LimitRefused, Chains as ChainsRefused}
use Rattle.text.specs.declared.Edition.{Edition}
use Rattle.text.specs.declared.Edition.TheVariants.{Two}
use Rattle.text.specs.declared.Draft.{Draft}
use Rattle.text.specs.declared.Place.TheVariants.{Between, Word as InWord}
use Rattle.text.specs.Shown.{numeral, chain_word, limit_word, joined, entry_word}
use Rattle.text.specs.Words.{every, says}
use Rattle.text.specs.Grammar.{wanting, with_chain, more, longer, repeated, at_entry, step, line_end}
use Rattle.text.specs.Run.{named_at, run}
use Rattle.text.specs.NumeralLaws.{numeral_long}
use Rattle.text.specs.RunWords.{stops, word_run, next_run, line_run}
use Rattle.text.specs.SaysLaws.{task_name, numeral_plain, name_plain, says_number, says_known}
use Rattle.text.specs.LineLaws.{allowed, none_passes, names, known, name_long, next}

-- a chain of these entries
abbrev pub chain_of : (ℕ → ℕ) → ℕ → ℕ → Chain
chain_of f m limit = record { entries = places 16 0 m f; length = m; limit = limit }

module _ (tasks : List Task) (n : ℕ) where
  -- all tasks typed, and so many chains
  abbrev pub chained : Want → Option Edition → List Chain → ℕ → Draft
  chained want edition chains c = record { tasks = tasks; chains = chains; edition = edition; count = n; suite = c; want = want }

  module _ (chains : List Chain) (c : ℕ) (f : ℕ → ℕ) (few : n ≤ 16) (room : c < length chains) where
    -- with this chain in the next place
    abbrev typing : Want → Option Edition → ℕ → ℕ → Draft
    typing want edition j limit = chained want edition (set chains c (chain_of f j limit)) c

    first_step : step (Keyword ChainKey) (chained More None chains c) ≡ Ok (typing WantLimit None 0 1000)
    unfolding step list_of
    first_step = refl

    later_step : c < 8 → step (Keyword ChainKey) (chained WantChain (Some Two) chains c) ≡ Ok (typing WantLimit (Some Two) 0 1000)
    unfolding step list_of
    later_step h = ap (λ t. cond t (Ok (typing WantLimit (Some Two) 0 1000)) (Err ChainsRefused)) (lt-ltb c 8 h)

    limit_step : (limit : ℕ) → limit ≤ 4000000 → step (Number limit) (typing LimitNumber (Some Two) 0 1000) ≡ Ok (typing WantEntry (Some Two) 0 limit)
    unfolding step
    limit_step limit h =
        let d : Draft = typing LimitNumber (Some Two) 0 1000 in
        ap (λ x. cond (outside 0 4000000 limit) (Err LimitRefused) (Ok (wanting WantEntry (with_chain (record { entries = x.entries; length = x.length; limit = limit }) d))))
        (get_or-set_same chains c (chain_of f 0 1000) unused room)
        ∙ ap (λ t. cond t (Err LimitRefused) (Ok (wanting WantEntry (with_chain (chain_of f 0 limit) d)))) (allowed 0 4000000 limit (omega arith) h)
        ∙ ap (λ l. Ok (chained WantEntry (Some Two) l c)) (set-set chains c (chain_of f 0 1000) (chain_of f 0 limit))

    entry_step : (want : Want) (edition : Option Edition) (j limit : ℕ) → j < n → f j < n → ((x : ℕ) → x < j → f x ≡ f j → ⊥)
        → at_entry (f j) (typing want edition j limit) ≡ Ok (typing Entries edition (suc j) limit)
    entry_step want edition j limit a b differ =
        let e = f j in
        let k : Chain = chain_of f j limit in
        let d : Draft = typing want edition j limit in
        let with : List ℕ → ℕ → Draft = λ l m. wanting Entries (with_chain (record { entries = l; length = m; limit = limit }) d) in
        ap (λ x. cond (leb n x.length) (Err LengthRefused) (cond (leb n e) (Err EntryRefused) (cond (repeated x.entries x.length e) (Err RepeatRefused) (Ok (wanting Entries (with_chain (longer x e) d))))))
        (get_or-set_same chains c k unused room)
        ∙ ap₂ (λ s t. cond s (Err LengthRefused) (cond t (Err EntryRefused) (cond (repeated k.entries j e) (Err RepeatRefused) (Ok (with (set k.entries j e) (more j 16)))))) (lt-leb n j a) (lt-leb n e b)
        ∙ ap (λ t. cond t (Err RepeatRefused) (Ok (with (set k.entries j e) (more j 16))))
        (none_passes (λ x. x == e) k.entries j 0 (λ x l m. ne_eqb (get_or k.entries x 0) e (λ q. differ x l (sym (places_taken 16 0 f j 0 x l (omega arith)) ∙ q))))
        ∙ ap₂ (λ l m. Ok (with l m)) {u = more j 16} {v = suc j} (places_set 16 0 f j (omega arith) ∙ ap (λ m. places 16 0 m f) {x = j + 1} {y = suc j} (omega arith)) (omega arith)
        ∙ ap (λ l. Ok (chained Entries edition l c)) (set-set chains c k (chain_of f (suc j) limit))

    -- ---- the entries

    after : (i k : ℕ) (rest : List ℕ) → stops (joined (λ x. entry_word (f x)) i k ++ (10 ∷ rest)) ≡ true
    unfolding joined stops entry_word
    after i zero rest = refl
    after i (suc k) rest = refl

    entry_run : (want : Want) (edition : Option Edition) (j k limit : ℕ) (rest : List ℕ) → step (Known (f j)) (typing want edition j limit) ≡ at_entry (f j) (typing want edition j limit)
        → named_at want (names n) n (task_name (f j)) ≡ names n → j < n → f j < n → ((x : ℕ) → x < j → f x ≡ f j → ⊥)
        → run (names n) InWord (typing want edition j limit) (joined (λ x. entry_word (f x)) j (suc k) ++ (10 ∷ rest)) ≡ run (names n) InWord (typing Entries edition (suc j) limit) (joined (λ x. entry_word (f x)) (suc j) k ++ (10 ∷ rest))
    unfolding joined entry_word
    entry_run want edition j k limit rest q o a b differ =
        let left = joined (λ x. entry_word (f x)) (suc j) k in
        ap (run (names n) InWord (typing want edition j limit)) (append_assoc (entry_word (f j)) left (10 ∷ rest))
        ∙ next_run (names n) (typing want edition j limit) (typing Entries edition (suc j) limit) (task_name (f j)) (left ++ (10 ∷ rest)) (name_long (f j)) (name_plain (f j)) (after (suc j) k rest)
        (ap (λ w. step w (typing want edition j limit)) (says_known (names n) n (omega arith) (known n few) (f j) b few) ∙ q ∙ entry_step want edition j limit a b differ)
        ∙ ap (λ l. run l InWord (typing Entries edition (suc j) limit) (left ++ (10 ∷ rest))) o

    entries_run : (edition : Option Edition) (limit : ℕ) (rest : List ℕ) (k j : ℕ) → j + k ≤ n → ((x : ℕ) → x < j + k → f x < n) → ((x y : ℕ) → x < j + k → y < j + k → f x ≡ f y → x ≡ y)
        → run (names n) InWord (typing Entries edition j limit) (joined (λ x. entry_word (f x)) j k ++ (10 ∷ rest)) ≡ run (names n) InWord (typing Entries edition (j + k) limit) (10 ∷ rest)
    unfolding joined step
    entries_run edition limit rest zero j h b differ = ap (λ m. run (names n) InWord (typing Entries edition m limit) (10 ∷ rest)) {x = j} {y = j + 0} (omega arith)
    entries_run edition limit rest (suc k) j h b differ =
        entry_run Entries edition j k limit rest refl refl (omega arith) (b j (omega arith)) (λ x l e. let q = differ x j (omega arith) (omega arith) e in omega arith)
        ∙ entries_run edition limit rest k (suc j) (omega arith) (λ x l. b x (omega arith)) (λ x y l m e. differ x y (omega arith) (omega arith) e)
        ∙ ap (λ m. run (names n) InWord (typing Entries edition m limit) (10 ∷ rest)) {x = suc j + k} {y = j + suc k} (omega arith)

    -- all of them, and the end of the line
    line_end_lem : (edition : Option Edition) (m limit : ℕ) (rest : List ℕ) → c < 8
        → run (names n) InWord (typing Entries edition m limit) (10 ∷ rest) ≡ run (names n) Between (chained WantChain edition (set chains c (chain_of f m limit)) (suc c)) rest
    unfolding line_end
    line_end_lem edition m limit rest h =
        line_run (names n) (typing Entries edition m limit) (chained WantChain edition (set chains c (chain_of f m limit)) (suc c)) rest
        (ap (λ k. Ok (chained WantChain edition (set chains c (chain_of f m limit)) k)) {x = min (c + 1) 8} {y = suc c} (omega arith))

    entries_end : (want : Want) (edition : Option Edition) (m limit : ℕ) (rest : List ℕ) → step (Known (f 0)) (typing want edition 0 limit) ≡ at_entry (f 0) (typing want edition 0 limit)
        → named_at want (names n) n (task_name (f 0)) ≡ names n
        → 1 ≤ m → m ≤ n → ((x : ℕ) → x < m → f x < n) → ((x y : ℕ) → x < m → y < m → f x ≡ f y → x ≡ y) → c < 8
        → run (names n) InWord (typing want edition 0 limit) (joined (λ x. entry_word (f x)) 0 m ++ (10 ∷ rest)) ≡ run (names n) Between (chained WantChain edition (set chains c (chain_of f m limit)) (suc c)) rest
    entries_end want edition zero limit rest q o a h b differ g = absurd (omega arith)
    entries_end want edition (suc k) limit rest q o a h b differ g =
        entry_run want edition 0 k limit rest q o (omega arith) (b 0 (omega arith)) (λ x l e. absurd (omega arith))
        ∙ entries_run edition limit rest k 1 (omega arith) (λ x l. b x (omega arith)) (λ x y l m e. differ x y (omega arith) (omega arith) e)
        ∙ ap (λ m. run (names n) InWord (typing Entries edition m limit) (10 ∷ rest)) {x = 1 + k} {y = suc k} (omega arith)
        ∙ line_end_lem edition (suc k) limit rest g

    -- a chain without a limit, the first
    pub old_run : (m : ℕ) (rest : List ℕ) → 1 ≤ m → m ≤ n → ((x : ℕ) → x < m → f x < n) → ((x y : ℕ) → x < m → y < m → f x ≡ f y → x ≡ y) → c < 8
        → run (names n) Between (chained More None chains c) (chain_word ++ (joined (λ x. entry_word (f x)) 0 m ++ (10 ∷ rest))) ≡ run (names n) Between (chained WantChain None (set chains c (chain_of f m 1000)) (suc c)) rest
    unfolding every says step
    old_run m rest a h b differ g =
        word_run (names n) (chained More None chains c) (typing WantLimit None 0 1000) chain_word (joined (λ x. entry_word (f x)) 0 m ++ (10 ∷ rest)) (omega arith) refl (after 0 m rest) first_step
        ∙ entries_end WantLimit None m 1000 rest refl refl a h b differ g

    -- a chain with a limit: the first, or a later one
    pub new_run : (want : Want) (edition : Option Edition) (m limit : ℕ) (rest : List ℕ) → ((want ≡ More) × (edition ≡ None)) ⊎ ((want ≡ WantChain) × (edition ≡ Some Two)) → limit ≤ 4000000
        → 1 ≤ m → m ≤ n → ((x : ℕ) → x < m → f x < n) → ((x y : ℕ) → x < m → y < m → f x ≡ f y → x ≡ y) → c < 8
        → run (names n) Between (chained want edition chains c) (chain_word ++ next limit_word (next (numeral limit) (joined (λ x. entry_word (f x)) 0 m ++ (10 ∷ rest))))
        ≡ run (names n) Between (chained WantChain (Some Two) (set chains c (chain_of f m limit)) (suc c)) rest
    unfolding stops every says step
    new_run want edition m limit rest w l a h b differ g =
        first w
        ∙ next_run (names n) (typing LimitNumber (Some Two) 0 1000) (typing WantEntry (Some Two) 0 limit) (numeral limit) entries (numeral_long limit) (numeral_plain limit) (after 0 m rest)
        (ap (λ x. step x (typing LimitNumber (Some Two) 0 1000)) (says_number (names n) n limit (omega arith)) ∙ limit_step limit l)
        ∙ entries_end WantEntry (Some Two) m limit rest refl refl a h b differ g
      where
        entries : List ℕ
        entries = joined (λ x. entry_word (f x)) 0 m ++ (10 ∷ rest)

        number : List ℕ
        number = next (numeral limit) entries

        first : ((want ≡ More) × (edition ≡ None)) ⊎ ((want ≡ WantChain) × (edition ≡ Some Two)) → run (names n) Between (chained want edition chains c) (chain_word ++ next limit_word number) ≡ run (names n) InWord (typing LimitNumber (Some Two) 0 1000) number
        first (inl q) =
            ap₂ (λ x y. run (names n) Between (chained x y chains c) (chain_word ++ next limit_word number)) q.0 q.1
            ∙ word_run (names n) (chained More None chains c) (typing WantLimit None 0 1000) chain_word (next limit_word number) (omega arith) refl refl first_step
            ∙ next_run (names n) (typing WantLimit None 0 1000) (typing LimitNumber (Some Two) 0 1000) limit_word number (omega arith) refl refl refl
        first (inr q) =
            ap₂ (λ x y. run (names n) Between (chained x y chains c) (chain_word ++ next limit_word number)) q.0 q.1
            ∙ word_run (names n) (chained WantChain (Some Two) chains c) (typing WantLimit (Some Two) 0 1000) chain_word (next limit_word number) (omega arith) refl refl (later_step g)
            ∙ next_run (names n) (typing WantLimit (Some Two) 0 1000) (typing LimitNumber (Some Two) 0 1000) limit_word number (omega arith) refl refl refl
