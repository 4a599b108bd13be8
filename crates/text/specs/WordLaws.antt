-- Laws of words, for what the code finds by the library's methods.
use Rattle.std.specs.Prelude.{◌≡◌, refl, Bool, true, false, ◌&&◌, List, [], ◌∷◌, ℕ, suc, ◌+◌, ◌≤◌, ◌<◌, ltb, length, get_or, take, drop, Option, Some, None, unwrap_or}
use Rattle.std.proofs.Common.{sym, ap, ◌∙◌, arith, ltb-false, drop-cons}
use Rattle.std.proofs.Math.Decide.{dec_lt}
use Rattle.std.proofs.Math.ListN.{get_or-eq_default}
use Rattle.std.proofs.Math.Bool.{cond, not}
use Rattle.std.proofs.lemmas.Bool.{false≢true}
use Rattle.std.proofs.lemmas.List.Sums.{prefix_len-le-length}
use Rattle.std.specs.List.{list_all, prefix_len, position_or_len}
use Rattle.text.specs.Words.{ends, word, every}

-- The word at a place of a text: a byte, and what follows it.
pub word_at : (text : List ℕ) (i d : ℕ) → i < length text → word (drop i text) ≡ cond (ends (get_or text i d)) [] (get_or text i d ∷ word (drop (i + 1) text))
unfolding word
word_at text i d h = ap word (drop-cons text i d h) ∙ ap (λ j. cond (ends (get_or text i d)) [] (get_or text i d ∷ word (drop j text))) {x = suc i} {y = i + 1} (omega arith)

-- Past the end there is the end of a line.
pub past_ends : (text : List ℕ) (i : ℕ) → length text ≤ i → ends (get_or text i 10) ≡ true
past_ends text i h = ap ends (get_or-eq_default text 10 h)

pub inside : (text : List ℕ) (i : ℕ) → ends (get_or text i 10) ≡ false → i < length text
inside text i e = go (dec_lt i (length text))
  where
    go : Dec (i < length text) → i < length text
    go (yes l) = l
    go (no l) = absurd (false≢true (sym e ∙ past_ends text i (omega arith)))

-- The word at the front goes to the first byte that ends it.
pub take_word : (text : List ℕ) → take (position_or_len ends text) text ≡ word text
unfolding word
take_word [] = refl
take_word (b ∷ text) = go (ends b) (take_word text)
  where
    go : (t : Bool) → take (position_or_len ends text) text ≡ word text → take (cond (not t) (1 + prefix_len (λ x. not (ends x)) text) 0) (b ∷ text) ≡ cond t [] (b ∷ word text)
    go true h = refl
    go false h = ap (λ k. take k (b ∷ text)) {x = 1 + prefix_len (λ x. not (ends x)) text} {y = suc (prefix_len (λ x. not (ends x)) text)} (omega arith) ∙ ap (λ l. b ∷ l) h

pub every_is : (test : ℕ → Bool) (w : List ℕ) → list_all test w ≡ every test w
unfolding every
every_is test [] = refl
every_is test (b ∷ w) = go (test b) (every_is test w)
  where
    go : (t : Bool) → list_all test w ≡ every test w → (t && list_all test w) ≡ cond t (every test w) false
    go true h = h
    go false h = refl

-- what `position` found, or the length
pub found_end : (test : ℕ → Bool) (text : List ℕ) (r : Option ℕ) (k : ℕ) → r ≡ cond (ltb (position_or_len test text) (length text)) (Some (position_or_len test text)) None
    → k ≡ unwrap_or r (length text) → k ≡ position_or_len test text
found_end test text r k e q = q ∙ ap (λ o. unwrap_or o (length text)) e ∙ go (ltb (position_or_len test text) (length text)) refl
  where
    go : (b : Bool) → ltb (position_or_len test text) (length text) ≡ b → unwrap_or (cond b (Some (position_or_len test text)) None) (length text) ≡ position_or_len test text
    go true p = refl
    go false p = omega (arith, ltb-false (position_or_len test text) (length text) p, prefix_len-le-length (λ x. not (test x)) text)
