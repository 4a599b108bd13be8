-- How long a shown text can be.
use Rattle.std.specs.Prelude.{◌≡◌, refl, Bool, true, false, cond, List, [], ◌∷◌, ◌++◌, ℕ, zero, suc, ◌*◌, ◌/◌, ◌%◌, ◌≤◌, min, eqb, length, get_or}
use Rattle.std.proofs.Common.{mul-suc, arith, length-append}
use Rattle.io.specs.Digits.{hex_digit_ascii, last_digits}
use Rattle.theory.specs.declared.Task.{Task}
use Rattle.theory.specs.Model.Schedule.{none}
use Rattle.sheet.specs.declared.Chain.{Chain}
use Rattle.sheet.specs.declared.Sheet.{Sheet}
use Rattle.sheet.specs.Fields.{idle}
use Rattle.text.specs.Shown.{places, numeral, limit_word, new_line, spaced, task_line, task_lines, joined, entry_word, entry_words, limit_words, chain_line, chain_lines, chain_count, text_of}
use Rattle.text.specs.NumeralLaws.{places_most}

length_digits : (k n : ℕ) → length (last_digits 10 k n) ≡ k
length_digits zero n = refl
length_digits (suc k) n = omega (arith, length-append (last_digits 10 k (n / 10)) (hex_digit_ascii (n % 10) ∷ []), length_digits k (n / 10))

pub numeral_short : (n : ℕ) → length (numeral n) ≤ 10
unfolding numeral
numeral_short n = omega (arith, length_digits (places 9 n) n, places_most 9 n)

joined_short : (f : ℕ → List ℕ) (most : ℕ) → ((i : ℕ) → length (f i) ≤ most) → (k i : ℕ) → length (joined f i k) ≤ most * k
unfolding joined
joined_short f most h zero i = omega arith
joined_short f most h (suc k) i = omega (arith, length-append (f i) (joined f (suc i) k), h i, joined_short f most h k (suc i), mul-suc most k)

task_short : (i : ℕ) (t : Task) → length (task_line i t) ≤ 72
unfolding task_line
task_short i t = simp length-append (omega (arith, numeral_short i, numeral_short t.period, numeral_short t.budget, numeral_short t.rank))

entry_short : (e : ℕ) → length (entry_word e) ≤ 15
unfolding entry_word
entry_short e = omega (arith, numeral_short e)

limit_short : (edition limit : ℕ) → length (limit_words edition limit) ≤ 17
unfolding limit_words
limit_short edition limit = go (eqb edition 1)
  where
    go : (b : Bool) → length (cond b [] (spaced limit_word ++ numeral limit)) ≤ 17
    go true = omega arith
    go false = omega (arith, numeral_short limit)

chain_short : (edition : ℕ) (chain : Chain) → length (chain_line edition chain) ≤ 263
unfolding chain_line
chain_short edition chain =
    let limit = limit_words edition chain.limit in
    let entries = entry_words chain.entries (min chain.length 16) in
    omega (
      arith,
      length-append limit (entries ++ new_line),
      length-append entries new_line,
      limit_short edition chain.limit,
      joined_short (λ i. entry_word (get_or chain.entries i 0)) 15 (λ i. entry_short (get_or chain.entries i 0)) (min chain.length 16) 0,
    )

count_few : (s : Sheet) → chain_count s ≤ 8
count_few s = go (eqb s.edition 1)
  where
    go : (b : Bool) → cond b 1 (min s.suite 8) ≤ 8
    go true = omega arith
    go false = omega arith

-- A buffer of 4,096 bytes serves every sheet.
pub text_short : (s : Sheet) → length (text_of s) ≤ 3256
unfolding text_of
text_short s =
    let tasks = task_lines s.tasks (min s.count 16) in
    let chains = chain_lines s.edition s.chains (chain_count s) in
    omega (
      arith,
      length-append tasks chains,
      count_few s,
      joined_short (λ i. task_line i (get_or s.tasks i none)) 72 (λ i. task_short i (get_or s.tasks i none)) (min s.count 16) 0,
      joined_short (λ c. chain_line s.edition (get_or s.chains c idle)) 263 (λ c. chain_short s.edition (get_or s.chains c idle)) (chain_count s) 0,
    )
