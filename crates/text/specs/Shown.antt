-- The text of a sheet: a line for each task, and one for each chain.
use Rattle.std.specs.Prelude.{cond, List, [], ◌∷◌, ◌++◌, ℕ, zero, suc, ◌/◌, min, ltb, eqb, get_or}
use Rattle.io.specs.Digits.{last_digits}
use Rattle.theory.specs.declared.Task.{Task}
use Rattle.theory.specs.Model.Schedule.{none}
use Rattle.sheet.specs.declared.Chain.{Chain}
use Rattle.sheet.specs.declared.Sheet.{Sheet}
use Rattle.sheet.specs.Fields.{idle}

-- How many digits a number has: one, and one more for each time that it can be divided by ten; ten are enough for 32 bits.
unfoldable pub places : ℕ → ℕ → ℕ
places zero n = 1
places (suc k) n = cond (ltb n 10) 1 (suc (places k (n / 10)))

unfoldable pub numeral : ℕ → List ℕ
numeral n = last_digits 10 (places 9 n) n

-- The words of a text, and the end of a line.
abbrev pub task_word : List ℕ
task_word = 116 ∷ 97 ∷ 115 ∷ 107 ∷ []

abbrev pub period_word : List ℕ
period_word = 112 ∷ 101 ∷ 114 ∷ 105 ∷ 111 ∷ 100 ∷ []

abbrev pub budget_word : List ℕ
budget_word = 98 ∷ 117 ∷ 100 ∷ 103 ∷ 101 ∷ 116 ∷ []

abbrev pub rank_word : List ℕ
rank_word = 114 ∷ 97 ∷ 110 ∷ 107 ∷ []

abbrev pub chain_word : List ℕ
chain_word = 99 ∷ 104 ∷ 97 ∷ 105 ∷ 110 ∷ []

abbrev pub limit_word : List ℕ
limit_word = 108 ∷ 105 ∷ 109 ∷ 105 ∷ 116 ∷ []

abbrev pub new_line : List ℕ
new_line = 10 ∷ []

-- " period "
abbrev pub spaced : List ℕ → List ℕ
spaced word = 32 ∷ (word ++ (32 ∷ []))

-- "task task0 period 20 budget 5 rank 1"
unfoldable pub task_line : ℕ → Task → List ℕ
task_line i t =
    ((task_word ++ (32 ∷ task_word)) ++ numeral i)
    ++ ((spaced period_word ++ numeral t.period) ++ ((spaced budget_word ++ numeral t.budget) ++ ((spaced rank_word ++ numeral t.rank) ++ new_line)))

-- f i, f (i + 1) and so on, k of them.
unfoldable pub joined : (ℕ → List ℕ) → ℕ → ℕ → List ℕ
joined f i zero = []
joined f i (suc k) = f i ++ joined f (suc i) k

abbrev pub task_lines : List Task → ℕ → List ℕ
task_lines tasks n = joined (λ i. task_line i (get_or tasks i none)) 0 n

-- " task0"
unfoldable pub entry_word : ℕ → List ℕ
entry_word e = (32 ∷ task_word) ++ numeral e

abbrev pub entry_words : List ℕ → ℕ → List ℕ
entry_words entries m = joined (λ i. entry_word (get_or entries i 0)) 0 m

-- " limit 1000", which an old sheet lacks
unfoldable pub limit_words : ℕ → ℕ → List ℕ
limit_words edition limit = cond (eqb edition 1) [] (spaced limit_word ++ numeral limit)

-- "chain limit 1000 task0 task1"
unfoldable pub chain_line : ℕ → Chain → List ℕ
chain_line edition chain = chain_word ++ (limit_words edition chain.limit ++ (entry_words chain.entries (min chain.length 16) ++ new_line))

abbrev pub chain_lines : ℕ → List Chain → ℕ → List ℕ
chain_lines edition chains m = joined (λ c. chain_line edition (get_or chains c idle)) 0 m

-- "old sheets .. use chain one"
abbrev pub chain_count : Sheet → ℕ
chain_count s = cond (eqb s.edition 1) 1 (min s.suite 8)

unfoldable pub text_of : Sheet → List ℕ
text_of s = task_lines s.tasks (min s.count 16) ++ chain_lines s.edition s.chains (chain_count s)
