-- The words of a text: where one ends, and what it says.
use Rattle.std.specs.Prelude.{Bool, true, false, cond, List, [], ◌∷◌, ℕ, zero, suc, ◌+◌, ◌-◌, ◌*◌, min, ltb, eqb, get_or, Option, Some, None}
use Rattle.std.specs.Str.{bytes_eq}
use Rattle.text.specs.declared.Key.{Key}
use Rattle.text.specs.declared.Key.TheVariants.{Edition, Task, Period, Budget, Rank, Chain, Limit}
use Rattle.text.specs.declared.Word.{Word}
use Rattle.text.specs.declared.Word.TheVariants.{Key as Keyword, Number, Known, New, Other}
use Rattle.text.specs.Shown.{task_word, period_word, budget_word, rank_word, chain_word, limit_word}

-- A blank (space, tab, CR), the end of a line or a # ends a word.
abbrev pub ends : ℕ → Bool
ends b = cond (eqb b 32) true (cond (eqb b 9) true (cond (eqb b 13) true (cond (eqb b 10) true (eqb b 35))))

-- The word at the front.
unfoldable pub word : List ℕ → List ℕ
word [] = []
word (b ∷ bs) = cond (ends b) [] (b ∷ word bs)

-- Every byte passes.
unfoldable pub every : (ℕ → Bool) → List ℕ → Bool
every test [] = true
every test (b ∷ bs) = cond (test b) (every test bs) false

-- ---- numbers and names

abbrev pub between : ℕ → ℕ → ℕ → Bool
between low high b = cond (ltb b low) false (cond (ltb high b) false true)

abbrev pub digit : ℕ → Bool
digit b = between 48 57 b

-- "letters, digits, `-` and `_`"
abbrev pub name_byte : ℕ → Bool
name_byte b = cond (between 48 57 b) true (cond (between 65 90 b) true (cond (between 97 122 b) true (cond (eqb b 45) true (eqb b 95))))

-- One more digit; what is over 32 bits counts as the greatest number of 32.
unfoldable pub tenfold : ℕ → ℕ → ℕ
tenfold v b = min (v * 10 + (b - 48)) 4294967295

unfoldable pub number : ℕ → List ℕ → ℕ
number v [] = v
number v (b ∷ bs) = number (tenfold v b) bs

-- The task before task k that has this name.
unfoldable pub index : List (List ℕ) → ℕ → List ℕ → Option ℕ
index names zero w = None
index names (suc i) w = cond (bytes_eq (get_or names i []) w) (Some i) (index names i w)

-- ---- what a word says

abbrev pub edition_word : List ℕ
edition_word = 101 ∷ 100 ∷ 105 ∷ 116 ∷ 105 ∷ 111 ∷ 110 ∷ []

-- A word of the grammar.
abbrev pub keyword : List ℕ → Option Key
keyword w =
    cond (bytes_eq w edition_word) (Some Edition) (cond (bytes_eq w task_word) (Some Task) (cond (bytes_eq w period_word) (Some Period) (cond (bytes_eq w budget_word) (Some Budget)
    (cond (bytes_eq w rank_word) (Some Rank) (cond (bytes_eq w chain_word) (Some Chain) (cond (bytes_eq w limit_word) (Some Limit) None))))))

-- A name that a task has says that task.
abbrev pub name_says : Option ℕ → Word
name_says (Some i) = Known i
name_says None = New

abbrev pub or_says : Option Key → Word → Word
or_says (Some key) w = Keyword key
or_says None w = w

-- A keyword, a number with its value, the name of one of the 16 tasks, a new name, or none of these.
unfoldable pub says : List (List ℕ) → ℕ → List ℕ → Word
says names count w =
    or_says (keyword w)
    (cond (every digit w) (Number (number 0 w))
    (cond (every name_byte w) (name_says (index names (min count 16) w)) Other))
