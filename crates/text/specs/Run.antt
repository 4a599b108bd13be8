-- A text read byte by byte: words, line ends and comments.
use Rattle.std.specs.Prelude.{Bool, true, false, cond, List, [], ◌∷◌, ℕ, ◌+◌, ◌-◌, ltb, eqb, length, take, set, replicate, Result, Ok, Err}
use Rattle.sheet.specs.declared.Sheet.{Sheet}
use Rattle.text.specs.declared.Want.{Want}
use Rattle.text.specs.declared.Want.TheVariants.{Name}
use Rattle.text.specs.declared.Wrong.{Wrong}
use Rattle.text.specs.declared.Wrong.TheVariants.{TooLong}
use Rattle.text.specs.declared.Fault.{Fault}
use Rattle.text.specs.declared.Draft.{Draft}
use Rattle.text.specs.declared.Place.{Place}
use Rattle.text.specs.declared.Place.TheVariants.{Between, Word as InWord, Comment}
use Rattle.text.specs.Words.{ends, word, says}
use Rattle.text.specs.Grammar.{fresh, step, line_end, text_end, typed}

-- Where the byte after this one stands on the same line: a comment goes to its end.
abbrev pub place_on : Place → ℕ → Place
place_on Comment b = Comment
place_on p b = cond (eqb b 35) Comment (cond (ends b) Between InWord)

-- The end of a line ends all.
unfoldable pub place_after : Place → ℕ → Place
place_after p b = cond (eqb b 10) Between (place_on p b)

-- A word begins at this byte.
unfoldable pub begins : Place → ℕ → Bool
begins Between b = cond (ends b) false true
begins p b = false

-- What the byte at the front of what is left does.
unfoldable pub turn : List (List ℕ) → Place → Draft → ℕ → List ℕ → Result Draft Wrong
turn names p d b w = cond (eqb b 10) (line_end d) (cond (begins p b) (step (says names d.count w) d) (Ok d))

-- The names that tasks have: that of task k, which is being read, too, where a name is wanted.
abbrev pub named_at : Want → List (List ℕ) → ℕ → List ℕ → List (List ℕ)
named_at Name names k w = set names k w
named_at want names k w = names

unfoldable pub named : List (List ℕ) → Place → Draft → ℕ → List ℕ → List (List ℕ)
named names p d b w = cond (begins p b) (named_at d.want names d.count w) names

-- What is wrong, and what is left of the text from there on.
pub record Stop : Type 0 where
  pub wrong : Wrong
  pub rest : List ℕ

-- What comes next, unless something is wrong where so much is left.
abbrev pub goes_on : List ℕ → Result Draft Wrong → (Draft → Result Draft Stop) → Result Draft Stop
goes_on rest (Ok d) next = next d
goes_on rest (Err wrong) next = Err (record { wrong = wrong; rest = rest })

unfoldable pub run : List (List ℕ) → Place → Draft → List ℕ → Result Draft Stop
run names p d [] = goes_on [] (text_end d) (λ e. Ok e)
run names p d (b ∷ bs) = goes_on (b ∷ bs) (turn names p d b (word (b ∷ bs))) (λ e. run (named names p d b (word (b ∷ bs))) (place_after p b) e bs)

abbrev pub nameless : List (List ℕ)
nameless = replicate 16 []

-- ---- lines and columns, from 1

unfoldable pub line_after : ℕ → List ℕ → ℕ
line_after line [] = line
line_after line (b ∷ bs) = line_after (cond (eqb b 10) (line + 1) line) bs

unfoldable pub column_after : ℕ → List ℕ → ℕ
column_after column [] = column
column_after column (b ∷ bs) = column_after (cond (eqb b 10) 1 (column + 1)) bs

-- What is wrong, after so much of the text.
abbrev pub faulty : Wrong → List ℕ → Fault
faulty wrong front = record { wrong = wrong; line = line_after 1 front; column = column_after 1 front }

abbrev pub placed : List ℕ → Result Draft Wrong → Result Draft Fault
placed front (Ok d) = Ok d
placed front (Err wrong) = Err (faulty wrong front)

abbrev pub located : List ℕ → Result Draft Stop → Result Draft Fault
located text (Ok d) = Ok d
located text (Err stop) = placed (take (length text - length stop.rest) text) (Err stop.wrong)

abbrev pub settled : Result Draft Fault → Result Sheet Fault
settled (Ok d) = Ok (typed d)
settled (Err fault) = Err fault

-- "texts over 16 KiB are refused as too long"
unfoldable pub parse_of : List ℕ → Result Sheet Fault
parse_of text = cond (ltb 16384 (length text)) (Err (faulty TooLong (take 16384 text))) (settled (located text (run nameless Between fresh text)))
