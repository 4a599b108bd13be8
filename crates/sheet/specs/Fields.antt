-- The fields of a timing sheet: order, width and what is allowed (document 01, 'The timing sheet', and document 02, P3).
use Rattle.std.specs.Prelude.{Bool, true, false, cond, List, [], ◌∷◌, ◌++◌, ℕ, zero, suc, ◌+◌, min, ltb, leb, eqb, get_or}
use Rattle.theory.specs.Model.Schedule.{none}
use Rattle.sheet.specs.declared.Sheet.{Sheet}
use Rattle.sheet.specs.declared.Chain.{Chain}
use Rattle.sheet.specs.declared.Field.{Field}
use Rattle.sheet.specs.declared.Field.TheVariants.{Mark, Edition, Count, Period, Budget, Rank, Chains, Limit, Length, Entry}
use Rattle.answers.specs.Answers.{given, refused, Judgement, fine, when, also}

-- What stands in each field: on a sheet in memory, or in bits.
abbrev pub Values : Type 0
Values = Field → ℕ

-- The kinds of sheet: "five bits of 31" mark a new one, "other first bits mean an old sheet".
pub data Kind : Type 0 where
  old : Kind
  new : Kind

abbrev pub kind_of : Values → Kind
kind_of v = cond (eqb (v Mark) 31) new old

-- ---- the order

-- What an old sheet lacks.
abbrev pub only : Kind → Field → List Field
only old f = []
only new f = f ∷ []

-- How many tasks, chains and entries have places: "all sixteen", and eight chains; "old sheets .. use chain one".
abbrev pub tasks : Values → ℕ
tasks v = min (v Count) 16

abbrev pub chains : Kind → Values → ℕ
chains old v = 1
chains new v = min (v Chains) 8

abbrev pub entries : Values → ℕ → ℕ
entries v c = min (v (Length c)) 16

-- "per task: T, C, rank"
unfoldable pub task_fields : ℕ → ℕ → List Field
task_fields i zero = []
task_fields i (suc k) = Period i ∷ Budget i ∷ Rank i ∷ task_fields (suc i) k

-- "per entry: task index"
unfoldable pub entry_fields : ℕ → ℕ → ℕ → List Field
entry_fields c i zero = []
entry_fields c i (suc k) = Entry c i ∷ entry_fields c (suc i) k

-- "per chain a limit .., its length and its entries"
unfoldable pub chain_fields : Kind → Values → ℕ → ℕ → List Field
chain_fields kind v c zero = []
chain_fields kind v c (suc k) = only kind (Limit c) ++ (Length c ∷ (entry_fields c 0 (entries v c) ++ chain_fields kind v (suc c) k))

-- "five bits of 31, four bits holding 2, task count and tasks as before, a chain count", and the chains.
abbrev pub ordered : Kind → Values → List Field
ordered kind v = only kind Mark ++ (only kind Edition ++ (Count ∷ (task_fields 0 (tasks v) ++ (only kind Chains ++ chain_fields kind v 0 (chains kind v)))))

abbrev pub fields : Values → List Field
fields v = ordered (kind_of v) v

-- ---- "bits"

abbrev pub width : Field → ℕ
width Mark = 5
width Edition = 4
width Count = 5
width (Period i) = 17
width (Budget i) = 17
width (Rank i) = 8
width Chains = 4
width (Limit c) = 22
width (Length c) = 5
width (Entry c i) = 4

unfoldable pub widths : List Field → ℕ
widths [] = 0
widths (f ∷ fs) = width f + widths fs

-- ---- what a sheet in memory holds in a field

-- A chain past the eight places.
abbrev pub idle : Chain
idle = record { entries = []; length = 0; limit = 0 }

-- "The sheet in memory holds edition (1 for old sheets ..)": any other has a mark.
abbrev pub value : Sheet → Values
value s Mark = cond (eqb s.edition 1) 0 31
value s Edition = s.edition
value s Count = s.count
value s (Period i) = (get_or s.tasks i none).period
value s (Budget i) = (get_or s.tasks i none).budget
value s (Rank i) = (get_or s.tasks i none).rank
value s Chains = s.suite
value s (Limit c) = (get_or s.chains c idle).limit
value s (Length c) = (get_or s.chains c idle).length
value s (Entry c i) = get_or (get_or s.chains c idle).entries i 0

-- ---- "allowed", and the number of the refusal where it is not

-- v is below low or above high
abbrev pub outside : ℕ → ℕ → ℕ → Bool
outside low high v = cond (ltb v low) true (ltb high v)

-- v is one of f 0, .. f (i − 1)
unfoldable pub among : (ℕ → ℕ) → ℕ → ℕ → Bool
among f zero v = false
among f (suc i) v = cond (eqb (f i) v) true (among f i v)

-- "16 edition not 2", "17 chain count 0 or over 8", "13 at the limit field"; 8 looks at its own chain.
abbrev pub judged : Kind → Values → Field → Judgement
judged kind v Mark = fine
judged kind v Edition = when (outside 2 2 (v Edition)) 16
judged kind v Count = when (outside 1 16 (v Count)) 2
judged kind v (Period i) = when (outside 1 100000 (v (Period i))) 3
judged kind v (Budget i) = when (outside 1 (v (Period i)) (v (Budget i))) 4
judged kind v (Rank i) = when (among (λ j. v (Rank j)) i (v (Rank i))) 5
judged kind v Chains = when (outside 1 8 (v Chains)) 17
judged kind v (Limit c) = when (outside 0 4000000 (v (Limit c))) 13
judged kind v (Length c) = when (outside 1 (v Count) (v (Length c))) 6
judged kind v (Entry c i) = also (when (leb (v Count) (v (Entry c i))) 7) (when (among (λ j. v (Entry c j)) i (v (Entry c i))) 8)

-- "Give with numbers 1 to 9 the bit offset where the judged field begins"; a later number comes alone.
abbrev pub offset : ℕ → ℕ → List ℕ
offset number at = cond (leb number 9) (at ∷ []) []

abbrev pub with_offset : ℕ → Judgement → Judgement
with_offset at (given u) = given u
with_offset at (refused number values) = refused number (offset number at)

-- Fields judged one after the other with "no gaps", the first at bit `at`: the first refusal counts.
unfoldable pub in_order : (ℕ → Field → Judgement) → ℕ → List Field → Judgement
in_order judge at [] = fine
in_order judge at (f ∷ fs) = also (judge at f) (in_order judge (at + width f) fs)
