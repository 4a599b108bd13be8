-- A text read word by word: what is wanted next, and what each word adds to the sheet. What is not wanted, or not allowed, is wrong: a mistake
-- by what was wanted or by a number of its own, or a refusal of the sheet.
use Rattle.std.specs.Prelude.{Bool, ◌==◌, cond, List, ℕ, ◌+◌, min, ltb, leb, eqb, get_or, set, take, Option, Some, None, Result, Ok, Err}
use Rattle.std.specs.List.{list_any}
use Rattle.theory.specs.declared.Task.{Task}
use Rattle.theory.specs.Model.Schedule.{none}
use Rattle.sheet.specs.declared.Chain.{Chain}
use Rattle.sheet.specs.declared.Sheet.{Sheet}
use Rattle.sheet.specs.Fields.{idle, outside}
use Rattle.sheet.specs.Calls.{places, unused}
use Rattle.sheet.specs.Conversions.{old_limit}
use Rattle.text.specs.declared.Key.TheVariants.{Edition as EditionKey, Task as TaskKey, Period as PeriodKey, Budget as BudgetKey, Rank as RankKey, Chain as ChainKey, Limit as LimitKey}
use Rattle.text.specs.declared.Word.{Word}
use Rattle.text.specs.declared.Word.TheVariants.{Key as Keyword, Number, Known, New}
use Rattle.text.specs.declared.Want.{Want}
use Rattle.text.specs.declared.Want.TheVariants.{Opening, Task as WantTask, More, Chain as WantChain, Edition as WantEdition, EditionEnd, Name, Period as WantPeriod, PeriodNumber, Budget as WantBudget, BudgetNumber, Rank as WantRank, RankNumber, TaskEnd, Limit as WantLimit, LimitNumber, Entry as WantEntry, Entries}
use Rattle.text.specs.declared.Wrong.{Wrong}
use Rattle.text.specs.declared.Wrong.TheVariants.{Missing, NameTwice, NameUnknown, RankTooGreat, LimitInEditionOne, ChainInEditionOne, TooLong, Tasks as TasksRefused, Period as PeriodRefused, Budget as BudgetRefused, Rank as RankRefused, Length as LengthRefused, Entry as EntryRefused, Repeat as RepeatRefused, Limit as LimitRefused, Edition as EditionRefused, Chains as ChainsRefused}
use Rattle.text.specs.declared.Edition.{Edition}
use Rattle.text.specs.declared.Edition.TheVariants.{One, Two}
use Rattle.text.specs.declared.Draft.{Draft}

-- ---- what is wrong, by its number

-- What is wanted next, and so the number of the mistake where it is not there.
abbrev pub want_number : Want → ℕ
want_number Opening = 1
want_number WantTask = 2
want_number More = 3
want_number WantChain = 4
want_number WantEdition = 5
want_number EditionEnd = 6
want_number Name = 7
want_number WantPeriod = 8
want_number PeriodNumber = 9
want_number WantBudget = 10
want_number BudgetNumber = 11
want_number WantRank = 12
want_number RankNumber = 13
want_number TaskEnd = 14
want_number WantLimit = 15
want_number LimitNumber = 16
want_number WantEntry = 17
want_number Entries = 18

-- A refusal, by the documents' number.
abbrev pub refused_with : ℕ → ℕ
refused_with number = 100 + number

abbrev pub number_of : Wrong → ℕ
number_of (Missing want) = want_number want
number_of NameTwice = 19
number_of NameUnknown = 20
number_of RankTooGreat = 21
number_of LimitInEditionOne = 22
number_of ChainInEditionOne = 23
number_of TooLong = 24
number_of TasksRefused = refused_with 2
number_of PeriodRefused = refused_with 3
number_of BudgetRefused = refused_with 4
number_of RankRefused = refused_with 5
number_of LengthRefused = refused_with 6
number_of EntryRefused = refused_with 7
number_of RepeatRefused = refused_with 8
number_of LimitRefused = refused_with 13
number_of EditionRefused = refused_with 16
number_of ChainsRefused = refused_with 17

-- ---- a sheet that is being typed

-- Nothing typed; the edition is not said.
unfoldable pub fresh : Draft
fresh = record { tasks = places 16 none 0 (λ i. none); chains = places 8 unused 0 (λ c. unused); edition = None; count = 0; suite = 0; want = Opening }

abbrev pub wanting : Want → Draft → Draft
wanting want d = record d { want = want }

-- What was wanted is not there.
abbrev pub missing : Draft → Result Draft Wrong
missing d = Err (Missing d.want)

abbrev pub with_edition : Edition → Draft → Draft
with_edition edition d = record d { edition = Some edition }

-- The task and the chain of the line that is being read stand in the next places.
abbrev pub task_in : Draft → Task
task_in d = get_or d.tasks d.count none

abbrev pub with_task : Task → Draft → Draft
with_task t d = record d { tasks = set d.tasks d.count t }

abbrev pub chain_in : Draft → Chain
chain_in d = get_or d.chains d.suite unused

abbrev pub with_chain : Chain → Draft → Draft
with_chain c d = record d { chains = set d.chains d.suite c }

-- One more of them.
abbrev pub more : ℕ → ℕ → ℕ
more k room = min (k + 1) room

abbrev pub task_more : Draft → Draft
task_more d = record d { count = more d.count 16 }

abbrev pub chain_more : Draft → Draft
chain_more d = record d { suite = more d.suite 8 }

-- ---- the words in the order of the text

-- A chain with no limit is under 1,000, the limit that an old sheet's chain has.
abbrev pub opened : Draft → Draft
opened d = wanting WantLimit (with_chain (record { entries = unused.entries; length = 0; limit = old_limit }) d)

-- `task`, after the first one
abbrev pub next_task : Draft → Result Draft Wrong
next_task d = cond (ltb d.count 16) (Ok (wanting Name d)) (Err TasksRefused)

-- `chain`, after the first one; "more than one chain" is edition 2
abbrev pub next_chain_of : Option Edition → Draft → Result Draft Wrong
next_chain_of (Some One) d = Err ChainInEditionOne
next_chain_of edition d = cond (ltb d.suite 8) (Ok (opened (with_edition Two d))) (Err ChainsRefused)

abbrev pub next_chain : Draft → Result Draft Wrong
next_chain d = next_chain_of d.edition d

-- the edition
abbrev pub at_edition : ℕ → Draft → Result Draft Wrong
at_edition n d =
    cond (eqb n 1) (Ok (wanting EditionEnd (with_edition One d))) (cond (eqb n 2) (Ok (wanting EditionEnd (with_edition Two d))) (Err EditionRefused))

-- the numbers of a task
abbrev pub at_period : ℕ → Draft → Result Draft Wrong
at_period n d = cond (outside 1 100000 n) (Err PeriodRefused) (Ok (wanting WantBudget (with_task (record { period = n; budget = 0; rank = 0 }) d)))

abbrev pub at_budget : ℕ → Draft → Result Draft Wrong
at_budget n d =
    let t = task_in d in
    cond (outside 1 t.period n) (Err BudgetRefused) (Ok (wanting WantRank (with_task (record { period = t.period; budget = n; rank = 0 }) d)))

-- an earlier task has this rank
abbrev pub ranked : Draft → ℕ → Bool
ranked d rank = list_any (λ t. t.rank == rank) (take d.count d.tasks)

abbrev pub at_rank : ℕ → Draft → Result Draft Wrong
at_rank n d =
    let t = task_in d in
    cond (outside 0 255 n) (Err RankTooGreat)
    (cond (ranked d n) (Err RankRefused) (Ok (wanting TaskEnd (task_more (with_task (record { period = t.period; budget = t.budget; rank = n }) d)))))

-- a task of the chain, by its name or its number: one of the first k entries may not be it
abbrev pub repeated : List ℕ → ℕ → ℕ → Bool
repeated entries k e = list_any (λ x. x == e) (take k entries)

abbrev pub longer : Chain → ℕ → Chain
longer c e = record { entries = set c.entries c.length e; length = more c.length 16; limit = c.limit }

abbrev pub at_entry : ℕ → Draft → Result Draft Wrong
at_entry n d =
    let c = chain_in d in
    cond (leb d.count c.length) (Err LengthRefused)
    (cond (leb d.count n) (Err EntryRefused)
    (cond (repeated c.entries c.length n) (Err RepeatRefused)
    (Ok (wanting Entries (with_chain (longer c n) d)))))

-- "With a limit .. the sheet is of edition 2"
abbrev pub at_limit_of : Option Edition → Draft → Result Draft Wrong
at_limit_of (Some One) d = Err LimitInEditionOne
at_limit_of edition d = Ok (wanting LimitNumber (with_edition Two d))

abbrev pub at_limit : Draft → Result Draft Wrong
at_limit d = at_limit_of d.edition d

-- the limit
abbrev pub at_limit_number : ℕ → Draft → Result Draft Wrong
at_limit_number n d =
    let c = chain_in d in
    cond (outside 0 4000000 n) (Err LimitRefused) (Ok (wanting WantEntry (with_chain (record { entries = c.entries; length = c.length; limit = n }) d)))

-- What a word does where each thing is wanted; after the edition and after the rank the end of the line is.
abbrev pub table : Want → Word → Draft → Result Draft Wrong
table Opening (Keyword EditionKey) d = Ok (wanting WantEdition d)
table Opening (Keyword TaskKey) d = Ok (wanting Name d)
table WantTask (Keyword TaskKey) d = Ok (wanting Name d)
table More (Keyword TaskKey) d = next_task d
table More (Keyword ChainKey) d = Ok (opened d)
table WantChain (Keyword ChainKey) d = next_chain d
table WantEdition (Number n) d = at_edition n d
table Name New d = Ok (wanting WantPeriod d)
table Name (Known i) d = Err NameTwice
table WantPeriod (Keyword PeriodKey) d = Ok (wanting PeriodNumber d)
table PeriodNumber (Number n) d = at_period n d
table WantBudget (Keyword BudgetKey) d = Ok (wanting BudgetNumber d)
table BudgetNumber (Number n) d = at_budget n d
table WantRank (Keyword RankKey) d = Ok (wanting RankNumber d)
table RankNumber (Number n) d = at_rank n d
table WantLimit (Keyword LimitKey) d = at_limit d
table LimitNumber (Number n) d = at_limit_number n d
table WantLimit (Number n) d = at_entry n d
table WantLimit (Known i) d = at_entry i d
table WantLimit New d = Err NameUnknown
table WantEntry (Number n) d = at_entry n d
table WantEntry (Known i) d = at_entry i d
table WantEntry New d = Err NameUnknown
table Entries (Number n) d = at_entry n d
table Entries (Known i) d = at_entry i d
table Entries New d = Err NameUnknown
table want w d = missing d

unfoldable pub step : Word → Draft → Result Draft Wrong
step w d = table d.want w d

-- The end of a line: before a line it does not matter; after one it ends it.
abbrev pub line_table : Want → Draft → Result Draft Wrong
line_table Opening d = Ok d
line_table WantTask d = Ok d
line_table More d = Ok d
line_table WantChain d = Ok d
line_table EditionEnd d = Ok (wanting WantTask d)
line_table TaskEnd d = Ok (wanting More d)
line_table Entries d = Ok (wanting WantChain (chain_more d))
line_table want d = missing d

unfoldable pub line_end : Draft → Result Draft Wrong
line_end d = line_table d.want d

-- At the end of the text, which ends its last line, there is a chain.
abbrev pub last_of : Want → Draft → Result Draft Wrong
last_of WantChain d = Ok d
last_of want d = missing d

abbrev pub last_line : Result Draft Wrong → Result Draft Wrong
last_line (Ok d) = last_of d.want d
last_line (Err wrong) = Err wrong

unfoldable pub text_end : Draft → Result Draft Wrong
text_end d = last_line (line_end d)

-- ---- the sheet that was typed

abbrev pub unlimited : List Chain → List Chain
unlimited chains = let c = get_or chains 0 idle in set chains 0 (record { entries = c.entries; length = c.length; limit = 0 })

-- One chain with no limit, and edition 2 not said: an old sheet.
abbrev pub typed_in : Option Edition → Draft → Sheet
typed_in (Some Two) d = record { tasks = d.tasks; chains = d.chains; edition = 2; count = d.count; suite = d.suite }
typed_in edition d = record { tasks = d.tasks; chains = unlimited d.chains; edition = 1; count = d.count; suite = 0 }

unfoldable pub typed : Draft → Sheet
typed d = typed_in d.edition d
