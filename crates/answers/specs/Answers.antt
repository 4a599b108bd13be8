-- What a call answers, in document 01's terms, and the code's refusals read as such.
use Rattle.std.specs.Prelude.{Bool, true, false, cond, List, [], ◌∷◌, ◌++◌, ℕ, eqb, codes, decimal, Result, Ok, Err}
use Rattle.answers.specs.declared.Refusal.{Refusal}
use Rattle.answers.specs.declared.Refusal.TheVariants.{Cut, Count, Period, Budget, Rank, Length, Entry, Repeat, Surplus, Hyperperiod, Jobs, Release, Limit, Room, Late, Edition, Chain, OldEdition, LogTask, LogKind, LogTime, NoReading, LongReading}

-- "A refusal returns its number", and the values that go with it: a value, or a refusal.
pub data Answer (S : Type 0) : Type 0 where
  given : S → Answer S
  refused : (number : ℕ) (values : List ℕ) → Answer S

-- What one judgement finds: nothing against it, or a refusal.
abbrev pub Judgement : Type 0
Judgement = Answer (Unit {0})

abbrev pub fine : Judgement
fine = given tt

-- "given when"
abbrev pub when : Bool → ℕ → Judgement
when true number = refused number []
when false number = fine

-- what was found, a refusal's number with a value
abbrev pub with_value : ℕ → Judgement → Judgement
with_value value (given u) = given u
with_value value (refused number values) = refused number (value ∷ [])

-- "a refusal met on the way is handed up unchanged"
abbrev pub after : {A B : Type 0} → Answer A → (A → Answer B) → Answer B
after (given a) next = next a
after (refused number values) next = refused number values

-- one judgement, and then another
abbrev pub also : {A : Type 0} → Judgement → Answer A → Answer A
also j a = after j (λ u. a)

-- Judgements in order: the first refusal counts.
unfoldable pub first : {F : Type 0} → (F → Judgement) → List F → Judgement
first judge [] = fine
first judge (f ∷ fs) = also (judge f) (first judge fs)

-- ---- the code's refusals

-- "A refusal returns its number".
abbrev pub number_in : Refusal → ℕ
number_in (Cut bit) = 1
number_in (Count bit) = 2
number_in (Period bit) = 3
number_in (Budget bit) = 4
number_in (Rank bit) = 5
number_in (Length bit) = 6
number_in (Entry bit) = 7
number_in (Repeat bit) = 8
number_in (Surplus bit) = 9
number_in Hyperperiod = 10
number_in Jobs = 11
number_in Release = 12
number_in Limit = 13
number_in Room = 14
number_in (Late task) = 15
number_in Edition = 16
number_in Chain = 17
number_in OldEdition = 18
number_in LogTask = 19
number_in LogKind = 20
number_in LogTime = 21
number_in NoReading = 25
number_in LongReading = 26

-- "1 to 9: the bit offset where the judged field begins", 15 "the index of the greatest-ranked late task".
abbrev pub values_in : Refusal → List ℕ
values_in (Cut bit) = bit ∷ []
values_in (Count bit) = bit ∷ []
values_in (Period bit) = bit ∷ []
values_in (Budget bit) = bit ∷ []
values_in (Rank bit) = bit ∷ []
values_in (Length bit) = bit ∷ []
values_in (Entry bit) = bit ∷ []
values_in (Repeat bit) = bit ∷ []
values_in (Surplus bit) = bit ∷ []
values_in Hyperperiod = []
values_in Jobs = []
values_in Release = []
values_in Limit = []
values_in Room = []
values_in (Late task) = task ∷ []
values_in Edition = []
values_in Chain = []
values_in OldEdition = []
values_in LogTask = []
values_in LogKind = []
values_in LogTime = []
values_in NoReading = []
values_in LongReading = []

abbrev pub refusal : {A : Type 0} → Refusal → Answer A
refusal r = refused (number_in r) (values_in r)

-- What a call answers, a value or a refusal of the table, as document 01 says it.
abbrev pub told : {A : Type 0} → Result A Refusal → Answer A
told (Ok a) = given a
told (Err r) = refusal r

-- ---- how a refusal is printed

-- Its values behind its number: "and for 15 the task too"; any other that has one comes with ` bit ` and the offset.
abbrev pub values_text : ℕ → List ℕ → List ℕ
values_text number [] = []
values_text number (value ∷ values) = cond (eqb number 15) (codes " task ") (codes " bit ") ++ decimal value

-- "`refused` and its number"
abbrev pub refusal_text : Refusal → List ℕ
refusal_text r = codes "refused " ++ (decimal (number_in r) ++ values_text (number_in r) (values_in r))
