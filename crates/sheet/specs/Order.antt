-- How the code goes through the fields and reads them, in names that no promise of a call needs.
use Rattle.std.specs.Prelude.{Bool, true, false, cond, List, ℕ, ◌+◌, ◌*◌, ◌<◌, ltb, leb, Option, Some, None}
use Rattle.bits.specs.Bits.{number}
use Rattle.theory.specs.declared.Task.{Task}
use Rattle.sheet.specs.declared.Chain.{Chain}
use Rattle.sheet.specs.declared.Sheet.{Sheet}
use Rattle.sheet.specs.declared.Field.{Field}
use Rattle.sheet.specs.declared.Field.TheVariants.{Mark, Edition, Count, Period, Budget, Rank, Chains, Limit, Length, Entry}
use Rattle.answers.specs.declared.Refusal.{Refusal}
use Rattle.answers.specs.Answers.{Answer, given, Judgement, fine, when, also, refusal}
use Rattle.sheet.specs.Fields.{Values, Kind, old, new, tasks, chains, entries, fields, widths, among, in_order}
use Rattle.sheet.specs.Calls.{places, sheet_by, tasks_in, spelt_by, judged_in}

-- The first field of a sheet, of chain c, of its chains, and of what begins with task i or entry i of chain c; none after the last chain.
abbrev pub opening : Kind → Field
opening new = Mark
opening old = Count

abbrev pub chain_head : Kind → ℕ → Field
chain_head new c = Limit c
chain_head old c = Length c

abbrev pub chain_opening : Kind → Values → ℕ → Option Field
chain_opening kind v c = cond (ltb c (chains kind v)) (Some (chain_head kind c)) None

abbrev pub suite_opening : Kind → Field
suite_opening new = Chains
suite_opening old = Length 0

abbrev pub task_opening : Kind → Values → ℕ → Field
task_opening kind v i = cond (ltb i (tasks v)) (Period i) (suite_opening kind)

abbrev pub entry_opening : Kind → Values → ℕ → ℕ → Option Field
entry_opening kind v c i = cond (ltb i (entries v c)) (Some (Entry c i)) (chain_opening kind v (c + 1))

-- The field after a field of a sheet that holds these values.
abbrev pub after : Kind → Values → Field → Option Field
after kind v Mark = Some Edition
after kind v Edition = Some Count
after kind v Count = Some (task_opening kind v 0)
after kind v (Period i) = Some (Budget i)
after kind v (Budget i) = Some (Rank i)
after kind v (Rank i) = Some (task_opening kind v (i + 1))
after kind v Chains = chain_opening kind v 0
after kind v (Limit c) = Some (Length c)
after kind v (Length c) = entry_opening kind v c 0
after kind v (Entry c i) = entry_opening kind v c (i + 1)

-- A field has its place: among sixteen tasks, eight chains and sixteen entries of each.
abbrev pub Placed : Field → Type 0
Placed Mark = Unit {0}
Placed Edition = Unit {0}
Placed Count = Unit {0}
Placed (Period i) = i < 16
Placed (Budget i) = i < 16
Placed (Rank i) = i < 16
Placed Chains = Unit {0}
Placed (Limit c) = c < 8
Placed (Length c) = c < 8
Placed (Entry c i) = (c < 8) × (i < 16)

-- "given when", as the code's own refusal
abbrev pub refused_if : Bool → Refusal → Judgement
refused_if true r = refusal r
refused_if false r = fine

-- What is found of rank i among these, and of entry i of a chain with these entries on a sheet of n tasks.
abbrev pub rank_judged : (ℕ → ℕ) → ℕ → Judgement
rank_judged r i = when (among r i (r i)) 5

abbrev pub entry_judged : ℕ → (ℕ → ℕ) → ℕ → Judgement
entry_judged n e i = also (when (leb n (e i)) 7) (when (among e i (e i)) 8)

-- What is found of the fields in so much room, with the bit after the last one.
abbrev pub fields_judged : ℕ → Values → Answer ℕ
fields_judged room v = also (in_order (judged_in room v) 0 (fields v)) (given (widths (fields v)))

-- What bits hold in the fields of a task, and of a chain whose limit takes w bits.
abbrev pub task_at : List Bool → ℕ → Task
task_at bs at = record { period = number bs at 17; budget = number bs (at + 17) 17; rank = number bs (at + 17 + 17) 8 }

abbrev pub chain_spelt : List Bool → ℕ → ℕ → Chain
chain_spelt bs w at =
    let m = number bs (at + w) 5 in
    record { entries = places 16 0 m (λ i. number bs (at + w + 5 + 4 * i) 4); length = m; limit = number bs at w }

-- The sheet that bits spell, with a mark or without.
abbrev pub sheet_spelt : List Bool → Kind → Sheet
sheet_spelt bs kind = sheet_by kind (spelt_by bs kind (tasks_in bs kind))
