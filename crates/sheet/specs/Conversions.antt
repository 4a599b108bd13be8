-- The two conversions in memory: an old sheet as one of the second edition, and back.
use Rattle.std.specs.Prelude.{Bool, true, false, cond, List, ℕ, eqb, get_or, set}
use Rattle.sheet.specs.declared.Chain.{Chain}
use Rattle.sheet.specs.declared.Sheet.{Sheet}
use Rattle.sheet.specs.declared.Field.TheVariants.{Limit}
use Rattle.answers.specs.Answers.{Answer, given, when, also}
use Rattle.sheet.specs.Fields.{idle, value}
use Rattle.sheet.specs.Calls.{judge_of}

-- "Old sheets convert in memory to one chain with limit 1,000."
abbrev pub old_limit : ℕ
old_limit = 1000

-- Chain one, under another limit.
abbrev pub limited : ℕ → Sheet → List Chain
limited limit s = let c = get_or s.chains 0 idle in set s.chains 0 (record { entries = c.entries; length = c.length; limit = limit })

abbrev pub second : Sheet → Sheet
second s = record { tasks = s.tasks; chains = limited old_limit s; edition = 2; count = s.count; suite = 1 }

abbrev pub first : Sheet → Sheet
first s = record { tasks = s.tasks; chains = limited 0 s; edition = 1; count = s.count; suite = 0 }

-- "18, exactly when the count is not 1 or the limit not 1,000"
abbrev pub stays : Sheet → Bool
stays s = cond (eqb s.suite 1) (cond (eqb (value s (Limit 0)) old_limit) false true) true

-- "a sheet already so is unchanged"; "A conversion judges the fields and 18 only."
unfoldable pub to_second : Sheet → Answer Sheet
to_second s = also (judge_of s) (given (cond (eqb s.edition 1) (second s) s))

unfoldable pub to_first : Sheet → Answer Sheet
to_first s = also (judge_of s) (cond (eqb s.edition 1) (given s) (also (when (stays s) 18) (given (first s))))
