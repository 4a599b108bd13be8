-- What the functions under the call promise each other.
use Rattle.std.specs.Prelude.{◌≡◌}
use Rattle.answers.specs.declared.Refusal.{Refusal}
use Rattle.answers.specs.Answers.{refusal}
use Rattle.sheet.specs.declared.Sheet.{Sheet}
use Rattle.lower.specs.declared.answer.Which.{Which}
use Rattle.lower.specs.declared.answer.Obstacle.{Obstacle}
use Rattle.lower.specs.declared.answer.Obstacle.TheVariants.{Refused}
use Rattle.lower.specs.Calls.{acceptance}

-- That stands in the way: the refusal of the sheet.
abbrev pub IsRefused : Sheet → Which → Obstacle → Type 0
IsRefused s which o = (r : Refusal) × (o ≡ Refused which r) × (acceptance s ≡ refusal r)
