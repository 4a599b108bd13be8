-- What the call promises of its inputs and its answer.
use Rattle.std.specs.Prelude.{◌≡◌, Result}
use Rattle.sheet.specs.declared.Sheet.{Sheet}
use Rattle.lower.specs.declared.answer.Obstacle.{Obstacle}
use Rattle.lower.specs.Calls.{compare_of, told_comparison}

abbrev pub ComparePromise : Sheet → Sheet → Result Unit Obstacle → Type 0
ComparePromise old new r = told_comparison r ≡ compare_of old new
