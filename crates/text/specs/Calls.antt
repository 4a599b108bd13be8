-- What the calls answer.
use Rattle.std.specs.Prelude.{List, ◌++◌, ℕ, ltb, length, drop}
use Rattle.answers.specs.Answers.{Answer, given, refused, when, also}
use Rattle.sheet.specs.declared.Sheet.{Sheet}
use Rattle.sheet.specs.Calls.{judge_of}
use Rattle.text.specs.Shown.{text_of}

-- A sheet is judged, then 14 for a buffer that its text does not go into.
unfoldable pub show_of : Sheet → ℕ → Answer ℕ
show_of s room = also (judge_of s) (also (when (ltb room (length (text_of s))) 14) (given (length (text_of s))))

-- The text stands at the front, the rest as it was; a refusal leaves all of it.
abbrev pub page_after : Answer ℕ → Sheet → List ℕ → List ℕ
page_after (given size) s before = text_of s ++ drop (length (text_of s)) before
page_after (refused number values) s before = before
