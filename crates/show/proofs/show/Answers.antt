-- What is shown fits where it is put.
use Rattle.std.specs.Prelude.{◌≡◌, ℕ, ◌≤◌, ltb, length}
use Rattle.std.proofs.Common.{sym, arith, ltb-false}
use Rattle.std.proofs.lemmas.List.{length-take-le}
use Rattle.answers.specs.Answers.{given, when, also}
use Rattle.answers.specs.AnswerLaws.{also_given, when_fine}
use Rattle.sheet.specs.declared.Sheet.{Sheet}
use Rattle.sheet.specs.Calls.{judge_of}
use Rattle.text.specs.Shown.{text_of}
use Rattle.text.specs.Calls.{show_of}
use Rattle.show.proofs.show.Goals as goal

shown_fits : (s : Sheet) (room n : ℕ) → show_of s room ≡ given n → n ≤ room
unfolding show_of
shown_fits s room n e =
    let size = length (text_of s) in
    let a = also_given (judge_of s) (also (when (ltb room size) 14) (given size)) e in
    let b = also_given (when (ltb room size) 14) (given size) a.1 in
    let c = b.1 in
    let is : size ≡ n = cc in
    omega (arith, ltb-false room size (when_fine _ 14 b.0))

pub slice_bounds-result-end : goal.slice_bounds-result-end
slice_bounds-result-end c = sym (length-take-le _ c.show.new.out (omega (arith, shown_fits _ _ _ (sym c.in_ok-size.ensures.0))))
