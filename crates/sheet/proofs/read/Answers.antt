-- The sheet that the bytes spell is judged field by field and behind its end, and the first refusal is handed up.
use mathlib.Core.Path.{sym, ap, ◌∙◌}
use Prim.Native.Nat.{◌*◌}
use native.Mathlib.Omega.{arith}
use lib.ListN.{length}
use Rattle.std.proofs.lemmas.Result.{err_from_is_err_and}
use Rattle.answers.specs.Answers.{given, also}
use Rattle.answers.specs.AnswerLaws.{also_no, also_fine}
use Rattle.sheet.specs.Fields.{fields, widths, value, in_order}
use Rattle.sheet.specs.Calls.{judged_in, tail_of, end_of, read_as, read_of}
use Rattle.sheet.specs.SizeLaws.{ends_by}
use Rattle.sheet.specs.InOrderLaws.{judged_no, judged_fine}
use Rattle.sheet.proofs.read.Goals as goal

pub returns-in_err-end : goal.returns-in_err-end
unfolding read_of
returns-in_err-end c =
    let bytes = c.args.bytes.now in
    let s = c.spell-sheet in
    let v = value s.result in
    let p = err_from_is_err_and c.from_residual.result c.from_residual.ensures.1 in
    rw (p.1, p.2)
    (sym (ap (read_as bytes) (sym s.ensures)
    ∙ ap (λ j. also j (also (tail_of bytes (end_of s.result)) (given s.result))) (judged_no (in_order (judged_in (length bytes * 8) v) 0 (fields v)) (widths (fields v)) c.judge_fields.ensures c.in_err-end.was)))

pub judge_tail-requires : goal.judge_tail-requires
judge_tail-requires c =
    let v = value c.spell-sheet.result in
    omega (arith, (judged_fine (in_order (judged_in (length c.args.bytes.now * 8) v) 0 (fields v)) (widths (fields v)) c.judge_fields.ensures c.in_ok-end.was).1, ends_by v)

pub returns-in_err-judge_tail : goal.returns-in_err-judge_tail
unfolding read_of
returns-in_err-judge_tail c =
    let bytes = c.args.bytes.now in
    let s = c.spell-sheet in
    let v = value s.result in
    let fine = judged_fine (in_order (judged_in (length bytes * 8) v) 0 (fields v)) (widths (fields v)) c.judge_fields.ensures c.in_ok-end.was in
    let p = err_from_is_err_and c.from_residual-in_err-judge_tail.result c.from_residual-in_err-judge_tail.ensures.1 in
    rw (p.1, p.2)
    (sym (ap (read_as bytes) (sym s.ensures)
    ∙ ap (λ j. also j (also (tail_of bytes (end_of s.result)) (given s.result))) fine.0
    ∙ also_no (given s.result) (c.judge_tail.ensures ∙ ap (tail_of bytes) fine.1) c.in_err-judge_tail.was))

pub returns : goal.returns
unfolding read_of
returns c =
    let bytes = c.args.bytes.now in
    let s = c.spell-sheet in
    let v = value s.result in
    let fine = judged_fine (in_order (judged_in (length bytes * 8) v) 0 (fields v)) (widths (fields v)) c.judge_fields.ensures c.in_ok-end.was in
    sym (ap (read_as bytes) (sym s.ensures)
    ∙ ap (λ j. also j (also (tail_of bytes (end_of s.result)) (given s.result))) fine.0
    ∙ also_fine (given s.result) (c.judge_tail.ensures ∙ ap (tail_of bytes) fine.1) c.in_ok-judge_tail.was)
