-- Every list of fields ends by the 178th byte, so no field is short.
use mathlib.Core.Path.{sym, ◌∙◌}
use native.Mathlib.Omega.{arith}
use Rattle.std.proofs.lemmas.Result.{err_from_is_err_and}
use Rattle.sheet.specs.Fields.{fields, widths, value, in_order}
use Rattle.sheet.specs.Calls.{judged_in, judge_of}
use Rattle.sheet.specs.SizeLaws.{ends_by}
use Rattle.sheet.specs.InOrderLaws.{roomy, judged_no, judged_fine}
use Rattle.sheet.proofs.judge.Goals as goal

pub returns-in_err-judge_fields : goal.returns-in_err-judge_fields
unfolding judge_of
returns-in_err-judge_fields c =
    let v = value c.args.s in
    let p = err_from_is_err_and c.from_residual.result c.from_residual.ensures.1 in
    rw (p.1, p.2)
    (sym (judged_no (in_order (judged_in 1424 v) 0 (fields v)) (widths (fields v)) c.judge_fields.ensures c.in_err-judge_fields.was)
    ∙ roomy 1424 v (fields v) 0 (omega (arith, ends_by v)))

pub returns : goal.returns
unfolding judge_of
returns c =
    let v = value c.args.s in
    sym (judged_fine (in_order (judged_in 1424 v) 0 (fields v)) (widths (fields v)) c.judge_fields.ensures c.in_ok-judge_fields.was).0
    ∙ roomy 1424 v (fields v) 0 (omega (arith, ends_by v))
