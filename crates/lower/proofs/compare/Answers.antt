-- Each sheet is judged in its turn, and then both are compared.
use Rattle.std.proofs.Common.{sym, ap, ap₂, ◌∙◌, Err}
use Rattle.std.proofs.lemmas.Result.{err_from_is_err_and}
use Rattle.lower.specs.Calls.{chains_compared, told_comparison}
use Rattle.lower.specs.CallLaws.{compare_old, compare_new, compare_both}
use Rattle.lower.proofs.compare.Goals as goal

pub returns-in_err-old : goal.returns-in_err-old
returns-in_err-old c =
    let p = err_from_is_err_and c.from_residual.result c.from_residual.ensures.1 in
    let h = c.in_err-old.ensures.err in
    rw (p.1, p.2) (ap (λ o. told_comparison (Err o)) h.1 ∙ sym (compare_old c.args.old c.args.new h.0 h.2))

pub returns-in_err-new : goal.returns-in_err-new
returns-in_err-new c =
    let p = err_from_is_err_and c.from_residual-in_err-new.result c.from_residual-in_err-new.ensures.1 in
    let h = c.in_err-new.ensures.err in
    rw (p.1, p.2) (ap (λ o. told_comparison (Err o)) h.1 ∙ sym (compare_new c.args.old c.args.new h.0 c.in_ok-old.ensures.ok.0 h.2))

pub returns : goal.returns
returns c =
    c.compare.ensures ∙ ap₂ chains_compared c.in_ok-old.ensures.ok.1 c.in_ok-new.ensures.ok.1
    ∙ sym (compare_both c.args.old c.args.new c.in_ok-old.ensures.ok.0 c.in_ok-new.ensures.ok.0)
