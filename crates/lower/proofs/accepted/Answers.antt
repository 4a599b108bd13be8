-- H and J are judged first, and then what is late, without a table.
use Rattle.std.proofs.Common.{sym, ap}
use Rattle.std.proofs.lemmas.Result.{err_from_is_err_and}
use Rattle.answers.specs.Answers.{given, also}
use Rattle.lower.specs.CallLaws.{accept_fine, accepted_sound, sizes_refused, bound_refused}
use Rattle.lower.proofs.accepted.Goals as goal

pub returns-in_err-sizes : goal.returns-in_err-sizes
returns-in_err-sizes c =
    let p = err_from_is_err_and c.from_residual.result c.from_residual.ensures.1 in
    rw (p.1, p.2) (sizes_refused c.args.s c.in_err-sizes.field-0.0 c.in_err-sizes.ensures)

pub returns-in_err-bound : goal.returns-in_err-bound
returns-in_err-bound c =
    let p = err_from_is_err_and c.from_residual-in_err-bound.result c.from_residual-in_err-bound.ensures.1 in
    rw (p.1, p.2) (bound_refused c.args.s c.in_err-bound.field-0.0 c.in_ok-sizes.ensures c.in_err-bound.ensures)

pub invariant_of-result : goal.invariant_of-result
invariant_of-result c =
    record { sound = accepted_sound c.args.s (accept_fine c.args.s c.in_ok-bound.field-0 c.in_ok-sizes.ensures c.in_ok-bound.ensures) }

pub returns : goal.returns
returns c = sym (ap (λ j. also j (given c.args.s)) (accept_fine c.args.s c.in_ok-bound.field-0 c.in_ok-sizes.ensures c.in_ok-bound.ensures))
