-- A limit over 4,000,000 is refused once the chain, H and J are judged; one that is allowed is taken less the worst, which is small.
use Rattle.std.proofs.Common.{◌≡◌, [], sym, ap, ◌∙◌, length, arith}
use Rattle.std.proofs.lemmas.Result.{err_from_is_err_and}
use mir.Syntax.{w32}
use mir.ValLaws.{to_z-of_z}
use Rattle.answers.specs.Answers.{given, refused, refusal, told, after}
use Rattle.schedule.specs.Calls.{sizes_of}
use Rattle.chain.specs.declared.answer.Figure.{Figure}
use Rattle.chain.specs.CallLaws.{answers_no, answers_given, answers_number, named_untouched, sizes_untouched, lacking_no, lacking_fine, margin_over, over_known, margin_tasks, summary_in, figures_given}
use Rattle.chain.specs.Largest.{worst_most}
use Rattle.chain.proofs.margin.Goals as goal

pub returns-in_err-lacking : goal.returns-in_err-lacking
returns-in_err-lacking c =
    let s = c.args.s in
    let old = c.args.table.now in
    let r = c.in_err-lacking.field-0.0 in
    let p = err_from_is_err_and c.from_residual.result c.from_residual.ensures.1 in
    let e = lacking_no s c.args.number c.lacking.ensures r c.in_err-lacking.was in
    rw (p.1, p.2, margin_over s c.args.number (length old) c.args.limit (omega arith)) (answers_no s old _ r e (named_untouched s old r c.args.number e))

pub returns-in_err-sizes : goal.returns-in_err-sizes
returns-in_err-sizes c =
    let s = c.args.s in
    let old = c.args.table.now in
    let r = c.in_err-sizes.field-0.0 in
    let p = err_from_is_err_and c.from_residual-in_err-sizes.result c.from_residual-in_err-sizes.ensures.1 in
    let has = lacking_fine s c.args.number c.lacking.ensures c.in_ok-lacking.was in
    let e : sizes_of s ≡ refusal r = sym c.sizes.ensures ∙ ap told c.in_err-sizes.was in
    rw (p.1, p.2, margin_over s c.args.number (length old) c.args.limit (omega arith), over_known s c.args.number has) (answers_no s old _ r e (sizes_untouched s old r e))

pub returns-then-limit-gt-MOST_LIMIT : goal.returns-then-limit-gt-MOST_LIMIT
returns-then-limit-gt-MOST_LIMIT c =
    let s = c.args.s in
    let old = c.args.table.now in
    let has = lacking_fine s c.args.number c.lacking.ensures c.in_ok-lacking.was in
    answers_number 13 s old (omega arith)
    (margin_over s c.args.number (length old) c.args.limit (omega arith) ∙ over_known s c.args.number has
    ∙ ap (λ z. after z (λ size. refused 13 [])) (sym c.sizes.ensures ∙ ap told c.in_ok-sizes.was))

pub returns-in_err-figures : goal.returns-in_err-figures
returns-in_err-figures c =
    let s = c.args.s in
    let old = c.args.table.now in
    let p = err_from_is_err_and c.from_residual-in_err-figures.result c.from_residual-in_err-figures.ensures.1 in
    rw (p.1, p.2, margin_tasks s c.args.number (length old) c.args.limit (omega arith))
    (answers_no s old _ c.in_err-figures.field-0.0 (sym c.figures.ensures.0 ∙ ap told c.in_err-figures.was) c.figures.ensures.1)

pub less_of-requires : goal.less_of-requires
less_of-requires c =
    let s = c.args.s in
    let known = summary_in s c.args.number (length c.args.table.now) (sym c.figures.ensures.0 ∙ ap told c.in_ok-figures.was) in
    let g = figures_given s c.args.number (length c.args.table.now) known in
    (omega arith, omega (arith, g.worst_is, ap (λ (c : Figure). c.ticks) g.sampling_is, worst_most g.taken))

pub returns : goal.returns
returns c =
    let s = c.args.s in
    let old = c.args.table.now in
    let read = to_z-of_z w32 c.less_of.result (record { sfits = c.less_of.type_inv }) in
    rw (margin_tasks s c.args.number (length old) c.args.limit (omega arith), read)
    (answers_given s old _ (sym c.figures.ensures.0 ∙ ap told c.in_ok-figures.was) (ap given (sym c.less_of.ensures)) c.figures.ensures.1)
