-- H and J, the room and the log are judged before the table is filled; then the figures are those of chain one, and the records are followed.
use Rattle.std.proofs.Common.{◌≡◌, sym, ap, ◌∙◌, length, arith}
use Rattle.std.proofs.lemmas.Result.{err_from_is_err_and}
use Rattle.answers.specs.declared.Refusal.TheVariants.{Room}
use Rattle.answers.specs.Answers.{given, fine, refusal, told}
use Rattle.sheet.specs.SoundLaws.{judged_sound}
use Rattle.schedule.specs.Calls.{sizes_of}
use Rattle.schedule.specs.CallLaws.{sizes_given}
use Rattle.schedule.specs.NumberLaws.{sizes_never_15}
use Rattle.chain.specs.Calls.{figures_of}
use Rattle.chain.specs.CallLaws.{summary_in, figures_refused, figures_given}
use Rattle.clocklog.specs.Format.{log_judged}
use Rattle.clocklog.specs.NumberLaws.{log_never_15}
use Rattle.night.specs.Calls.{chain_one}
use Rattle.night.specs.CallLaws.{sizes_first, room_next, log_next, figures_last, replay_refused, replay_late, replay_given, figures_table}
use Rattle.night.proofs.replay.Goals as goal

pub returns-in_err-size : goal.returns-in_err-size
returns-in_err-size c =
    let a = c.args in
    let r = c.in_err-size.field-0.0 in
    let p = err_from_is_err_and c.from_residual.result c.from_residual.ensures.1 in
    let e : sizes_of a.s ≡ refusal r = sym c.sizes.ensures ∙ ap told c.in_err-size.was in
    rw (p.1, p.2) (replay_refused a.s a.log.now a.table.now r (sizes_first a.s a.log.now (length a.table.now) r e) ((sizes_never_15 a.s).holds e))

pub returns-then-table-size : goal.returns-then-table-size
returns-then-table-size c =
    let a = c.args in
    let sized : sizes_of a.s ≡ given c.in_ok-size.size = sym c.sizes.ensures ∙ ap told c.in_ok-size.was in
    replay_refused a.s a.log.now a.table.now Room (room_next a.s a.log.now (length a.table.now) c.in_ok-size.size sized c.if-table-size.true) (λ e. omega arith)

pub returns-in_err-judge : goal.returns-in_err-judge
returns-in_err-judge c =
    let a = c.args in
    let r = c.in_err-judge.field-0.0 in
    let p = err_from_is_err_and c.from_residual-in_err-judge.result c.from_residual-in_err-judge.ensures.1 in
    let sized : sizes_of a.s ≡ given c.in_ok-size.size = sym c.sizes.ensures ∙ ap told c.in_ok-size.was in
    let e : log_judged a.log.now a.s.count ≡ refusal r = sym c.judge.ensures ∙ ap told c.in_err-judge.was in
    rw (p.1, p.2)
    (replay_refused a.s a.log.now a.table.now r (log_next a.s a.log.now (length a.table.now) c.in_ok-size.size sized c.if-table-size.false r e) ((log_never_15 a.log.now a.s.count).holds e))

pub returns-in_err-figures : goal.returns-in_err-figures
returns-in_err-figures c =
    let a = c.args in
    let room = length a.table.now in
    let r = c.in_err-figures.field-0.0 in
    let p = err_from_is_err_and c.from_residual-in_err-figures.result c.from_residual-in_err-figures.ensures.1 in
    let sized : sizes_of a.s ≡ given c.in_ok-size.size = sym c.sizes.ensures ∙ ap told c.in_ok-size.was in
    let fine_log : log_judged a.log.now a.s.count ≡ fine = sym c.judge.ensures ∙ ap told c.in_ok-judge.was in
    rw (p.1, p.2)
    (replay_late a.s a.log.now a.table.now (figures_last a.s a.log.now room c.in_ok-size.size sized c.if-table-size.false fine_log)
    (c.figures.ensures.1 ∙ figures_table a.s chain_one room a.table.now) r (figures_refused a.s chain_one room r (sym c.figures.ensures.0 ∙ ap told c.in_err-figures.was)))

pub invariant_of-judged : goal.invariant_of-judged
invariant_of-judged c =
    let s = c.args.s in
    record { sound = judged_sound s (sizes_given s (sym c.sizes.ensures ∙ ap told c.in_ok-size.was)).judged_fine }

pub replayed-requires-clause-accepted_sheet : goal.replayed-requires-clause-accepted_sheet
replayed-requires-clause-accepted_sheet c =
    let a = c.args in
    (figures_given a.s chain_one (length a.table.now) (summary_in a.s chain_one (length a.table.now) (sym c.figures.ensures.0 ∙ ap told c.in_ok-figures.was))).taken.tasks.accepted

pub returns : goal.returns
returns c =
    let a = c.args in
    let room = length a.table.now in
    let r = c.replayed.ensures in
    let sized : sizes_of a.s ≡ given c.in_ok-size.size = sym c.sizes.ensures ∙ ap told c.in_ok-size.was in
    let fine_log : log_judged a.log.now a.s.count ≡ fine = sym c.judge.ensures ∙ ap told c.in_ok-judge.was in
    let figured : figures_of a.s chain_one room ≡ given c.in_ok-figures.figures.summary = summary_in a.s chain_one room (sym c.figures.ensures.0 ∙ ap told c.in_ok-figures.was) in
    replay_given a.s a.log.now a.table.now (figures_last a.s a.log.now room c.in_ok-size.size sized c.if-table-size.false fine_log)
    (c.figures.ensures.1 ∙ figures_table a.s chain_one room a.table.now) c.in_ok-figures.figures.summary c.replayed.result figured
    (record { records_are = r.0; figure_is = r.1; follows = r.2 })
