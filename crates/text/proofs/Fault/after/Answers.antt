-- Each byte leads to the next line or the next column.
use Rattle.std.proofs.Common.{sym, ap₂, ◌∙◌, arith}
use Rattle.text.specs.RunLaws.{line_ends, line_stays, column_ends, column_stays, line_none, column_none}
use Rattle.text.proofs.Fault.after.Goals as goal
use Rattle.text.proofs.Fault.after.Goals.{then-b-eq10, else-b-eq10}

pub loop-b-preserved : goal.loop-b-preserved
loop-b-preserved c =
    let l = c.loop-b in
    let j = c.if-b-eq10 in
    let front = c.args.front.now in
    elim j.branch [
      | then-b-eq10 w ↦ (
        omega arith,
        omega arith,
        l.invariant.2 ∙ line_ends front l.b-index l.line j.line (omega arith) w.if-b-eq10.true w.line-is,
        l.invariant.3 ∙ column_ends front l.b-index l.column j.column (omega arith) w.if-b-eq10.true w.column-is,
      )
      | else-b-eq10 w ↦ (
        omega arith,
        omega arith,
        l.invariant.2 ∙ line_stays front l.b-index l.line j.line (omega arith) w.if-b-eq10.false w.line-is,
        l.invariant.3 ∙ column_stays front l.b-index l.column j.column (omega arith) w.if-b-eq10.false w.column-is,
      )
    ]

pub returns : goal.returns
returns c =
    let l = c.loop-b in
    let front = c.args.front.now in
    ap₂ (λ x y. record { wrong = c.args.wrong; line = x; column = y })
    (sym (l.invariant.2 ∙ line_none front l.b-index l.line (omega arith)))
    (sym (l.invariant.3 ∙ column_none front l.b-index l.column (omega arith)))
