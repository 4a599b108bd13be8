-- The digits are the fewest that hold the number, so they are its numeral.
use Rattle.std.proofs.Common.{ap, ◌∙◌, arith}
use Rattle.text.specs.Shown.{numeral}
use Rattle.text.specs.NumeralLaws.{numeral_fewest}
use Rattle.text.specs.ShownLaws.{puts_is, puts_more}
use Rattle.text.proofs.Page.put_number.Goals as goal

pub returns : goal.returns
returns c =
    let d = c.decimal-count in
    puts_more c.put.ensures (puts_is (d.ensures.digits ∙ numeral_fewest c.from.result d.result (omega arith) d.ensures.len ∙ ap numeral c.from.ensures) c.put-2.ensures)
