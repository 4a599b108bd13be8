-- The two arms are the definition's.
use Rattle.std.proofs.Common.{sym, ap, [], ◌++◌, cond, arith, eq-eqb, ne_eqb}
use Rattle.text.specs.Shown.{numeral, limit_word, spaced, limit_words}
use Rattle.text.specs.ShownLaws.{puts_none, puts_is}
use Rattle.text.proofs.Page.put_limit.Goals as goal

pub returns-then-edition-ne1 : goal.returns-then-edition-ne1
unfolding limit_words
returns-then-edition-ne1 c =
    let a = c.args in
    puts_is (sym (ap (λ b. cond b [] (spaced limit_word ++ numeral a.limit)) (ne_eqb a.edition 1 (λ q. omega arith)))) c.put_number.ensures

pub returns-else-edition-ne1 : goal.returns-else-edition-ne1
unfolding limit_words
returns-else-edition-ne1 c =
    let a = c.args in
    puts_is (sym (ap (λ b. cond b [] (spaced limit_word ++ numeral a.limit)) (eq-eqb a.edition 1 (omega arith)))) puts_none
