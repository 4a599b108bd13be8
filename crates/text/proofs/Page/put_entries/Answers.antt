-- Each turn puts one entry more.
use Rattle.std.proofs.Common.{◌≡◌, ◌<◌, ◌++◌, ◌∷◌, get_or, ap, ◌∙◌, arith, rules, length, length-take, get_or-take, min}
use Rattle.text.specs.Shown.{numeral, joined, task_word, entry_word, entry_words}
use Rattle.text.specs.ShownLaws.{puts_none, puts_is, puts_on}
use Rattle.text.proofs.Page.put_entries.Goals as goal

pub loop-entry-init : goal.loop-entry-init
unfolding joined
loop-entry-init c =
    puts_none

pub loop-entry-preserved : goal.loop-entry-preserved
unfolding entry_word
loop-entry-preserved c =
    let l = c.loop-entry in
    let chain = c.args.chain in
    let first = c.tasks-entry-items.ensures in
    let at : l.entry-index < chain.length = omega (arith, c.loop-entry-test.true, ap length first, length-take chain.length chain.entries) in
    puts_on (λ j. entry_word (get_or chain.entries j 0)) l.entry-index l.invariant
    (puts_is (ap (λ k. (32 ∷ task_word) ++ numeral k) (c.from.ensures ∙ ap (λ x. get_or x l.entry-index 0) first ∙ get_or-take chain.length chain.entries l.entry-index 0 at)) c.put_number.ensures)

pub returns : goal.returns
returns c =
    let l = c.loop-entry in
    let chain = c.args.chain in
    let whole : length chain.entries ≡ 16 = search rules in
    puts_is (ap (λ n. entry_words chain.entries n) {x = l.entry-index} {y = min chain.length 16} (omega (arith, whole, c.loop-entry-test.false, l.auto.entry-index-end, ap length c.tasks-entry-items.ensures, length-take chain.length chain.entries))) l.invariant
