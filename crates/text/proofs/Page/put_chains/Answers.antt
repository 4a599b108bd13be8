-- Each turn puts one chain more.
use Rattle.std.proofs.Common.{◌≡◌, ◌<◌, get_or, ap, ◌∙◌, arith, rules, length, length-take, get_or-take}
use Rattle.std.proofs.lemmas.List.{get_or_default}
use Rattle.sheet.specs.Fields.{idle}
use Rattle.text.specs.Shown.{joined, chain_line, chain_lines, chain_count}
use Rattle.text.specs.ShownLaws.{puts_none, puts_is, puts_on, count_is}
use Rattle.text.proofs.Page.put_chains.Goals as goal

pub loop-chain-init : goal.loop-chain-init
unfolding joined
loop-chain-init c =
    puts_none

pub loop-chain-preserved : goal.loop-chain-preserved
loop-chain-preserved c =
    let l = c.loop-chain in
    let s = c.args.s in
    let n = c.from-count.result in
    let at : l.chain-index < n = omega (arith, c.loop-chain-test.true, length-take n s.chains) in
    puts_on (λ j. chain_line s.edition (get_or s.chains j idle)) l.chain-index l.invariant (puts_is (ap (chain_line s.edition) (get_or-take n s.chains l.chain-index _ at ∙ get_or_default s.chains l.chain-index _ idle (omega (arith, c.loop-chain-test.true, length-take n s.chains)))) c.put_chain.ensures)

pub returns : goal.returns
returns c =
    let l = c.loop-chain in
    let s = c.args.s in
    let whole : length s.chains ≡ 8 = search rules in
    puts_is (ap (λ n. chain_lines s.edition s.chains n) {x = l.chain-index} {y = chain_count s}
    (omega (arith, whole, c.loop-chain-test.false, l.auto.chain-index-end, length-take c.from-count.result s.chains, c.from-count.ensures, c.min.ensures, c.chain_count.ensures, count_is s))) l.invariant
