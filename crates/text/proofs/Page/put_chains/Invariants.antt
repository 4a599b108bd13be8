use Rattle.text.specs.Shown.{chain_lines}
use Rattle.text.specs.Conditions.{Puts}
use Rattle.text.proofs.Page.put_chains.Given as goal

-- The chains' lines so far stand on the page.
abbrev pub invariant-loop-chain : goal.invariant-loop-chain
invariant-loop-chain l = Puts l.initial.self (chain_lines l.fn.s.edition l.fn.s.chains l.chain-index) l.self
