-- An old sheet has no limit of its own, and a new one's is allowed.
use mathlib.Core.Path.{◌≡◌, sym, ap, ◌∙◌}
use mathlib.Core.Bool.{cond}
use native.Mathlib.Omega.{arith}
use borrow.Author.Tests.{eq-eqb, ne_eqb}
use Rattle.sheet.specs.declared.Chain.{Chain}
use Rattle.sheet.specs.Conversions.{old_limit}
use Rattle.sheet.specs.Tasks.{limit_of}
use Rattle.chain.specs.Calls.{report_limit}
use Rattle.chain.specs.SuiteLaws.{report_most}
use Rattle.chain.proofs.named.Named.report_limit.Goals as goal

pub returns-then-self-eq1 : goal.returns-then-self-eq1
returns-then-self-eq1 c = rw (eq-eqb c.args.self.judged.sheet.edition 1 c.if-self-eq1.true) (omega arith)

pub returns : goal.returns
returns c =
    let s = c.args.self.judged.sheet in
    let number = c.args.self.number in
    let is : c.chain.result.limit ≡ report_limit s number =
    ap (λ (x : Chain). x.limit) c.chain.ensures ∙ sym (ap (λ b. cond b old_limit (limit_of s number)) (ne_eqb s.edition 1 c.if-self-eq1.false)) in
    (is, omega (arith, is, report_most _ c.args.self.judged.sound number c.args.self.known))
