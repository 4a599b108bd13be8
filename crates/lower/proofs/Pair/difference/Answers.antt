-- The tests are the definition's, in its order.
use Rattle.std.proofs.Common.{refl, sym, eq-eqb}
use borrow.Author.Tests.{ne_eqb}
use Rattle.lower.specs.CallLaws.{difference_fields}
use Rattle.lower.proofs.Pair.difference.Goals as goal

pub returns-then-was-is : goal.returns-then-was-is
returns-then-was-is c =
    let a = c.args.self.now in
    sym (difference_fields a.old.sheet a.new.sheet a.old.sound a.new.sound c.args.i c.if-self-i.false c.if-self-i-2.false (ne_eqb _ _ c.if-was-is.true) refl refl)

pub returns-then-was-is-2 : goal.returns-then-was-is-2
returns-then-was-is-2 c =
    let a = c.args.self.now in
    sym (difference_fields a.old.sheet a.new.sheet a.old.sound a.new.sound c.args.i c.if-self-i.false c.if-self-i-2.false (eq-eqb _ _ c.if-was-is.false)
    (ne_eqb _ _ c.if-was-is-2.true) refl)

pub returns-then-was-is-3 : goal.returns-then-was-is-3
returns-then-was-is-3 c =
    let a = c.args.self.now in
    sym (difference_fields a.old.sheet a.new.sheet a.old.sound a.new.sound c.args.i c.if-self-i.false c.if-self-i-2.false (eq-eqb _ _ c.if-was-is.false)
    (eq-eqb _ _ c.if-was-is-2.false) (ne_eqb _ _ c.if-was-is-3.true))

pub returns-else-was-is-3 : goal.returns-else-was-is-3
returns-else-was-is-3 c =
    let a = c.args.self.now in
    sym (difference_fields a.old.sheet a.new.sheet a.old.sound a.new.sound c.args.i c.if-self-i.false c.if-self-i-2.false (eq-eqb _ _ c.if-was-is.false)
    (eq-eqb _ _ c.if-was-is-2.false) (eq-eqb _ _ c.if-was-is-3.false))
