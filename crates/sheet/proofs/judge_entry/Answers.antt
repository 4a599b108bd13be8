-- Among the entries before it, as they stand in the list.
use Prim.Native.Nat.{ℕ}
use mathlib.Core.Path.{sym, ap₂, ◌∙◌}
use native.Mathlib.Omega.{arith}
use borrow.Author.Tests.{lt-leb}
use Rattle.answers.specs.Answers.{when, also}
use Rattle.sheet.specs.Fields.{with_offset}
use lib.ListN.{get_or}
use Rattle.sheet.specs.FieldLaws.{among_list}
use Rattle.sheet.proofs.judge_entry.Goals as goal

pub returns-then-contains : goal.returns-then-contains
returns-then-contains c =
    let a = c.args in
    let e = λ (j : ℕ). get_or a.entries.now j 0 in
    let found = among_list (λ x. x) 0 a.entries.now a.i (e a.i) (omega arith) ∙ sym c.contains.ensures.value ∙ c.if-contains.true in
    sym (ap₂ (λ b d. with_offset a.at (also (when b 7) (when d 8))) (lt-leb a.count (e a.i) (omega arith)) found)

pub returns : goal.returns
returns c =
    let a = c.args in
    let e = λ (j : ℕ). get_or a.entries.now j 0 in
    let found = among_list (λ x. x) 0 a.entries.now a.i (e a.i) (omega arith) ∙ sym c.contains.ensures.value ∙ c.if-contains.false in
    sym (ap₂ (λ b d. with_offset a.at (also (when b 7) (when d 8))) (lt-leb a.count (e a.i) (omega arith)) found)
