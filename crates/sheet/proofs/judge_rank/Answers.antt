-- Among the ranks before it, as they stand in the list.
use Prim.Native.Nat.{ℕ}
use mathlib.Core.Path.{sym, ap, ◌∙◌}
use native.Mathlib.Omega.{arith}
use borrow.Author.Tests.{tests}
use lib.Dec.{eqb}
use lib.ListN.{get_or, take}
use Rattle.std.proofs.Common.{rules}
use Rattle.std.proofs.lemmas.Iterator.{YieldsList-from_slice}
use Rattle.std.proofs.lemmas.Iterator.Search.{any_from_yields_List}
use Rattle.theory.specs.Model.Schedule.{none}
use Rattle.answers.specs.Answers.{when}
use Rattle.sheet.specs.Fields.{with_offset}
use Rattle.sheet.specs.FieldLaws.{among_list}
use Rattle.sheet.proofs.judge_rank.Goals as goal

pub returns-then-any : goal.returns-then-any
returns-then-any c =
    let a = c.args in
    let ts = a.tasks.now in
    let rank : ℕ = (get_or ts a.i none).rank in
    let is = any_from_yields_List (λ x. eqb x.rank rank) _ _ _ c.any.ensures.ran (YieldsList-from_slice (take a.i ts) cc) (λ x b q k. search (rules, tests)) in
    sym (ap (λ b. with_offset a.at (when b 5)) (among_list (λ t. t.rank) none ts a.i rank (omega arith) ∙ sym is ∙ c.if-any.true))

pub returns : goal.returns
returns c =
    let a = c.args in
    let ts = a.tasks.now in
    let rank : ℕ = (get_or ts a.i none).rank in
    let is = any_from_yields_List (λ x. eqb x.rank rank) _ _ _ c.any.ensures.ran (YieldsList-from_slice (take a.i ts) cc) (λ x b q k. search (rules, tests)) in
    sym (ap (λ b. with_offset a.at (when b 5)) (among_list (λ t. t.rank) none ts a.i rank (omega arith) ∙ sym is ∙ c.if-any.false))
