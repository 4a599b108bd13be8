-- A task that the sheet has counts unless each task of chain one outranks it.
use Rattle.std.proofs.Common.{◌≡◌, ◌<◌, ◌↔◌, ◌∙◌, true, List, ℕ, All, length, arith, subst, sym, ap}
use Rattle.std.proofs.lemmas.List.Elements.{All-from_get_or}
use Rattle.theory.specs.Model.Schedule.{rank}
use Rattle.sheet.specs.declared.Chain.{Chain}
use Rattle.sheet.specs.Tasks.{chain_at, chain_of, entries_of}
use Rattle.sheet.specs.TaskLaws.{entry_listed, tasks_length}
use Rattle.lower.specs.CallLaws.{one_known, below_is, counts_is}
use Rattle.lower.proofs.counts.Goals.{After-tasks}
use Rattle.lower.proofs.counts.Goals as goal

-- The entries are those of chain one,
lent : (c : After-tasks) → c.tasks.result.now ≡ chain_of c.args.s.now.sheet 1
lent c = c.tasks.ensures ∙ ap entries_of c.chain_one.ensures.one

-- which are sixteen.
whole : (c : After-tasks) → length (chain_at c.args.s.now.sheet 1).entries ≡ 16
whole c = subst (λ (chain : Chain). length chain.entries ≡ 16) c.chain_one.ensures.one c.chain_one.ensures.whole

pub below_chain-requires : goal.below_chain-requires
below_chain-requires c =
    let s = c.args.s.now.sheet in
    let ok = c.args.s.now.sound in (
      omega (arith, c.if-i-s.true, ok.count_most),
      subst (All (λ entry. entry < 16)) (sym (lent (goal.at.below_chain-requires c).After-tasks))
          (All-from_get_or (λ entry. entry < 16) _ 0 (λ place m. omega (arith, entry_listed s ok 1 (one_known s ok) place m, tasks_length s ok, ok.count_most))),
    )

pub returns-then-i-s : goal.returns-then-i-s
returns-then-i-s c =
    let s = c.args.s.now.sheet in
    let at = (goal.at.returns-then-i-s c).After-tasks in
    counts_is s c.args.i c.if-i-s.true
    (below_is s c.args.s.now.sound (whole at) c.args.i c.if-i-s.true c.below_chain.result
    (subst (λ (chain : List ℕ). (c.below_chain.result ≡ true) ↔ All (λ entry. rank s.tasks c.args.i < rank s.tasks entry) chain) (lent at) c.below_chain.ensures))
