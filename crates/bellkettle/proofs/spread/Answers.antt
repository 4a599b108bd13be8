-- Each array that is stored is the list of a field, place by place.
use Rattle.std.proofs.Common.{rules, ap, ◌∙◌}
use Rattle.std.proofs.lemmas.List.Edits.{sets}
use Rattle.theory.specs.Model.Schedule.{none}
use Rattle.sheet.specs.Fields.{idle}
use Rattle.bellkettle.specs.Fields.{periods_in, budgets_in, ranks_in, limits_in, lengths_in}
use Rattle.bellkettle.proofs.Made.{mapped}
use Rattle.bellkettle.proofs.spread.Goals as goal

pub returns-clause-periods_after : goal.returns-clause-periods_after
returns-clause-periods_after c = c.store.ensures ∙ ap (λ l. sets c.args.periods.now 0 l) (mapped 16 (periods_in c.args.s.now) 0 none c.map.ensures.items (λ i h p q k. search rules))

pub returns-clause-budgets_after : goal.returns-clause-budgets_after
returns-clause-budgets_after c = c.store-2.ensures ∙ ap (λ l. sets c.args.budgets.now 0 l) (mapped 16 (budgets_in c.args.s.now) 0 none c.map-2.ensures.items (λ i h p q k. search rules))

pub returns-clause-ranks_after : goal.returns-clause-ranks_after
returns-clause-ranks_after c = c.store-3.ensures ∙ ap (λ l. sets c.args.ranks.now 0 l) (mapped 16 (ranks_in c.args.s.now) 0 none c.map-3.ensures.items (λ i h p q k. search rules))

pub returns-clause-limits_after : goal.returns-clause-limits_after
returns-clause-limits_after c = c.store-4.ensures ∙ ap (λ l. sets c.args.limits.now 0 l) (mapped 8 (limits_in c.args.s.now) 0 idle c.map-4.ensures.items (λ i h p q k. search rules))

pub returns-clause-lengths_after : goal.returns-clause-lengths_after
returns-clause-lengths_after c = c.store-5.ensures ∙ ap (λ l. sets c.args.lengths.now 0 l) (mapped 8 (lengths_in c.args.s.now) 0 idle c.map-5.ensures.items (λ i h p q k. search rules))
