-- Every part is the number that its field spells.
use mathlib.Core.Path.{◌≡◌, sym, ap, ap₂, ◌∙◌}
use Prim.Native.Nat.{ℕ, ◌+◌, ◌*◌, min}
use Rattle.bits.specs.Bits.{unpack, number}
use Rattle.theory.specs.Model.Schedule.{none}
use Rattle.sheet.specs.declared.Chain.{Chain}
use Rattle.sheet.specs.SameLaws.{sheet_is}
use Rattle.sheet.specs.Calls.{places, unused, chain_from}
use Rattle.sheet.specs.PlaceLaws.{places_most}
use Rattle.sheet.specs.Order.{task_at, chain_spelt}
use Rattle.sheet.proofs.spell_new.Goals as goal

pub returns : goal.returns
returns c =
    let bs = unpack c.args.bytes.now in
    let n-is : c.small-count.result ≡ number bs 9 5 = c.small-count.ensures in
    let n : ℕ = min (number bs 9 5) 16 in
    let w-is = c.from.ensures ∙ c.min.ensures ∙ ap (λ k. min k 16) n-is in
    let suite-is = c.small-suite.ensures ∙ ap (λ k. number bs (14 + 42 * k) 4) w-is in
    let f : ℕ → Chain = λ j. chain_spelt bs 22 (chain_from bs 22 (14 + 42 * n + 4) j) in
    sheet_is (c.tasks_at-tasks.ensures ∙ ap (λ k. places 16 none k (λ i. task_at bs (14 + 42 * i))) n-is)
    (c.chains_at-chains.ensures ∙ ap₂ (λ k x. places 8 unused k (λ j. chain_spelt bs 22 (chain_from bs 22 (14 + 42 * x + 4) j))) suite-is w-is ∙ sym (places_most 8 unused f (number bs (14 + 42 * n) 4)))
    c.edition_at-edition.ensures n-is suite-is
