-- Every part is the number that its field spells; a limit of no bits is 0.
use mathlib.Core.Path.{◌≡◌, refl, ap, ◌∙◌}
use Prim.Native.Nat.{◌+◌, ◌*◌, min}
use native.Mathlib.Omega.{arith}
use Rattle.bits.specs.Bits.{unpack, number}
use Rattle.theory.specs.Model.Schedule.{none}
use Rattle.sheet.specs.SameLaws.{sheet_is}
use Rattle.sheet.specs.Calls.{places, unused, chain_from}
use Rattle.sheet.specs.Order.{task_at, chain_spelt}
use Rattle.sheet.proofs.spell_old.Goals as goal

pub returns : goal.returns
unfolding number
returns c =
    let bs = unpack c.args.bytes.now in
    let n-is : c.small-count.result ≡ number bs 0 5 = c.small-count.ensures in
    let w-is = c.from.ensures ∙ c.min.ensures ∙ ap (λ k. min k 16) n-is in
    sheet_is (c.tasks_at-tasks.ensures ∙ ap (λ k. places 16 none k (λ i. task_at bs (5 + 42 * i))) n-is)
    (c.chains_at-chains.ensures ∙ ap (λ x. places 8 unused 1 (λ j. chain_spelt bs 0 (chain_from bs 0 x j))) {x = 5 + 42 * c.from.result} {y = 5 + 42 * min (number bs 0 5) 16 + 0} (omega (arith, w-is)))
    refl n-is refl
