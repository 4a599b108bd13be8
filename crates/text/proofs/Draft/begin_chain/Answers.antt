-- The chain's two steps, one after the other.
use Rattle.std.proofs.Common.{ap, ◌∙◌}
use Rattle.bits.specs.Bits.{list_of}
use Rattle.text.specs.declared.Want.TheVariants.{Limit}
use Rattle.text.specs.Grammar.{wanting}
use Rattle.text.proofs.Draft.begin_chain.Goals as goal

pub returns : goal.returns
unfolding list_of
returns c =
    c.wants.ensures ∙ ap (wanting Limit) c.with_chain.ensures
