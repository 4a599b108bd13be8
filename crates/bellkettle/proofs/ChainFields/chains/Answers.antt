-- Each place is made as that of its index.
use Rattle.std.proofs.Common.{rules}
use Rattle.sheet.specs.Fields.{idle}
use Rattle.bellkettle.specs.Fields.{chain_from}
use Rattle.bellkettle.proofs.Made.{made}
use Rattle.bellkettle.proofs.ChainFields.chains.Goals as goal

pub returns : goal.returns
returns c = let f = c.args.self.now in made 8 (chain_from f.limits.now f.lengths.now f.entries.now) idle c.from_fn.ensures.items (λ i h p q k. search rules)
