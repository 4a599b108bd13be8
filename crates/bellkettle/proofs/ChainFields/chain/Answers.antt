-- Each entry is made as that of its index, behind those of the chains before.
use Rattle.std.proofs.Common.{rules, get_or, ◌+◌, ◌*◌}
use Rattle.bellkettle.proofs.Made.{made}
use Rattle.bellkettle.proofs.ChainFields.chain.Goals as goal

pub returns : goal.returns
returns c = let m = made 16 (λ i. get_or c.args.self.now.entries.now (16 * c.args.c + i) 0) 0 c.from_fn.ensures.items (λ i h p q k. search rules) in search rules
