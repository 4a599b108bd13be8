-- The word goes to the first byte that ends it.
use Rattle.std.proofs.Common.{take, ap, ◌∙◌, rules, tests}
use Rattle.std.proofs.lemmas.Iterator.{YieldsList-from_slice}
use Rattle.std.proofs.lemmas.Iterator.Search.{position_from_yields_List}
use Rattle.text.specs.Words.{ends}
use Rattle.text.specs.WordLaws.{take_word, found_end}
use Rattle.text.proofs.first_word.Goals as goal

pub returns : goal.returns
returns c =
    let text = c.args.text.now in
    ap (λ k. take k text)
    (found_end ends text c.position.result c.unwrap_or-end.result
    (position_from_yields_List ends _ _ _ c.position.ensures.ran (YieldsList-from_slice text cc) (λ x b q k. search (rules, tests))) c.unwrap_or-end.ensures)
    ∙ take_word text
