-- Each of its bytes passes.
use Rattle.std.proofs.Common.{◌∙◌, rules, tests}
use Rattle.std.proofs.lemmas.Iterator.{YieldsList-from_slice}
use Rattle.std.proofs.lemmas.Iterator.Search.{all_from_yields_List}
use Rattle.text.specs.Words.{digit}
use Rattle.text.specs.WordLaws.{every_is}
use Rattle.text.proofs.is_number.Goals as goal

pub returns : goal.returns
returns c =
    let word = c.args.word.now in
    all_from_yields_List digit _ _ _ c.all.ensures.ran (YieldsList-from_slice word cc) (λ x b q k. search (rules, tests)) ∙ every_is digit word
