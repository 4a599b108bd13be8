-- All of it is the front.
use Rattle.std.proofs.Common.{◌≤◌, sym, ap, ◌∙◌, take_all, length, take}
use Rattle.text.proofs.Page.as_slice.Goals as goal

pub returns : goal.returns
returns c =
    let short : length c.as_slice.result.now ≤ 4096 = c.as_slice.ensures.fits in
    sym (take_all 4096 c.as_slice.result.now short) ∙ ap (take 4096) (c.as_slice.ensures.value ∙ c.self.view_is)
