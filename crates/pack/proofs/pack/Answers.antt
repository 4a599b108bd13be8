-- What is written fits where it is put.
use Rattle.std.proofs.Common.{sym, arith}
use Rattle.std.proofs.lemmas.List.{length-take-le}
use Rattle.sheet.specs.RoundTrip.{written_fits}
use Rattle.pack.proofs.pack.Goals as goal

pub slice_bounds-result-end : goal.slice_bounds-result-end
slice_bounds-result-end c = sym (length-take-le _ c.write.new.out (omega (arith, written_fits _ _ _ (sym c.in_ok-size.ensures.0))))
