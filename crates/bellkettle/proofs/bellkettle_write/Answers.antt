-- The sheet that the fields make is written, and its size, at most 178, handed over.
use Rattle.std.proofs.Common.{rules, length}
use Rattle.bellkettle.specs.SizeLaws.{size_most}
use Rattle.bellkettle.proofs.bellkettle_write.Goals as goal

pub map-requires : goal.map-requires
map-requires c = λ size is called there. let m = size_most c.sheet_from-s.result (length c.args.out.now) c.write.result c.write.ensures.0 is in search rules
