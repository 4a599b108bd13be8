-- A longer path has what its first pair adds, and the bound of the rest.
use Rattle.std.proofs.Common.{◌-◌, length, take, drop, arith, length-drop, ap}
use Rattle.chain.specs.PathLaws.{pair_near, bound_near, rest_part}
use Rattle.chain.proofs.path.+bound.Goals as goal

pub overflow_add-result : goal.overflow_add-result
overflow_add-result t c =
    let path = c.args.path.now in
    omega (
      arith,
      c.requires,
      c.pair_bound.ensures,
      pair_near c.row-item.result c.index-rest-0.result,
      c.bound.ensures,
      bound_near (take (length path - 1) (drop 1 path)),
      length-drop 1 path,
      ap length (rest_part path),
    )
