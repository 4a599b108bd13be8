-- The least multiple of a number that is at least the response is less than one more of it would be.
use Rattle.std.proofs.Common.{arith}
use Rattle.recurrence.specs.BoundLaws.{up_most}
use Rattle.recurrence.proofs.pair_bound.Goals as goal

pub overflow_add-result : goal.overflow_add-result
overflow_add-result c = omega (arith, c.up.ensures, up_most c.gcd-common.result c.args.response)
