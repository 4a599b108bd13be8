-- So few bits spell a number that fits.
use Prim.Native.Nat.{◌^◌, ◌≤◌, min}
use native.Mathlib.Omega.{arith}
use Rattle.std.proofs.Math.Pow.{pow_mono}
use Rattle.bits.specs.Bits.{unpack}
use Rattle.bits.specs.Laws.{number_lt}
use Rattle.sheet.proofs.small.Goals as goal

pub overflow_cast-result : goal.overflow_cast-result
overflow_cast-result c =
    let a = c.args in
    let most : 2 ^ min a.width 32 ≤ 2 ^ 8 = pow_mono {i = min a.width 32} {j = 8} (omega arith) in
    omega (arith, c.number.ensures, number_lt (unpack a.bytes.now) a.at (min a.width 32), most)
