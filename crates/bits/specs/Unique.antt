-- One answer and one content of lent memory for each input of `number`, `put` and `surplus`.
use Rattle.std.specs.Prelude.{◌≡◌, false, List, ℕ, length, get_or, Option}
use Rattle.std.proofs.Common.{sym, ap, ◌∙◌, arith}
use Rattle.bits.specs.Bits.{unpack}
use Rattle.bits.specs.Bytes.{Bytes, length_unpack, bytes_same}
use Rattle.bits.specs.Promises.{NumberPromise, PutPromise, SurplusPromise}

pub number_unique : (bytes : List ℕ) (at width : ℕ) {r s : ℕ} → NumberPromise bytes at width r → NumberPromise bytes at width s → r ≡ s
number_unique bytes at width p q = p ∙ sym q

-- What a lent slice holds are bytes, by its type.
pub put_unique : (old : List ℕ) (at width value : ℕ) {x y : List ℕ} → Bytes x → Bytes y → PutPromise old at width value x → PutPromise old at width value y → x ≡ y
put_unique old at width value {x} {y} b c p q =
    let e : unpack x ≡ unpack y = p ∙ sym q in
    bytes_same x y b c (omega (arith, ap length e, length_unpack x, length_unpack y)) (λ p l. ap (λ u. get_or u p false) e)

pub surplus_unique : (bytes : List ℕ) (at : ℕ) {r s : Option ℕ} → SurplusPromise bytes at r → SurplusPromise bytes at s → r ≡ s
surplus_unique bytes at p q = p ∙ sym q
