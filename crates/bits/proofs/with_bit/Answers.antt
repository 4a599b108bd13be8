-- Setting or clearing the bit changes it and no other.
use Rattle.std.proofs.Common.{◌≡◌, ℕ, ◌-◌, ◌≢◌, ◌<◌, Bool, false, eqb, set, get_or, sym, ap, ◌∙◌, arith, length-set, ext_get_or, get_or-set_same, get_or-set_other, w8}
use Rattle.std.proofs.Math.Decide.{ℕ_discrete}
use Rattle.std.specs.Int.{bit_at}
use Rattle.std.proofs.lemmas.Nat.Bits.{bit_at_set_same, bit_at_set_other, bit_at_clear_same, bit_at_clear_other}
use Rattle.bits.specs.Bits.{bits}
use Rattle.bits.specs.Laws.{length_bits, get_d_bits}
use Rattle.bits.proofs.with_bit.Goals as goal

-- A byte y that has the bit b in place of the one of weight 2 ^ e, and the others of x.
changed : (x y e : ℕ) (b : Bool) → e < 8 → eqb (bit_at y e) 1 ≡ b → ((i : ℕ) → i < 8 → i ≢ e → bit_at y i ≡ bit_at x i) → bits 8 y ≡ set (bits 8 x) (7 - e) b
changed x y e b l here others =
    ext_get_or false (bits 8 y) (set (bits 8 x) (7 - e) b) (omega (arith, length_bits 8 x, length_bits 8 y, length-set (bits 8 x) (7 - e) b))
    (λ k h. at k (omega (arith, length_bits 8 y)) (ℕ_discrete (7 - k) e))
  where
    at : (k : ℕ) → k < 8 → Dec (7 - k ≡ e) → get_or (bits 8 y) k false ≡ get_or (set (bits 8 x) (7 - e) b) k false
    at k h (yes q) =
        get_d_bits 8 y k (7 - k) (omega arith) ∙ ap (λ i. eqb (bit_at y i) 1) q ∙ here
        ∙ sym (ap (λ j. get_or (set (bits 8 x) (7 - e) b) j false) {x = k} {y = 7 - e} (omega arith) ∙ get_or-set_same (bits 8 x) (7 - e) b false (omega (arith, length_bits 8 x)))
    at k h (no q) =
        get_d_bits 8 y k (7 - k) (omega arith) ∙ ap (λ v. eqb v 1) (others (7 - k) (omega arith) q)
        ∙ sym (get_or-set_other (bits 8 x) (7 - e) k b false (omega arith) ∙ get_d_bits 8 x k (7 - k) (omega arith))

pub returns-then-b : goal.returns-then-b
returns-then-b c =
    let a = c.args in
    changed a.x _ a.e a.b (omega arith)
    (ap (λ v. eqb v 1) (bit_at_set_same w8 a.x a.e (omega arith)) ∙ sym c.if-b.true)
    (λ i h n. bit_at_set_other w8 a.x a.e (omega arith) i n)

pub returns-else-b : goal.returns-else-b
returns-else-b c =
    let a = c.args in
    changed a.x _ a.e a.b (omega arith)
    (ap (λ v. eqb v 1) (bit_at_clear_same w8 a.x a.e (omega arith)) ∙ sym c.if-b.false)
    (λ i h n. bit_at_clear_other w8 a.x a.e (omega arith) i h n)
