-- Arrays that a closure makes, as lists of what it answers place by place.
use Rattle.std.proofs.Common.{◌≡◌, List, ℕ, ◌<◌, get_or}
use denote.Param.Members.{Mut, Called}
use Rattle.std.specs.Array.{IsMapOf, IsFromFnResult}
use Rattle.bits.specs.Bits.{list_of}
use Rattle.bellkettle.specs.FieldLaws.{each_is}

module _ {F B : Type 0} (n : ℕ) (field : ℕ → B) (b : B) where
  pub mapped : {A : Type 0} (a : A) {g : Mut F (A × Unit {0}) B} {f : F} {xs : List A} {ys : List B} → IsMapOf g f xs ys n
      → ((i : ℕ) → i < n → (p q : F) → Called g p (get_or xs i a, tt) (get_or ys i b) q → get_or ys i b ≡ field i) → ys ≡ list_of n field
  mapped a m h = each_is n field b m.long (λ i l. let k = m.at i a b l in h i l k.0 k.1 k.2)

  pub made : {g : Mut F (ℕ × Unit {0}) B} {f : F} {ys : List B} → IsFromFnResult g f ys n
      → ((i : ℕ) → i < n → (p q : F) → Called g p (i, tt) (get_or ys i b) q → get_or ys i b ≡ field i) → ys ≡ list_of n field
  made m h = each_is n field b m.long (λ i l. let k = m.at i b l in h i l k.0 k.1 k.2)
