-- Laws of what follows the last field: what is judged of it.
use Rattle.std.specs.Prelude.{◌≡◌, ◌⊎◌, Bool, List, [], ◌∷◌, ltb, length, Some, None}
use Rattle.std.proofs.Math.Path.{refl, ap}
use Rattle.std.proofs.Common.{sym, ap₂, ◌∙◌, inl, inr, ltb-false, lt-ltb, le-ltb}
use Rattle.std.proofs.Math.Bool.{true, false}
use Prim.Native.Nat.{ℕ, ◌*◌, ◌≤◌, ◌<◌}
use Rattle.bits.specs.Bits.{unpack, bytes_for, surplus_of}
use Rattle.bits.specs.SurplusLaws.{surplus_none, surplus_some}
pub use Rattle.bits.specs.SurplusLaws.{first_one_least, first_one_most, first_one_zeros, first_one_is, first_one_unique, bit_one, bit_zero, first_one_here, first_one_past, first_one_end, first_one_none, first_one_same}
use Rattle.answers.specs.Answers.{refused, fine, when, with_value, also}
use Rattle.answers.specs.AnswerLaws.{when_fine, with_value_fine, also_given}
use Rattle.sheet.specs.Calls.{wrong_bit, tail_of}

-- ---- what is judged

module _ (bytes : List ℕ) (end : ℕ) where
  abbrev wrong : ℕ
  wrong = wrong_bit (unpack bytes) end

  -- a bit is 1 before the byte ends,
  pub tail_wrong : wrong < bytes_for end * 8 → tail_of bytes end ≡ refused 9 (wrong ∷ [])
  tail_wrong h = ap (λ b. with_value wrong (also (when b 9) (when (ltb (bytes_for end) (length bytes)) 9))) (lt-ltb wrong (bytes_for end * 8) h)

  -- a byte follows,
  pub tail_longer : bytes_for end < length bytes → tail_of bytes end ≡ refused 9 (wrong ∷ [])
  tail_longer h = go (ltb wrong (bytes_for end * 8))
    where
      go : (b : Bool) → with_value wrong (also (when b 9) (when (ltb (bytes_for end) (length bytes)) 9)) ≡ refused 9 (wrong ∷ [])
      go true = refl
      go false = ap (λ b. with_value wrong (when b 9)) (lt-ltb (bytes_for end) (length bytes) h)

  -- or neither
  pub tail_fine : bytes_for end * 8 ≤ wrong → length bytes ≤ bytes_for end → tail_of bytes end ≡ fine
  tail_fine h g = ap₂ (λ a b. with_value wrong (also (when a 9) (when b 9))) (le-ltb wrong (bytes_for end * 8) h) (le-ltb (bytes_for end) (length bytes) g)

  pub fine_tail : tail_of bytes end ≡ fine → (bytes_for end * 8 ≤ wrong) × (length bytes ≤ bytes_for end)
  fine_tail e =
      let both = also_given (when (ltb wrong (bytes_for end * 8)) 9) (when (ltb (bytes_for end) (length bytes)) 9) (with_value_fine wrong _ e) in
      (ltb-false wrong (bytes_for end * 8) (when_fine _ 9 both.0), ltb-false (bytes_for end) (length bytes) (when_fine _ 9 both.1))

  -- as `surplus` answers
  pub tail_none : surplus_of bytes end ≡ None → tail_of bytes end ≡ fine
  tail_none e = let both = surplus_none bytes end e in tail_fine both.0 both.1

  pub tail_some : {bit : ℕ} → surplus_of bytes end ≡ Some bit → tail_of bytes end ≡ refused 9 (bit ∷ [])
  tail_some {bit} e = let both = surplus_some bytes end e in go both.1 ∙ ap (λ k. refused 9 (k ∷ [])) (sym both.0)
    where
      go : (wrong < bytes_for end * 8) ⊎ (bytes_for end < length bytes) → tail_of bytes end ≡ refused 9 (wrong ∷ [])
      go (inl h) = tail_wrong h
      go (inr h) = tail_longer h
