-- The numbers of refusal that each call may give.
use Rattle.std.specs.Prelude.{◌≡◌, refl, ◌≢◌, ℕ, ◌+◌, ◌*◌, ◌≤◌, ltb, leb, length}
use Rattle.std.proofs.Common.{sym, ◌∙◌, arith}
use mathlib.Core.List.{List, [], ◌∷◌}
use Rattle.bits.specs.Bits.{unpack, bytes_for}
use Rattle.sheet.specs.declared.Sheet.{Sheet}
use Rattle.sheet.specs.declared.Field.{Field}
use Rattle.sheet.specs.declared.Field.TheVariants.{Mark, Edition, Count, Period, Budget, Rank, Chains, Limit, Length, Entry}
use Rattle.answers.specs.Answers.{Judgement, given, refused}
use Rattle.answers.specs.NumberLaws.{Numbered, given_numbered, refused_numbered, numbered_wider, when_numbered, with_value_numbered, also_numbered, Only, given_only, refused_only, when_only, also_only, only_wider, Never}
use Rattle.sheet.specs.Fields.{Values, Kind, kind_of, fields, width, value, outside, among, judged, offset, with_offset, in_order}
use Rattle.sheet.specs.Calls.{judge_of, end_of, size_of, write_of, sheet_of, spelt, judged_in, wrong_bit, tail_of, read_as, read_of}

module _ {low high : ℕ} where
  with_offset_numbered : (at : ℕ) {j : Judgement} → Numbered low high j → Numbered low high (with_offset at j)
  with_offset_numbered at {j = given u} n = given_numbered u
  with_offset_numbered at {j = refused number values} n = refused_numbered number (offset number at) (n.least refl) (n.most refl)

  in_order_numbered : {judge : ℕ → Field → Judgement} (fs : List Field) (at : ℕ) → ((at : ℕ) (f : Field) → Numbered low high (judge at f)) → Numbered low high (in_order judge at fs)
  unfolding in_order
  in_order_numbered [] at n = given_numbered tt
  in_order_numbered (f ∷ fs) at n = also_numbered (n at f) (in_order_numbered fs (at + width f) n)

judged_numbered : (kind : Kind) (v : Values) (f : Field) → Numbered 2 17 (judged kind v f)
judged_numbered kind v Mark = given_numbered tt
judged_numbered kind v Edition = when_numbered (outside 2 2 (v Edition)) 16 (omega arith) (omega arith)
judged_numbered kind v Count = when_numbered (outside 1 16 (v Count)) 2 (omega arith) (omega arith)
judged_numbered kind v (Period i) = when_numbered (outside 1 100000 (v (Period i))) 3 (omega arith) (omega arith)
judged_numbered kind v (Budget i) = when_numbered (outside 1 (v (Period i)) (v (Budget i))) 4 (omega arith) (omega arith)
judged_numbered kind v (Rank i) = when_numbered (among (λ j. v (Rank j)) i (v (Rank i))) 5 (omega arith) (omega arith)
judged_numbered kind v Chains = when_numbered (outside 1 8 (v Chains)) 17 (omega arith) (omega arith)
judged_numbered kind v (Limit c) = when_numbered (outside 0 4000000 (v (Limit c))) 13 (omega arith) (omega arith)
judged_numbered kind v (Length c) = when_numbered (outside 1 (v Count) (v (Length c))) 6 (omega arith) (omega arith)
judged_numbered kind v (Entry c i) =
    also_numbered (when_numbered (leb (v Count) (v (Entry c i))) 7 (omega arith) (omega arith))
    (when_numbered (among (λ j. v (Entry c j)) i (v (Entry c i))) 8 (omega arith) (omega arith))

-- A sheet handed over in memory is refused with 2 to 17,
pub judge_numbered : (s : Sheet) → Numbered 2 17 (judge_of s)
unfolding judge_of
judge_numbered s = in_order_numbered (fields (value s)) 0 (λ at f. with_offset_numbered at (judged_numbered (kind_of (value s)) (value s) f))

-- and so is one that is to be written.
pub write_numbered : (s : Sheet) (room : ℕ) → Numbered 2 17 (write_of s room)
unfolding write_of
write_numbered s room =
    also_numbered (judge_numbered s)
    (also_numbered (when_numbered (ltb room (size_of s)) 14 (omega arith) (omega arith)) (given_numbered (size_of s)))

judged_in_numbered : (room : ℕ) (v : Values) (at : ℕ) (f : Field) → Numbered 1 17 (judged_in room v at f)
judged_in_numbered room v at f =
    with_offset_numbered at
    (also_numbered (when_numbered (ltb room (at + width f)) 1 (omega arith) (omega arith))
    (numbered_wider (judged_numbered (kind_of v) v f) (omega arith) (omega arith)))

tail_numbered : (bytes : List ℕ) (end : ℕ) → Numbered 1 17 (tail_of bytes end)
tail_numbered bytes end =
    let wrong = wrong_bit (unpack bytes) end in
    with_value_numbered wrong
    (also_numbered (when_numbered (ltb wrong (bytes_for end * 8)) 9 (omega arith) (omega arith))
    (when_numbered (ltb (bytes_for end) (length bytes)) 9 (omega arith) (omega arith)))

read_as_numbered : (bytes : List ℕ) (s : Sheet) → Numbered 1 17 (read_as bytes s)
read_as_numbered bytes s =
    also_numbered (in_order_numbered (fields (value s)) 0 (judged_in_numbered (length bytes * 8) (value s)))
    (also_numbered (tail_numbered bytes (end_of s)) (given_numbered s))

-- Bytes are refused with 1 to 17.
pub read_numbered : (bytes : List ℕ) → Numbered 1 17 (read_of bytes)
unfolding read_of
read_numbered bytes = read_as_numbered bytes (sheet_of (spelt (unpack bytes)))

-- ---- the fields' own numbers: 2 to 8, 13, 16 and 17

pub record FieldNumber (n : ℕ) : Type 0 where
  pub least : 2 ≤ n
  pub most : n ≤ 17
  pub between : 9 ≤ n → n ≤ 15 → n ≡ 13

own : (n : ℕ) → 2 ≤ n → n ≤ 8 → FieldNumber n
own n l h = record { least = l; most = omega arith; between = λ g k. omega arith }

later : (n : ℕ) → 13 ≤ n → n ≤ 17 → (n ≤ 15 → n ≡ 13) → FieldNumber n
later n l h e = record { least = omega arith; most = h; between = λ g k. e k }

judged_only : (kind : Kind) (v : Values) (f : Field) → Only FieldNumber (judged kind v f)
judged_only kind v Mark = given_only tt
judged_only kind v Edition = when_only (outside 2 2 (v Edition)) 16 (later 16 (omega arith) (omega arith) (λ k. omega arith))
judged_only kind v Count = when_only (outside 1 16 (v Count)) 2 (own 2 (omega arith) (omega arith))
judged_only kind v (Period i) = when_only (outside 1 100000 (v (Period i))) 3 (own 3 (omega arith) (omega arith))
judged_only kind v (Budget i) = when_only (outside 1 (v (Period i)) (v (Budget i))) 4 (own 4 (omega arith) (omega arith))
judged_only kind v (Rank i) = when_only (among (λ j. v (Rank j)) i (v (Rank i))) 5 (own 5 (omega arith) (omega arith))
judged_only kind v Chains = when_only (outside 1 8 (v Chains)) 17 (later 17 (omega arith) (omega arith) (λ k. omega arith))
judged_only kind v (Limit c) = when_only (outside 0 4000000 (v (Limit c))) 13 (later 13 (omega arith) (omega arith) (λ k. omega arith))
judged_only kind v (Length c) = when_only (outside 1 (v Count) (v (Length c))) 6 (own 6 (omega arith) (omega arith))
judged_only kind v (Entry c i) =
    also_only (when_only (leb (v Count) (v (Entry c i))) 7 (own 7 (omega arith) (omega arith)))
    (when_only (among (λ j. v (Entry c j)) i (v (Entry c i))) 8 (own 8 (omega arith) (omega arith)))

module _ {P : ℕ → Type 0} where
  with_offset_only : (at : ℕ) {j : Judgement} → Only P j → Only P (with_offset at j)
  with_offset_only at {j = given u} n = given_only u
  with_offset_only at {j = refused number values} n = refused_only number (offset number at) (n.holds refl)

  in_order_only : {judge : ℕ → Field → Judgement} (fs : List Field) (at : ℕ) → ((at : ℕ) (f : Field) → Only P (judge at f)) → Only P (in_order judge at fs)
  unfolding in_order
  in_order_only [] at n = given_only tt
  in_order_only (f ∷ fs) at n = also_only (n at f) (in_order_only fs (at + width f) n)

-- A sheet handed over in memory is judged for those only.
pub judge_only : (s : Sheet) → Only FieldNumber (judge_of s)
unfolding judge_of
judge_only s = in_order_only (fields (value s)) 0 (λ at f. with_offset_only at (judged_only (kind_of (value s)) (value s) f))

-- 9 to 12, 14 and 15 are none of them.
pub judge_never : (n : ℕ) → 9 ≤ n → n ≤ 15 → n ≢ 13 → (s : Sheet) → Never n (judge_of s)
judge_never n least most other s = only_wider (λ number p e. other (sym e ∙ p.between (omega arith) (omega arith))) (judge_only s)
