-- What lies past the 179th byte never matters to the reader: a sheet has at most 178 bytes, and one more is refused whatever it is.
use Rattle.std.specs.Prelude.{◌≡◌, Bool, false, List, [], ◌∷◌, ℕ, ◌+◌, ◌-◌, ◌*◌, ◌/◌, ◌%◌, ◌≤◌, ◌<◌, length, get_or, take}
use Rattle.std.proofs.Common.{sym, ap, ap₂, ◌∙◌, arith, take_all, length-take-le, get_or-take}
use Rattle.std.proofs.Math.Decide.{dec_le}
use Rattle.bits.specs.Bits.{bits, unpack, bytes_for}
use Rattle.bits.specs.Bytes.{bit_at, get_d_unpack}
use Rattle.sheet.specs.declared.Sheet.{Sheet}
use Rattle.answers.specs.Answers.{given, refused, also}
use Rattle.sheet.specs.Fields.{Values, kind_of, fields, value}
use Rattle.sheet.specs.Calls.{end_of, sheet_of, spelt, read_as, read_of}
use Rattle.sheet.specs.EachLaws.{All, all_each}
use Rattle.sheet.specs.FormatLaws.{spelt_moved, spelt_fields, spelt_is, spelt_count}
use Rattle.sheet.specs.InOrderLaws.{roomy}
use Rattle.sheet.specs.TailLaws.{first_one_same, tail_longer}
use Rattle.sheet.specs.SizeLaws.{ends_by}
use Rattle.sheet.specs.EncodedLaws.{made_same}

-- every field ends by the 178th byte, so the bits up to there spell the whole sheet
sheet_same : (bs cs : List Bool) → ((p : ℕ) → p < 1424 → get_or bs p false ≡ get_or cs p false) → sheet_of (spelt bs) ≡ sheet_of (spelt cs)
sheet_same bs cs same = go (spelt_is cs u (spelt_count bs) (spelt_moved bs cs u (fields u) 0 1424 same (omega (arith, ends_by u)) (spelt_fields bs)))
  where
    u : Values
    u = spelt bs

    go : (kind_of (spelt cs) ≡ kind_of u) × (fields u ≡ fields (spelt cs)) × All (λ f. u f ≡ spelt cs f) (fields u) → sheet_of u ≡ sheet_of (spelt cs)
    go (kind, fs, all) = made_same u (spelt cs) kind (all_each (λ f. u f ≡ spelt cs f) (kind_of u) u all)

-- and longer bytes are judged alike
long_same : (s : Sheet) (x y : List ℕ) → 179 ≤ length x → 179 ≤ length y → ((p : ℕ) → p < 1424 → bit_at x p ≡ bit_at y p) → read_as x s ≡ read_as y s
long_same s x y p q same =
    let v = value s in
    let end = end_of s in
    ap₂ (λ a b. also a (also b (given s)))
    (roomy (length x * 8) v (fields v) 0 (omega (arith, ends_by v)) ∙ sym (roomy (length y * 8) v (fields v) 0 (omega (arith, ends_by v))))
    (tail_longer x end (omega (arith, ends_by v))
    ∙ ap (λ w. refused 9 (w ∷ [])) (first_one_same (unpack x) (unpack y) end (bytes_for end * 8 - end) (λ k l. same k (omega (arith, ends_by v))))
    ∙ sym (tail_longer y end (omega (arith, ends_by v))))

pub read_front : (bytes : List ℕ) (k : ℕ) → 179 ≤ k → read_of (take k bytes) ≡ read_of bytes
unfolding read_of
read_front bytes k h = go (dec_le (length bytes) k)
  where
    front : List ℕ
    front = take k bytes

    go : Dec (length bytes ≤ k) → read_of front ≡ read_of bytes
    go (yes l) = ap read_of (take_all k bytes l)
    go (no l) =
        let long : length front ≡ k = length-take-le k bytes (omega arith) in
        ap (read_as front) (sheet_same (unpack front) (unpack bytes) (λ p g. bit p g long))
        ∙ long_same (sheet_of (spelt (unpack bytes))) front bytes (omega arith) (omega arith) (λ p g. bit p g long)
      where
        bit : (p : ℕ) → p < 1424 → length front ≡ k → bit_at front p ≡ bit_at bytes p
        bit p g long =
            ap (bit_at front) {x = p} {y = p / 8 * 8 + p % 8} (omega arith)
            ∙ get_d_unpack front (p / 8) (p % 8) (omega arith) (omega arith)
            ∙ ap (λ x. get_or (bits 8 x) (p % 8) false) (get_or-take k bytes (p / 8) 0 (omega arith))
            ∙ sym (ap (bit_at bytes) {x = p} {y = p / 8 * 8 + p % 8} (omega arith) ∙ get_d_unpack bytes (p / 8) (p % 8) (omega arith) (omega arith))
