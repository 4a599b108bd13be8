-- Encoding a sheet and reading are inverse: the bytes of a sheet are read as that sheet, and bytes that are read are those of what was read.
use Rattle.std.specs.Prelude.{◌≡◌, Bool, false, List, [], ℕ, ◌+◌, ◌-◌, ◌*◌, ◌^◌, ◌≤◌, ◌<◌, length, get_or}
use Rattle.std.proofs.Common.{sym, ap, ap₂, ◌∙◌, subst, arith}
use Rattle.std.proofs.Math.Decide.{dec_lt}
use Rattle.std.proofs.Math.ListN.{get_or-eq_default}
use Rattle.bits.specs.Bits.{unpack, bytes_for}
use Rattle.bits.specs.Laws.{number_lt}
use Rattle.bits.specs.Bytes.{Bytes, bit_at, bytes_same, length_bytes_of, bytes_of_bytes, bit_at_bytes_of}
use Rattle.theory.specs.Model.Schedule.{none}
use Rattle.sheet.specs.declared.Sheet.{Sheet}
use Rattle.sheet.specs.declared.Field.{Field}
use Rattle.sheet.specs.declared.Field.TheVariants.{Count, Rank}
use Rattle.answers.specs.Answers.{given, fine, also}
use Rattle.answers.specs.AnswerLaws.{also_given}
use Rattle.sheet.specs.Fields.{Values, kind_of, ordered, fields, width, widths, value, judged, with_offset, in_order}
use Rattle.sheet.specs.Calls.{judged_on, judge_of, bits_of, packed, encoded, end_of, size_of, RanksFit, task_by, sheet_by, sheet_of, cleared, place, begin_in, kind_in, tasks_in, spelt, judged_in, tail_of, read_as, read_of}
use Rattle.sheet.specs.PlaceLaws.{places_every}
use Rattle.sheet.specs.EachLaws.{All, On, each_all, all_each}
use Rattle.sheet.specs.FormatLaws.{length_bits_of, bits_of_same, Spelt, spelt_moved, written_spelt, spelt_written, spelt_fields, spelt_is}
use Rattle.sheet.specs.InOrderLaws.{in_order_same, roomy, taken_inside}
use Rattle.sheet.specs.TailLaws.{first_one_zeros, first_one_none, tail_fine, fine_tail}
use Rattle.sheet.specs.SameLaws.{ordered_same, judged_same, sheet_by_same, kind_held, edition_held, held}
use Rattle.sheet.specs.Sound.{Within, Sound}
use Rattle.sheet.specs.SoundLaws.{judged_within, judged_sound, mark_is, values_fit}

pub length_packed : (s : Sheet) → length (packed s) ≡ end_of s
length_packed s = length_bits_of (value s) (fields (value s))

pub length_encoded : (s : Sheet) → length (encoded s) ≡ size_of s
length_encoded s = length_bytes_of (packed s) ∙ ap bytes_for (length_packed s)

-- ---- values that agree are judged and written alike, and make one sheet

module _ (v w : Values) (kind : kind_of w ≡ kind_of v) (e : (f : Field) → On (kind_of v) v f → v f ≡ w f) where
  pub fields_same : fields v ≡ fields w
  fields_same = ordered_same (kind_of v) v w e ∙ ap (λ k. ordered k w) (sym kind)

  judge_same : in_order (judged_on v) 0 (fields v) ≡ in_order (judged_on w) 0 (fields w)
  judge_same =
      in_order_same (judged_on v) (judged_on w) (fields v) 0
      (each_all (λ f. (at : ℕ) → judged_on v at f ≡ judged_on w at f) (kind_of v) v
      (λ f o at. ap (with_offset at) (judged_same (kind_of v) v w e f o ∙ ap (λ k. judged k w f) (sym kind))))
      ∙ ap (in_order (judged_on w) 0) fields_same

  pub bits_same : bits_of v (fields v) ≡ bits_of w (fields w)
  bits_same = bits_of_same v w (fields v) (each_all (λ f. v f ≡ w f) (kind_of v) v e) ∙ ap (bits_of w) fields_same

  pub made_same : sheet_of v ≡ sheet_of w
  made_same = sheet_by_same (kind_of v) v w e ∙ ap (λ k. sheet_by k w) (sym kind)

-- ---- what was judged of bytes with the sheet s that they spell

record Accepted (bytes : List ℕ) (s : Sheet) : Type 0 where
  judged_fine : in_order (judged_on (value s)) 0 (fields (value s)) ≡ fine
  inside : end_of s ≤ length bytes * 8
  last_byte : length bytes ≤ size_of s
  zeros : (k : ℕ) → end_of s ≤ k → k < size_of s * 8 → bit_at bytes k ≡ false

taken : (bytes : List ℕ) (t s : Sheet) → read_as bytes t ≡ given s → Accepted bytes t × (s ≡ t)
taken bytes t s e =
    let room = length bytes * 8 in
    let v = value t in
    let a = also_given (in_order (judged_in room v) 0 (fields v)) (also (tail_of bytes (end_of t)) (given t)) e in
    let b = also_given (tail_of bytes (end_of t)) (given t) a.1 in
    let inside : end_of t ≤ room = omega (arith, taken_inside room v (fields v) 0 (omega arith) a.0) in
    let tail = fine_tail bytes (end_of t) b.0 in
    let c = b.1 in (
      record {
        judged_fine = sym (roomy room v (fields v) 0 (omega arith)) ∙ a.0;
        inside = inside;
        last_byte = tail.1;
        zeros = λ k l h. first_one_zeros (unpack bytes) (end_of t) (size_of t * 8 - end_of t) k l (omega (arith, tail.0));
      },
      cc,
    )

-- ---- written, then read

module _ (s : Sheet) (sound : Sound s) where
  pub all_cleared : (f : Field) → On (kind_of (value s)) (value s) f → value s f ≡ value (cleared s) f
  all_cleared = held (kind_of (value s)) (value s) (mark_is (value s)) sound.edition_is

  pub kind_cleared : kind_of (value (cleared s)) ≡ kind_of (value s)
  kind_cleared = kind_held (kind_of (value s)) (value s)

  end_cleared : end_of s ≡ end_of (cleared s)
  end_cleared = ap widths (fields_same (value s) (value (cleared s)) kind_cleared all_cleared)

  encoded_tail : tail_of (encoded s) (end_of s) ≡ fine
  encoded_tail =
      tail_fine (encoded s) (end_of s) (omega (arith, first_one_none (unpack (encoded s)) (end_of s) pad past)) (omega (arith, length_encoded s))
    where
      pad : ℕ
      pad = size_of s * 8 - end_of s

      past : (k : ℕ) → k < pad → bit_at (encoded s) (end_of s + k) ≡ false
      past k l = bit_at_bytes_of (packed s) (end_of s + k) ∙ get_or-eq_default (packed s) false (omega (arith, length_packed s))

  -- what its bytes spell is what it holds
  spelt_back : RanksFit s → sheet_of (spelt (unpack (encoded s))) ≡ cleared s
  spelt_back ranks = go (spelt_is bs (value s) (λ q e. omega (arith, sound.count_most)) spells)
    where
      bs : List Bool
      bs = unpack (encoded s)

      spells : Spelt bs (value s) 0 (fields (value s))
      spells =
          spelt_moved (packed s) bs (value s) (fields (value s)) 0 (0 + end_of s) (λ p l. sym (bit_at_bytes_of (packed s) p)) (omega arith)
          (written_spelt (value s) (fields (value s)) []
          (each_all (λ f. value s f < 2 ^ width f) (kind_of (value s)) (value s) (values_fit (kind_of (value s)) (value s) sound (mark_is (value s)) ranks)))

      go : (kind_of (spelt bs) ≡ kind_of (value s)) × (fields (value s) ≡ fields (spelt bs)) × All (λ f. value s f ≡ spelt bs f) (fields (value s)) → sheet_of (spelt bs) ≡ cleared s
      go (kind, same, all) = sym (made_same (value s) (spelt bs) kind (all_each (λ f. value s f ≡ spelt bs f) (kind_of (value s)) (value s) all))

-- ---- read, then written

module _ (bytes : List ℕ) (v : Values) (spells : Spelt (unpack bytes) v 0 (fields v)) (ok : Accepted bytes (sheet_of v)) where
  kind_read : kind_of (value (sheet_of v)) ≡ kind_of v
  kind_read = kind_held (kind_of v) v

  within_read : Within (kind_of v) (value (sheet_of v))
  within_read = subst (λ k. Within k (value (sheet_of v))) kind_read (judged_within (value (sheet_of v)) ok.judged_fine)

  all_read : (f : Field) → On (kind_of v) v f → v f ≡ value (sheet_of v) f
  all_read = held (kind_of v) v (mark_is v) (λ u. edition_held (kind_of v) v u (within_read.edition_is u))

  end_read : widths (fields v) ≡ end_of (sheet_of v)
  end_read = ap widths (fields_same v (value (sheet_of v)) kind_read all_read)

  long : length (encoded (sheet_of v)) ≡ length bytes
  long = length_encoded (sheet_of v) ∙ omega (arith, ok.inside, ok.last_byte)

  bits_are : (p : ℕ) → p < length bytes * 8 → get_or (bits_of v (fields v)) p false ≡ bit_at bytes p
  bits_are p l = go (dec_lt p (widths (fields v)))
    where
      go : Dec (p < widths (fields v)) → get_or (bits_of v (fields v)) p false ≡ bit_at bytes p
      go (yes h) = spelt_written v (unpack bytes) (fields v) 0 spells p h ∙ ap (bit_at bytes) {x = 0 + p} {y = p} (omega arith)
      go (no h) =
          get_or-eq_default (bits_of v (fields v)) false (omega (arith, length_bits_of v (fields v)))
          ∙ sym (ok.zeros p (omega (arith, end_read)) (omega (arith, ok.last_byte)))

  written_back : Bytes bytes → encoded (sheet_of v) ≡ bytes
  written_back fit =
      bytes_same (encoded (sheet_of v)) bytes (bytes_of_bytes (packed (sheet_of v))) fit long
      (λ p l. bit_at_bytes_of (packed (sheet_of v)) p ∙ ap (λ bs. get_or bs p false) (sym (bits_same v (value (sheet_of v)) kind_read all_read)) ∙ bits_are p (omega (arith, long)))

-- ---- the sheet, and its bytes

pub encoded_read : (s : Sheet) → RanksFit s → judge_of s ≡ fine → read_of (encoded s) ≡ given (cleared s)
unfolding read_of judge_of
encoded_read s ranks e =
    let sound = judged_sound s e in
    let v = value (cleared s) in
    ap (read_as (encoded s)) (spelt_back s sound ranks)
    ∙ ap₂ (λ a b. also a (also b (given (cleared s))))
    (roomy (length (encoded s) * 8) v (fields v) 0 (omega (arith, length_encoded s, end_cleared s sound)) ∙ sym (judge_same (value s) v (kind_cleared s sound) (all_cleared s sound)) ∙ e)
    (ap (tail_of (encoded s)) (sym (end_cleared s sound)) ∙ encoded_tail s sound)

pub read_encoded : (bytes : List ℕ) (s : Sheet) → Bytes bytes → read_of bytes ≡ given s → encoded s ≡ bytes
unfolding read_of
read_encoded bytes s fit e =
    let v = spelt (unpack bytes) in
    let r = taken bytes (sheet_of v) s e in ap encoded r.1 ∙ written_back bytes v (spelt_fields (unpack bytes)) r.0 fit

-- A sheet that is read would be judged fine.
pub read_judged : (bytes : List ℕ) (s : Sheet) → read_of bytes ≡ given s → (judge_of s ≡ fine) × RanksFit s
unfolding read_of judge_of spelt
read_judged bytes s e =
    let bs = unpack bytes in
    let v = spelt bs in
    let kind = kind_in bs in
    let n = tasks_in bs kind in
    let r = taken bytes (sheet_of v) s e in
    subst (λ x. (judge_of x ≡ fine) × RanksFit x) (sym r.1)
    (r.0.judged_fine, places_every 16 none (task_by v) (λ t. t.rank < 256) (v Count) (omega arith) (λ j. number_lt bs (place kind n (begin_in bs kind n) (Rank j)) 8))
