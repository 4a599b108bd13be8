-- Writing and reading a sheet are inverse, from call to call.
use Rattle.std.specs.Prelude.{◌≡◌, ◌↔◌, List, ◌++◌, ℕ, ◌≤◌, ltb, length, take, drop, Result, Ok}
use Rattle.std.proofs.Common.{sym, ap, ◌∙◌, arith, take_at, le-ltb, ltb-false}
use Rattle.bits.specs.Bits.{written, bytes_for}
use Rattle.bits.specs.Bytes.{Bytes as AreBytes}
use Rattle.answers.specs.declared.Refusal.{Refusal}
use Rattle.answers.specs.Answers.{given, fine, when, also, told}
use Rattle.answers.specs.AnswerLaws.{also_given, when_fine, told_unique}
use Rattle.sheet.specs.declared.Sheet.{Sheet}
use Rattle.sheet.specs.Calls.{judge_of, packed, encoded, size_of, write_of, buffer_after, RanksFit, cleared, read_of}
use Rattle.sheet.specs.Fields.{kind_of, fields, value}
use Rattle.sheet.specs.Promises.{ReadPromise, WritePromise}
use Rattle.sheet.specs.EachLaws.{All, each_all}
use Rattle.sheet.specs.SizeLaws.{least, most, size_least, size_most}
use Rattle.sheet.specs.SoundLaws.{judged_sound}
use Rattle.sheet.specs.EncodedLaws.{length_packed, length_encoded, fields_same, all_cleared, kind_cleared, encoded_read, read_encoded, read_judged}

-- "the same counts, tasks and chain": the same fields, with the same in each.
pub record Same (s t : Sheet) : Type 0 where
  pub fields_alike : fields (value s) ≡ fields (value t)
  pub values_alike : All (λ f. value s f ≡ value t f) (fields (value s))

-- what was written is judged fine, and as long as its bytes
written_fine : (s : Sheet) (room n : ℕ) → write_of s room ≡ given n → (judge_of s ≡ fine) × (n ≡ size_of s)
unfolding write_of
written_fine s room n e =
    let a = also_given (judge_of s) (also (when (ltb room (size_of s)) 14) (given (size_of s))) e in
    let b = also_given (when (ltb room (size_of s)) 14) (given (size_of s)) a.1 in
    let c = b.1 in (a.0, cc)

-- a sheet that is judged fine is written where there is room
fine_written : (s : Sheet) (room : ℕ) → judge_of s ≡ fine → size_of s ≤ room → write_of s room ≡ given (size_of s)
unfolding write_of
fine_written s room e h =
    ap (λ j. also j (also (when (ltb room (size_of s)) 14) (given (size_of s)))) e
    ∙ ap (λ b. also (when b 14) (given (size_of s))) (le-ltb room (size_of s) h)

written_encoded : (s : Sheet) (old : List ℕ) → written (packed s) old ≡ encoded s ++ drop (size_of s) old
unfolding written
written_encoded s old = ap (λ k. encoded s ++ drop (bytes_for k) old) (length_packed s)

cleared_same : (s : Sheet) → judge_of s ≡ fine → Same s (cleared s)
cleared_same s e =
    let v = value s in
    let sound = judged_sound s e in
    record {
      fields_alike = fields_same v (value (cleared s)) (kind_cleared s sound) (all_cleared s sound);
      values_alike = each_all (λ f. v f ≡ value (cleared s) f) (kind_of v) v (all_cleared s sound);
    }

-- ---- the theorems

-- "Writing a sheet and reading it gives the same counts, tasks and chain", the unused places zero.
pub write_read : (s : Sheet) (old new : List ℕ) (n : ℕ) (x : Result Sheet Refusal) → RanksFit s → WritePromise s old (Ok n) new → ReadPromise (take n new) x
    → (x ≡ Ok (cleared s)) × Same s (cleared s)
write_read s old new n x ranks w r =
    let f = written_fine s (length old) n (sym w.0) in
    let front : take n new ≡ encoded s =
    ap (take n) (w.1 ∙ written_encoded s old) ∙ take_at (encoded s) (drop (size_of s) old) n (length_encoded s ∙ sym f.1) in
    let e : read_of (take n new) ≡ given (cleared s) = ap read_of front ∙ encoded_read s ranks f.0 in
    (told_unique x (Ok (cleared s)) (r ∙ e), cleared_same s f.0)

-- "Reading accepted bytes and writing gives the same bytes", and the rest of the buffer as it was.
pub read_write : (bytes old new : List ℕ) (s : Sheet) (w : Result ℕ Refusal) → AreBytes bytes → ReadPromise bytes (Ok s) → WritePromise s old w new
    → length bytes ≤ length old → (w ≡ Ok (length bytes)) × (new ≡ bytes ++ drop (length bytes) old)
read_write bytes old new s w fit r h room =
    let e : read_of bytes ≡ given s = sym r in
    let same : encoded s ≡ bytes = read_encoded bytes s fit e in
    let size : size_of s ≡ length bytes = sym (length_encoded s) ∙ ap length same in
    let told_is : told w ≡ given (length bytes) = h.0 ∙ fine_written s (length old) (read_judged bytes s e).0 (omega (arith, size)) ∙ ap given size in (
      told_unique w (Ok (length bytes)) told_is,
      h.1 ∙ ap (λ a. buffer_after a s old) told_is ∙ written_encoded s old ∙ ap (λ b. b ++ drop (size_of s) old) same ∙ ap (λ k. bytes ++ drop k old) size,
    )

-- Bytes are accepted exactly when they are the encoding of a sheet that is judged fine.
pub accepted_exactly : (bytes : List ℕ) → AreBytes bytes
    → ((s : Sheet) × (read_of bytes ≡ given s)) ↔ ((s : Sheet) × RanksFit s × (judge_of s ≡ fine) × (encoded s ≡ bytes))
accepted_exactly bytes fit = (
  λ r. let j = read_judged bytes r.0 r.1 in (r.0, j.1, j.0, read_encoded bytes r.0 fit r.1),
  λ r. (cleared r.0, ap read_of (sym r.3) ∙ encoded_read r.0 r.1 r.2),
)

-- "A sheet is 7 to 94 bytes", and one of the second edition 12 to 178.
pub size_range : (s : Sheet) → judge_of s ≡ fine → (least (kind_of (value s)) ≤ length (encoded s)) × (length (encoded s) ≤ most (kind_of (value s)))
size_range s e =
    let kind = kind_of (value s) in (
      omega (arith, length_encoded s, size_least kind (value s) (judged_sound s e)),
      omega (arith, length_encoded s, size_most kind (value s)),
    )

-- and so many are written
pub written_range : (s : Sheet) (room n : ℕ) → write_of s room ≡ given n → (least (kind_of (value s)) ≤ n) × (n ≤ most (kind_of (value s)))
written_range s room n e =
    let f = written_fine s room n e in
    let r = size_range s f.0 in
    (omega (arith, r.0, f.1, length_encoded s), omega (arith, r.1, f.1, length_encoded s))

-- in the room that there is
pub written_fits : (s : Sheet) (room n : ℕ) → write_of s room ≡ given n → n ≤ room
unfolding write_of
written_fits s room n e =
    let a = also_given (judge_of s) (also (when (ltb room (size_of s)) 14) (given (size_of s))) e in
    let b = also_given (when (ltb room (size_of s)) 14) (given (size_of s)) a.1 in
    let size = b.1 in
    let is : size_of s ≡ n = cc in
    omega (arith, ltb-false room (size_of s) (when_fine _ 14 b.0))
