-- Laws of bytes by their bits.
use Rattle.std.specs.Prelude.{◌≡◌, refl, Bool, false, List, [], ◌∷◌, ◌++◌, set}
use Rattle.std.proofs.Common.{sym, ap₂, ◌∙◌, append_assoc, le_of_suc-le-suc, arith, length-append, get_or-append-add, get_or-drop, ext_get_or}
use Rattle.std.proofs.Math.Path.{ap}
use Prim.Native.Nat.{ℕ, zero, suc, ◌+◌, ◌*◌, ◌/◌, ◌%◌, ◌≤◌, ◌<◌}
use Rattle.std.proofs.Math.Decide.{dec_lt}
use Rattle.std.proofs.Math.ListN.{length, get_or, drop, get_or-append, get_or-eq_default}
use Rattle.std.proofs.lemmas.List.Edits.{sets, sets-eq}
use Rattle.std.proofs.lemmas.List.{set-append_left}
use Rattle.std.proofs.Math.Seq.{drop-append-add}
use Rattle.bits.specs.Bits.{bits, unpack, number, bytes_for, bytes_of, written}
use Rattle.bits.specs.Lists.{set_append_add, length_list_of, get_d_list_of}
use Rattle.bits.specs.Laws.{length_bits, number_lt, number_same, number_zero, number_bits, bits_number}

-- What a list of u8 is known to hold.
abbrev pub Bytes : List ℕ → Type 0
Bytes s = (i : ℕ) → get_or s i 0 < 256

abbrev pub bit_at : List ℕ → ℕ → Bool
bit_at s p = get_or (unpack s) p false

pub length_unpack : (s : List ℕ) → length (unpack s) ≡ length s * 8
unfolding unpack
length_unpack [] = refl
length_unpack (x ∷ xs) = length-append (bits 8 x) (unpack xs) ∙ omega (arith, length_bits 8 x, length_unpack xs)

-- bit k of byte i
pub get_d_unpack : (s : List ℕ) (i k : ℕ) → i < length s → k < 8 → bit_at s (i * 8 + k) ≡ get_or (bits 8 (get_or s i 0)) k false
unfolding unpack
get_d_unpack [] i k h g = absurd (omega arith)
get_d_unpack (x ∷ xs) zero k h g =
    ap (λ n. get_or (bits 8 x ++ unpack xs) n false) {x = 0 * 8 + k} {y = k} (omega arith)
    ∙ get_or-append (bits 8 x) (unpack xs) false k (omega (arith, length_bits 8 x))
get_d_unpack (x ∷ xs) (suc i) k h g =
    ap (λ n. get_or (bits 8 x ++ unpack xs) n false) {x = suc i * 8 + k} {y = length (bits 8 x) + (i * 8 + k)} (omega (arith, length_bits 8 x))
    ∙ get_or-append-add (bits 8 x) (unpack xs) (i * 8 + k) false
    ∙ get_d_unpack xs i k (le_of_suc-le-suc h) g

-- a byte is the number of its bits
pub byte_number : (s : List ℕ) (i : ℕ) → Bytes s → i < length s → number (unpack s) (i * 8) 8 ≡ get_or s i 0
byte_number s i b h =
    number_same (unpack s) (bits 8 (get_or s i 0)) (i * 8) 0 8 (λ k l. get_d_unpack s i k h l ∙ ap (λ n. get_or (bits 8 (get_or s i 0)) n false) {x = k} {y = 0 + k} (omega arith))
    ∙ number_bits 8 (get_or s i 0) (b i)

-- and past the end there is none
pub byte_past : (s : List ℕ) (i : ℕ) → length s ≤ i → number (unpack s) (i * 8) 8 ≡ 0
byte_past s i h = number_zero (unpack s) (i * 8) 8 (λ k l. get_or-eq_default (unpack s) false (omega (arith, length_unpack s)))

-- so it is what a list of bytes is read as
pub byte_read : (s : List ℕ) (i : ℕ) → Bytes s → number (unpack s) (i * 8) 8 ≡ get_or s i 0
byte_read s i b = go (dec_lt i (length s))
  where
    go : Dec (i < length s) → number (unpack s) (i * 8) 8 ≡ get_or s i 0
    go (yes h) = byte_number s i b h
    go (no h) = byte_past s i (omega arith) ∙ sym (get_or-eq_default s 0 {n = i} (omega arith))

-- so bytes are known by their bits
pub bytes_same : (s t : List ℕ) → Bytes s → Bytes t → length s ≡ length t → ((p : ℕ) → p < length s * 8 → bit_at s p ≡ bit_at t p) → s ≡ t
bytes_same s t p q e h =
    ext_get_or 0 s t e (λ i l. sym (byte_number s i p l)
    ∙ number_same (unpack s) (unpack t) (i * 8) (i * 8) 8 (λ k g. h (i * 8 + k) (omega arith))
    ∙ byte_number t i q (omega arith))

-- ---- a bit set

-- a byte put for another of which it differs in bit k
pub unpack_set : (s : List ℕ) (i k y : ℕ) (b : Bool) → i < length s → k < 8 → bits 8 y ≡ set (bits 8 (get_or s i 0)) k b
    → unpack (set s i y) ≡ set (unpack s) (i * 8 + k) b
unfolding unpack
unpack_set [] i k y b h g e = absurd (omega arith)
unpack_set (x ∷ xs) zero k y b h g e =
    ap (λ l. l ++ unpack xs) e
    ∙ sym (ap (λ n. set (bits 8 x ++ unpack xs) n b) {x = 0 * 8 + k} {y = k} (omega arith)
    ∙ set-append_left (bits 8 x) (unpack xs) k b (omega (arith, length_bits 8 x)))
unpack_set (x ∷ xs) (suc i) k y b h g e =
    ap (λ l. bits 8 x ++ l) (unpack_set xs i k y b (le_of_suc-le-suc h) g e)
    ∙ sym (ap (λ n. set (bits 8 x ++ unpack xs) n b) {x = suc i * 8 + k} {y = length (bits 8 x) + (i * 8 + k)} (omega (arith, length_bits 8 x))
    ∙ set_append_add (bits 8 x) (unpack xs) (i * 8 + k) b)

-- ---- bits packed into bytes

pub length_bytes_of : (bs : List Bool) → length (bytes_of bs) ≡ bytes_for (length bs)
unfolding bytes_of
length_bytes_of bs = length_list_of (bytes_for (length bs)) (λ i. number bs (i * 8) 8)

pub bytes_of_bytes : (bs : List Bool) → Bytes (bytes_of bs)
unfolding bytes_of
bytes_of_bytes bs i = go (dec_lt i (bytes_for (length bs)))
  where
    f : ℕ → ℕ
    f j = number bs (j * 8) 8

    go : Dec (i < bytes_for (length bs)) → get_or (bytes_of bs) i 0 < 256
    go (yes h) = omega (arith, get_d_list_of (bytes_for (length bs)) f i 0 h, number_lt bs (i * 8) 8)
    go (no h) = omega (arith, get_or-eq_default (bytes_of bs) 0 {n = i} (omega (arith, length_bytes_of bs)))

-- packing keeps every bit, and the rest of the last byte is 0
pub bit_at_bytes_of : (bs : List Bool) (p : ℕ) → bit_at (bytes_of bs) p ≡ get_or bs p false
unfolding bytes_of
bit_at_bytes_of bs p = go (dec_lt (p / 8) (bytes_for (length bs)))
  where
    go : Dec (p / 8 < bytes_for (length bs)) → bit_at (bytes_of bs) p ≡ get_or bs p false
    go (yes h) =
        ap (bit_at (bytes_of bs)) {x = p} {y = p / 8 * 8 + p % 8} (omega arith)
        ∙ get_d_unpack (bytes_of bs) (p / 8) (p % 8) (omega (arith, length_bytes_of bs)) (omega arith)
        ∙ ap (λ x. get_or (bits 8 x) (p % 8) false) (get_d_list_of (bytes_for (length bs)) (λ i. number bs (i * 8) 8) (p / 8) 0 h)
        ∙ bits_number bs (p / 8 * 8) 8 (p % 8) (omega arith)
        ∙ ap (λ n. get_or bs n false) {x = p / 8 * 8 + p % 8} {y = p} (omega arith)
    go (no h) =
        get_or-eq_default (unpack (bytes_of bs)) false {n = p} (omega (arith, length_unpack (bytes_of bs), length_bytes_of bs))
        ∙ sym (get_or-eq_default bs false {n = p} (omega arith))

-- ---- a buffer with bits at its front

bytes_append : (s t : List ℕ) → Bytes s → Bytes t → Bytes (s ++ t)
bytes_append [] t p q i = q i
bytes_append (x ∷ xs) t p q zero = p 0
bytes_append (x ∷ xs) t p q (suc i) = bytes_append xs t (λ j. p (suc j)) q i

unpack_append : (s t : List ℕ) → unpack (s ++ t) ≡ unpack s ++ unpack t
unfolding unpack
unpack_append [] t = refl
unpack_append (x ∷ xs) t = ap (λ l. bits 8 x ++ l) (unpack_append xs t) ∙ sym (append_assoc (bits 8 x) (unpack xs) (unpack t))

unpack_drop : (n : ℕ) (s : List ℕ) → n ≤ length s → unpack (drop n s) ≡ drop (n * 8) (unpack s)
unfolding unpack
unpack_drop zero s h = refl
unpack_drop (suc n) [] h = absurd (omega arith)
unpack_drop (suc n) (x ∷ xs) h =
    unpack_drop n xs (le_of_suc-le-suc h)
    ∙ sym (ap (λ k. drop k (bits 8 x ++ unpack xs)) {x = suc n * 8} {y = length (bits 8 x) + n * 8} (omega (arith, length_bits 8 x))
    ∙ drop-append-add (bits 8 x) (unpack xs) (n * 8))

get_d_zeros : (bs pad : List Bool) → ((k : ℕ) → get_or pad k false ≡ false) → (p : ℕ) → get_or (bs ++ pad) p false ≡ get_or bs p false
get_d_zeros [] pad z p = z p
get_d_zeros (b ∷ bs) pad z zero = refl
get_d_zeros (b ∷ bs) pad z (suc p) = get_d_zeros bs pad z p

get_d_bytes : (n : ℕ) (s : List ℕ) → Bytes s → Bytes (drop n s)
get_d_bytes n s b i = omega (arith, get_or-drop n s i 0, b (n + i))

module _ (bs pad : List Bool) (fills : length (bs ++ pad) ≡ bytes_for (length bs) * 8) (zeros : (k : ℕ) → get_or pad k false ≡ false) where
  unpack_bytes_of : unpack (bytes_of bs) ≡ bs ++ pad
  unpack_bytes_of =
      ext_get_or false (unpack (bytes_of bs)) (bs ++ pad) (omega (arith, length_unpack (bytes_of bs), length_bytes_of bs))
      (λ p h. bit_at_bytes_of bs p ∙ sym (get_d_zeros bs pad zeros p))

  -- bits put at the front with zeros to the end of the byte
  pub written_is : (old new : List ℕ) → Bytes old → Bytes new → bytes_for (length bs) ≤ length old → unpack new ≡ sets (unpack old) 0 (bs ++ pad) → new ≡ written bs old
  unfolding written
  written_is old new b c h e =
      bytes_same new (bytes_of bs ++ drop size old) c (bytes_append (bytes_of bs) (drop size old) (bytes_of_bytes bs) (get_d_bytes size old b))
      (omega (arith, ap length whole, length_unpack new, length_unpack (bytes_of bs ++ drop size old))) (λ p l. ap (λ l. get_or l p false) whole)
    where
      size : ℕ
      size = bytes_for (length bs)

      whole : unpack new ≡ unpack (bytes_of bs ++ drop size old)
      whole =
          e ∙ sets-eq (bs ++ pad) (unpack old) 0 (omega (arith, length_unpack old))
          ∙ ap (λ k. (bs ++ pad) ++ drop k (unpack old)) {x = 0 + length (bs ++ pad)} {y = size * 8} (omega arith)
          ∙ sym (unpack_append (bytes_of bs) (drop size old) ∙ ap₂ ◌++◌ unpack_bytes_of (unpack_drop size old h))
