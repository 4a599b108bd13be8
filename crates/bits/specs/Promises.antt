-- What each call answers, or leaves in lent memory: one predicate a call. The contract is the predicate, and `Unique` says that it
-- allows one answer and one content.
use Rattle.std.specs.Prelude.{◌≡◌, List, ℕ, min, Option}
use Rattle.std.proofs.lemmas.List.Edits.{sets}
use Rattle.bits.specs.Bits.{bits, unpack, number, surplus_of}

-- The number in the `width` bits from bit `at` on. A bit past the end counts as 0, and a width over 32 as 32.
abbrev pub NumberPromise : List ℕ → ℕ → ℕ → ℕ → Type 0
NumberPromise bytes at width r = r ≡ number (unpack bytes) at (min width 32)

-- The bits of the old bytes with the `width` lowest bits of the value at bit `at`. A bit past the end is dropped, and a width over 32 counts as 32.
abbrev pub PutPromise : List ℕ → ℕ → ℕ → ℕ → List ℕ → Type 0
PutPromise old at width value new = unpack new ≡ sets (unpack old) at (bits (min width 32) value)

-- The first bit from bit `at` on that bytes which end there do not have: one that is 1 up to the end of its byte, or else the first of a
-- byte that follows.
abbrev pub SurplusPromise : List ℕ → ℕ → Option ℕ → Type 0
SurplusPromise bytes at r = r ≡ surplus_of bytes at
