-- Bits, most significant first: the numbers that they spell, and the bytes that hold them.
use Rattle.std.specs.Prelude.{Bool, true, false, cond, List, [], ◌∷◌, ◌++◌, ℕ, zero, suc, ◌+◌, ◌-◌, ◌*◌, ◌/◌, ◌%◌, ◌^◌, ◌||◌, eqb, ltb, length, get_or, drop, Option}
use Rattle.std.specs.Bool.{then_some}

abbrev pub one : Bool → ℕ
one true = 1
one false = 0

abbrev pub odd : ℕ → Bool
odd n = eqb (n % 2) 1

-- The w lowest bits of a number.
unfoldable pub bits : ℕ → ℕ → List Bool
bits zero v = []
bits (suc w) v = odd (v / 2 ^ w) ∷ bits w v

-- The bits of bytes.
unfoldable pub unpack : List ℕ → List Bool
unpack [] = []
unpack (x ∷ xs) = bits 8 x ++ unpack xs

-- The number that the w bits from place `at` on spell; a bit past the end counts as 0.
unfoldable pub number : List Bool → ℕ → ℕ → ℕ
number bs at zero = 0
number bs at (suc w) = number bs at w * 2 + one (get_or bs (at + w) false)

-- f 0, f 1, .. f (n − 1).
unfoldable pub list_of : {A : Type 0} → ℕ → (ℕ → A) → List A
list_of zero f = []
list_of (suc n) f = f 0 ∷ list_of n (λ i. f (suc i))

-- How many bytes so many bits take.
abbrev pub bytes_for : ℕ → ℕ
bytes_for n = (n + 7) / 8

-- Bits packed into bytes, with zero bits to the end of the last one.
unfoldable pub bytes_of : List Bool → List ℕ
bytes_of bs = list_of (bytes_for (length bs)) (λ i. number bs (i * 8) 8)

-- A buffer with these bits at its front, to the end of the byte, and the rest as it was.
unfoldable pub written : List Bool → List ℕ → List ℕ
written bs old = bytes_of bs ++ drop (bytes_for (length bs)) old

-- The first bit that is 1 of the w bits from place `at` on, or the bit after them if none is.
unfoldable pub first_one : List Bool → ℕ → ℕ → ℕ
first_one bs at zero = at
first_one bs at (suc w) = cond (get_or bs at false) at (first_one bs (suc at) w)

-- The first bit that is wrong after a last one: one that is 1 before the end of the byte, or else the first of a byte that follows.
abbrev pub wrong_bit : List Bool → ℕ → ℕ
wrong_bit bs end = first_one bs end (bytes_for end * 8 - end)

-- It, where a bit is 1 before the end of the byte or a byte follows.
unfoldable pub surplus_of : List ℕ → ℕ → Option ℕ
surplus_of bytes end =
    let wrong = wrong_bit (unpack bytes) end in
    then_some (ltb wrong (bytes_for end * 8) || ltb (bytes_for end) (length bytes)) wrong
