-- Three walks over the numbers 0 .. n - 1: the sum of a function, its maximum, and the least number that passes a test.
use Rattle.std.specs.Prelude.{Bool, cond, ℕ, zero, suc, ◌+◌, max}

-- f 0 + f 1 + .. + f (n - 1).
unfoldable pub sum : ℕ → (ℕ → ℕ) → ℕ
sum zero f = zero
sum (suc n) f = sum n f + f n

-- The greatest of f 0 .. f (n - 1), or 0.
unfoldable pub maximum : ℕ → (ℕ → ℕ) → ℕ
maximum zero f = 0
maximum (suc n) f = max (maximum n f) (f n)

-- The least of 0 .. n - 1 that passes the test, or n where none does.
unfoldable pub least : ℕ → (ℕ → Bool) → ℕ
least zero test = zero
least (suc n) test = cond (test 0) 0 (suc (least n (λ x. test (suc x))))
