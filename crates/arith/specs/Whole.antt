-- Greatest common divisor, least common multiple and the next multiple, for every pair of whole numbers.
use Rattle.std.specs.Prelude.{ℕ, zero, suc, ◌+◌, ◌-◌, ◌*◌, ◌/◌, ◌%◌}

-- Euclid's rule, at most `steps` times: the pair a, b becomes b and the remainder of a by b, until the second is 0.
unfoldable pub euclid : ℕ → ℕ → ℕ → ℕ
euclid zero a b = a
euclid (suc steps) a zero = a
euclid (suc steps) a (suc b) = euclid steps (suc b) (a % suc b)

-- The greatest common divisor, by Euclid's rule. The second number falls with each step, so suc b steps are enough.
-- With 0 it is the other number, and of 0 and 0 it is 0.
unfoldable pub gcd : ℕ → ℕ → ℕ
unfolding euclid
gcd a b = euclid (suc b) a b

-- The least common multiple: the product, with the greatest common divisor taken out once. With 0 it is 0.
unfoldable pub lcm : ℕ → ℕ → ℕ
unfolding gcd
lcm a b = a / gcd a b * b

-- The least multiple of T that is at least x. The only multiple of 0 is 0, so a T of 0 answers 0.
unfoldable pub up : ℕ → ℕ → ℕ
up T x = (x + (T - 1)) / T * T
