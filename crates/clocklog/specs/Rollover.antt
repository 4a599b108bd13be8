-- Times across the rollover: where the counters are those of a clock that never runs back and never misses a whole turn of the counter, the
-- times read are the clock's own, from the origin on. (A difference of 2,147,483,648 or more is refused, half a turn.)
use Rattle.std.specs.Prelude.{◌≡◌, ℕ, zero, suc, ◌+◌, ◌-◌, ◌%◌, ◌<◌, ◌≤◌, List, refl}
use Rattle.std.proofs.Common.{sym, ap₂, ◌∙◌, arith}
use Rattle.arith.specs.Ranges.{sum}
use Rattle.bits.specs.Bits.{unpack}
use Rattle.bits.specs.Laws.{number_lt}
use Rattle.clocklog.specs.Format.{origin_bits, origin, counter, turn, across, gap, time_before, time_at}

-- The clock is at `time r` at record r, in ticks since the origin.
pub record Clock (bytes : List ℕ) (n : ℕ) (time : ℕ → ℕ) : Type 0 where
  pub counts : (r : ℕ) → r < n → counter bytes r ≡ (origin bytes + time r) % turn
  pub first : time 0 < turn
  pub rises : (r : ℕ) → suc r < n → time r ≤ time (suc r)
  pub slowly : (r : ℕ) → suc r < n → time (suc r) - time r < turn

across_rollover : (o a b : ℕ) → a ≤ b → b - a < turn → across ((o + a) % turn) ((o + b) % turn) ≡ b - a
across_rollover o a b l h = omega arith

origin_small : (bytes : List ℕ) → (origin bytes + 0) % turn ≡ origin bytes
origin_small bytes = omega (arith, number_lt (unpack bytes) 0 origin_bits)

-- A sum that goes up by the next difference.
next_time : (a b c d : ℕ) → a ≡ b → b ≤ c → d ≡ c - b → a + d ≡ c
next_time a b c d e l h = omega arith

pub true_times : (bytes : List ℕ) (n : ℕ) (time : ℕ → ℕ) → Clock bytes n time → (r : ℕ) → r < n → time_at bytes r ≡ time r
unfolding time_before sum
true_times bytes n time c zero l =
    next_time 0 0 (time 0) (gap bytes 0) refl (omega arith)
    (ap₂ across (sym (origin_small bytes)) (c.counts 0 l) ∙ across_rollover (origin bytes) 0 (time 0) (omega arith) (omega (arith, c.first)))
true_times bytes n time c (suc r) l =
    next_time (time_before bytes (suc r)) (time r) (time (suc r)) (gap bytes (suc r)) (true_times bytes n time c r (omega arith)) (c.rises r l)
    (ap₂ across (c.counts r (omega arith)) (c.counts (suc r) l) ∙ across_rollover (origin bytes) (time r) (time (suc r)) (c.rises r l) (c.slowly r l))
