-- The numbers of refusal that are the log's own: whichever file a refusal of the replay is about is told by its number.
use Rattle.std.specs.Prelude.{◌≡◌, ℕ, zero, suc, ◌+◌, ◌*◌, true, cond, not, ◌⊎◌, List, [], ◌∷◌, length, ◌==◌, ◌≢◌, nat_le, nat_lt, refl}
use Rattle.std.proofs.Common.{inl, inr, arith}
use Rattle.bits.specs.Bits.{unpack, bytes_for}
use Rattle.answers.specs.Answers.{given, refused, Judgement, when, with_value, also}
use Rattle.answers.specs.NumberLaws.{Only, given_only, refused_only, when_only, also_only, Never}
use Rattle.sheet.specs.Calls.{wrong_bit, tail_of}
use Rattle.clocklog.specs.Format.{origin_bits, count_bits, index_bits, kind_bits, counter_bits, most_time, begin, count, task, kind, gap, time_before, expected, within, record_judged, records_judged, log_judged}

abbrev pub OfLog : ℕ → Type 0
OfLog n = (n ≡ 1) ⊎ ((n ≡ 9) ⊎ ((n ≡ 19) ⊎ ((n ≡ 20) ⊎ (n ≡ 21))))

with_value_only : {P : ℕ → Type 0} (value : ℕ) (j : Judgement) → Only P j → Only P (with_value value j)
with_value_only value (given u) o = given_only u
with_value_only value (refused number values) o = refused_only number (value ∷ []) (o.holds refl)

within_only : (room at width : ℕ) → Only OfLog (within room at width)
within_only room at width = with_value_only at (when (nat_lt room (at + width)) 1) (when_only (nat_lt room (at + width)) 1 (inl refl))

record_only : (bytes : List ℕ) (tasks r : ℕ) → Only OfLog (record_judged bytes tasks r)
record_only bytes tasks r =
    also_only (also_only (within_only room (begin r) index_bits) (when_only (nat_le tasks (task bytes r)) 19 (inr (inr (inl refl)))))
    (also_only (also_only (within_only room (begin r + index_bits) kind_bits) (when_only (not (kind bytes r == expected bytes r (task bytes r))) 20 (inr (inr (inr (inl refl))))))
    (also_only (within_only room (begin r + index_bits + kind_bits) counter_bits) (when_only (cond (nat_le most_time (gap bytes r)) true (nat_le most_time (time_before bytes r + gap bytes r))) 21 (inr (inr (inr (inr refl)))))))
  where
    room : ℕ
    room = length bytes * 8

records_only : (bytes : List ℕ) (tasks r left : ℕ) → Only OfLog (records_judged bytes tasks r left)
unfolding records_judged
records_only bytes tasks r zero = given_only tt
records_only bytes tasks r (suc left) = also_only (record_only bytes tasks r) (records_only bytes tasks (suc r) left)

tail_only : (bytes : List ℕ) (end : ℕ) → Only OfLog (tail_of bytes end)
tail_only bytes end =
    with_value_only (wrong_bit (unpack bytes) end) (also (when (nat_lt (wrong_bit (unpack bytes) end) (bytes_for end * 8)) 9) (when (nat_lt (bytes_for end) (length bytes)) 9))
    (also_only (when_only (nat_lt (wrong_bit (unpack bytes) end) (bytes_for end * 8)) 9 (inr (inl refl))) (when_only (nat_lt (bytes_for end) (length bytes)) 9 (inr (inl refl))))

pub log_numbers : (bytes : List ℕ) (tasks : ℕ) → Only OfLog (log_judged bytes tasks)
unfolding log_judged
log_numbers bytes tasks =
    also_only (also_only (within_only (length bytes * 8) 0 origin_bits) (within_only (length bytes * 8) origin_bits count_bits)) (also_only (records_only bytes tasks 0 (count bytes)) (tail_only bytes (begin (count bytes))))

pub log_never_15 : (bytes : List ℕ) (tasks : ℕ) → Never 15 (log_judged bytes tasks)
log_never_15 bytes tasks = record { holds = λ e. go ((log_numbers bytes tasks).holds e) }
  where
    go : {n : ℕ} → OfLog n → n ≢ 15
    go (inl a) e = omega arith
    go (inr (inl a)) e = omega arith
    go (inr (inr (inl a))) e = omega arith
    go (inr (inr (inr (inl a)))) e = omega arith
    go (inr (inr (inr (inr a)))) e = omega arith
