-- What is written as a log is read back: the same records, at the same times, also across the rollover.
use Rattle.std.specs.Prelude.{◌≡◌, ℕ, zero, suc, ◌+◌, ◌*◌, ◌%◌, ◌^◌, ◌<◌, ◌≤◌, Bool, false, List, [], ◌∷◌, ◌++◌, length, slice_index_or, refl}
use Rattle.std.proofs.Common.{sym, ap, ap₂, ◌∙◌, arith, get_or-append-add}
use Rattle.std.proofs.Math.Nat.{mod-lt}
use Rattle.std.proofs.Math.ListN.{length-append, get_or-append}
use Rattle.bits.specs.Bits.{bits, unpack, number}
use Rattle.bits.specs.Laws.{length_bits, number_same, number_bits}
use Rattle.bits.specs.Bytes.{bit_at_bytes_of}
use Rattle.clocklog.specs.Events.{Event, start, finish, time}
use Rattle.clocklog.specs.Format.{origin_bits, count_bits, index_bits, kind_bits, counter_bits, turn, begin, origin, count, task, kind, counter, time_at, event, record_at, records_from, records}
use Rattle.clocklog.specs.Rollover.{true_times}
use Rattle.clocklog.specs.Written.{task_of, kind_of, record_bits, records_bits, written, record_in, Writable}

-- ---- a number in the front part, or in the back

module _ (xs ys : List Bool) where
  number_front : (at w : ℕ) → at + w ≤ length xs → number (xs ++ ys) at w ≡ number xs at w
  number_front at w l = number_same (xs ++ ys) xs at at w (λ k m. get_or-append xs ys false (at + k) (omega arith))

  number_back : (at k w : ℕ) → at ≡ length xs + k → number (xs ++ ys) at w ≡ number ys k w
  number_back at k w e =
      number_same (xs ++ ys) ys at k w
      (λ j m. ap (λ n. slice_index_or (xs ++ ys) n false) {x = at + j} {y = length xs + (k + j)} (omega arith) ∙ get_or-append-add xs ys (k + j) false)

-- a number that stands at the front
number_first : (w v : ℕ) (ys : List Bool) → v < 2 ^ w → number (bits w v ++ ys) 0 w ≡ v
number_first w v ys h = number_front (bits w v) ys 0 w (omega (arith, length_bits w v)) ∙ number_bits w v h

-- ---- a record

kind_fits : (e : Event) → kind_of e < 2
kind_fits (start i t) = omega arith
kind_fits (finish i t) = omega arith

module _ (o : ℕ) (e : Event) where
  abbrev later : List Bool
  later = bits kind_bits (kind_of e) ++ bits counter_bits ((o + time e) % turn)

  record_length : length (record_bits o e) ≡ 37
  unfolding record_bits
  record_length = length-append (bits index_bits (task_of e)) later
      ∙ omega (arith, length_bits index_bits (task_of e), length-append (bits kind_bits (kind_of e)) (bits counter_bits ((o + time e) % turn)), length_bits kind_bits (kind_of e), length_bits counter_bits ((o + time e) % turn))

  record_task : task_of e < 16 → number (record_bits o e) 0 index_bits ≡ task_of e
  unfolding record_bits
  record_task h = number_first index_bits (task_of e) later (omega arith)

  record_kind : number (record_bits o e) index_bits kind_bits ≡ kind_of e
  unfolding record_bits
  record_kind =
      number_back (bits index_bits (task_of e)) later index_bits 0 kind_bits (omega (arith, length_bits index_bits (task_of e)))
      ∙ number_first kind_bits (kind_of e) (bits counter_bits ((o + time e) % turn)) (omega (arith, kind_fits e))

  record_counter : number (record_bits o e) (index_bits + kind_bits) counter_bits ≡ (o + time e) % turn
  unfolding record_bits
  record_counter =
      number_back (bits index_bits (task_of e)) later (index_bits + kind_bits) kind_bits counter_bits (omega (arith, length_bits index_bits (task_of e)))
      ∙ number_back (bits kind_bits (kind_of e)) (bits counter_bits ((o + time e) % turn)) kind_bits 0 counter_bits (omega (arith, length_bits kind_bits (kind_of e)))
      ∙ number_bits counter_bits ((o + time e) % turn) (omega (arith, mod-lt (o + time e) {m = turn} (omega arith)))

-- record r among all
records_number : (o : ℕ) (es : List Event) (r k w : ℕ) → r < length es → k + w ≤ 37 → number (records_bits o es) (37 * r + k) w ≡ number (record_bits o (record_in es r)) k w
unfolding records_bits
records_number o [] r k w l h = absurd (omega arith)
records_number o (e ∷ es) zero k w l h =
    ap (λ at. number (record_bits o e ++ records_bits o es) at w) {x = 37 * 0 + k} {y = k} (omega arith)
    ∙ number_front (record_bits o e) (records_bits o es) k w (omega (arith, record_length o e))
records_number o (e ∷ es) (suc r) k w l h =
    number_back (record_bits o e) (records_bits o es) (37 * suc r + k) (37 * r + k) w (omega (arith, record_length o e))
    ∙ records_number o es r k w (omega arith) h

-- ---- the log

module _ (o : ℕ) (es : List Event) (fits : Writable o es) where
  abbrev bytes : List ℕ
  bytes = written o es

  abbrev rest : List Bool
  rest = bits count_bits (length es) ++ records_bits o es

  in_bits : (at w : ℕ) → number (unpack bytes) at w ≡ number (bits origin_bits o ++ rest) at w
  unfolding written
  in_bits at w = number_same (unpack bytes) (bits origin_bits o ++ rest) at at w (λ k l. bit_at_bytes_of (bits origin_bits o ++ rest) (at + k))

  origin_back : origin bytes ≡ o
  origin_back = in_bits 0 origin_bits ∙ number_first origin_bits o rest (omega (arith, fits.origin_fits))

  pub count_back : count bytes ≡ length es
  count_back =
      in_bits origin_bits count_bits
      ∙ number_back (bits origin_bits o) rest origin_bits 0 count_bits (omega (arith, length_bits origin_bits o))
      ∙ number_first count_bits (length es) (records_bits o es) (omega (arith, fits.count_fits))

  field_back : (r k w at : ℕ) → r < length es → k + w ≤ 37 → at ≡ begin r + k → number (unpack bytes) at w ≡ number (record_bits o (record_in es r)) k w
  field_back r k w at l h e =
      in_bits at w
      ∙ number_back (bits origin_bits o) rest at (12 + (37 * r + k)) w (omega (arith, length_bits origin_bits o))
      ∙ number_back (bits count_bits (length es)) (records_bits o es) (12 + (37 * r + k)) (37 * r + k) w (omega (arith, length_bits count_bits (length es)))
      ∙ records_number o es r k w l h

  task_back : (r : ℕ) → r < length es → task bytes r ≡ task_of (record_in es r)
  task_back r l = field_back r 0 index_bits (begin r) l (omega arith) (omega arith) ∙ record_task o (record_in es r) (fits.tasks_fit r l)

  kind_back : (r : ℕ) → r < length es → kind bytes r ≡ kind_of (record_in es r)
  kind_back r l = field_back r index_bits kind_bits (begin r + index_bits) l (omega arith) (omega arith) ∙ record_kind o (record_in es r)

  counter_back : (r : ℕ) → r < length es → counter bytes r ≡ (o + time (record_in es r)) % turn
  counter_back r l = field_back r (index_bits + kind_bits) counter_bits (begin r + index_bits + kind_bits) l (omega arith) (omega arith) ∙ record_counter o (record_in es r)

  time_back : (r : ℕ) → r < length es → time_at bytes r ≡ time (record_in es r)
  time_back = true_times bytes (length es) (λ r. time (record_in es r)) (record {
    counts = λ r l. counter_back r l ∙ ap (λ o. (o + time (record_in es r)) % turn) (sym origin_back);
    first = fits.first;
    rises = fits.rises;
    slowly = fits.slowly;
  })

  record_back : (r : ℕ) → r < length es → record_at bytes r ≡ record_in es r
  record_back r l = ap₂ (λ i t. event i (kind bytes r) t) (task_back r l) (time_back r l) ∙ ap (λ k. event (task_of (record_in es r)) k (time (record_in es r))) (kind_back r l) ∙ whole (record_in es r)
    where
      whole : (e : Event) → event (task_of e) (kind_of e) (time e) ≡ e
      whole (start i t) = refl
      whole (finish i t) = refl

from_back : (bytes : List ℕ) (es : List Event) (r : ℕ) → ((k : ℕ) → k < length es → record_at bytes (r + k) ≡ record_in es k) → records_from bytes r (length es) ≡ es
unfolding records_from
from_back bytes [] r h = refl
from_back bytes (e ∷ es) r h =
    ap₂ (λ x xs. x ∷ xs) (ap (record_at bytes) {x = r} {y = r + 0} (omega arith) ∙ h 0 (omega arith))
    (from_back bytes es (suc r) (λ k l. ap (record_at bytes) {x = suc r + k} {y = r + suc k} (omega arith) ∙ h (suc k) (omega arith)))

-- For every origin and all records that fit the format: reading what is written gives the same records.
pub written_read : (o : ℕ) (es : List Event) → Writable o es → records (written o es) ≡ es
written_read o es fits =
    ap (records_from (written o es) 0) (count_back o es fits)
    ∙ from_back (written o es) es 0 (λ k l. ap (record_at (written o es)) {x = 0 + k} {y = k} (omega arith) ∙ record_back o es fits k l)
