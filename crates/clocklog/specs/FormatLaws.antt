-- Laws of a log that is judged fine: what is known of each of its records.
use Rattle.std.specs.Prelude.{◌≡◌, ℕ, zero, suc, ◌+◌, ◌*◌, ◌<◌, Bool, true, false, cond, List, length, nat_le}
use Rattle.std.proofs.Common.{sym, ap, ◌∙◌, add-zero, zero-add, arith}
use Rattle.std.proofs.lemmas.Bool.{false≢true}
use borrow.Author.Tests.{leb-false}
use Rattle.arith.specs.Ranges.{sum}
use Rattle.answers.specs.Answers.{Judgement, fine, when, also}
use Rattle.answers.specs.AnswerLaws.{when_fine, also_given}
use Rattle.sheet.specs.Calls.{tail_of}
use Rattle.clocklog.specs.Format.{index_bits, kind_bits, counter_bits, most_time, begin, count, task, kind, gap, time_before, time_at, expected, within, index_judged, kind_judged, counter_judged, record_judged, records_judged, head_judged, log_judged}

-- It names a task, and keeps to the limit of time.
pub record Recorded (bytes : List ℕ) (tasks r : ℕ) : Type 0 where
  pub named : task bytes r < tasks
  pub in_time : time_at bytes r < most_time

module _ (bytes : List ℕ) (tasks r : ℕ) where
  abbrev room : ℕ
  room = length bytes * 8

  abbrev index : Judgement
  index = index_judged room (begin r) tasks (task bytes r)

  abbrev own : Judgement
  own = kind_judged room (begin r) (kind bytes r) (expected bytes r (task bytes r))

  abbrev counter : Judgement
  counter = counter_judged room (begin r) (gap bytes r) (time_before bytes r)

  abbrev late : Bool
  late = cond (nat_le most_time (gap bytes r)) true (nat_le most_time (time_before bytes r + gap bytes r))

  pub record_fine : record_judged bytes tasks r ≡ fine → Recorded bytes tasks r
  unfolding time_before sum
  record_fine h = record {
    named = leb-false tasks (task bytes r) (when_fine (nat_le tasks (task bytes r)) 19 (also_given (within room (begin r) index_bits) (when (nat_le tasks (task bytes r)) 19) parts.0).1);
    in_time = go (nat_le most_time (gap bytes r)) (when_fine late 21 (also_given (within room (begin r + index_bits + kind_bits) counter_bits) (when late 21) (also_given own counter parts.1).1).1);
  }
    where
      parts : (index ≡ fine) × (also own counter ≡ fine)
      parts = also_given index (also own counter) h

      go : (b : Bool) → cond b true (nat_le most_time (time_before bytes r + gap bytes r)) ≡ false → time_at bytes r < most_time
      go true e = absurd (false≢true (sym e))
      go false e = leb-false most_time (time_before bytes r + gap bytes r) e

records_fine : (bytes : List ℕ) (tasks from left k : ℕ) → records_judged bytes tasks from left ≡ fine → k < left → record_judged bytes tasks (from + k) ≡ fine
unfolding records_judged
records_fine bytes tasks from zero k h l = absurd (omega arith)
records_fine bytes tasks from (suc left) zero h l = ap (record_judged bytes tasks) (add-zero from) ∙ (also_given (record_judged bytes tasks from) (records_judged bytes tasks (suc from) left) h).0
records_fine bytes tasks from (suc left) (suc k) h l =
    ap (record_judged bytes tasks) {x = from + suc k} {y = suc from + k} (omega arith) ∙ records_fine bytes tasks (suc from) left k (also_given (record_judged bytes tasks from) (records_judged bytes tasks (suc from) left) h).1 (omega arith)

pub judged_recorded : (bytes : List ℕ) (tasks : ℕ) → log_judged bytes tasks ≡ fine → (r : ℕ) → r < count bytes → Recorded bytes tasks r
unfolding log_judged
judged_recorded bytes tasks h r l =
    record_fine bytes tasks r (ap (record_judged bytes tasks) (sym (zero-add r)) ∙ records_fine bytes tasks 0 (count bytes) r (also_given all tail (also_given (head_judged (length bytes * 8)) (also all tail) h).1).0 l)
  where
    all : Judgement
    all = records_judged bytes tasks 0 (count bytes)

    tail : Judgement
    tail = tail_of bytes (begin (count bytes))
