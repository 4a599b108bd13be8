-- What the record says after any run of calls.
use Rattle.std.specs.Prelude.{◌≡◌, ℕ, suc, ◌+◌, ◌≤◌, min, max, Bool, true, false, List, [], ◌∷◌, ◌++◌, length, refl}
use Rattle.std.proofs.Common.{ap, ◌∙◌, arith, le-leb}
use Rattle.std.proofs.Math.Option.{Option, some, none}
use Rattle.std.proofs.Math.Decide.{dec_le}
use Rattle.std.proofs.lemmas.Bool.{lt-leb}
use Rattle.telltale.specs.declared.Record.{Record}
use Rattle.answers.specs.Answers.{Answer, given, refused}
use Rattle.telltale.specs.Calls.{fresh, elapsed, begun_of, stamp_of, record_after}
use Rattle.telltale.specs.CallLaws.{stamp_none, stamp_long, stamp_taken}
use Rattle.telltale.specs.Runs.{Call, begin, stamp, run, time_in, answered, times, greatest}

-- The counter at which the reading under way began.
abbrev since : Bool → ℕ → Option ℕ
since true counter = some counter
since false counter = none

-- What a run makes of a record, by the elapsed times ts of its accepted stamps.
record Comes (r : Record) (cs : List Call) (ts : List ℕ) : Type 0 where
  longest_is : (run r cs).longest ≡ max r.longest (greatest ts)
  count_is : (run r cs).count ≡ min (r.count + length ts) 65535
  answered_is : answered r cs ≡ ts

-- A stamp makes of it what its answer does.
stamped : (r : Record) (n : ℕ) (cs : List Call) (ts : List ℕ) (a : Answer ℕ) → stamp_of r n ≡ a → Comes (record_after a r) cs ts → Comes r (stamp n ∷ cs) (time_in a ++ ts)
stamped r n cs ts (refused number values) e x = record {
  longest_is = ap (λ z. (run (record_after z r) cs).longest) e ∙ x.longest_is;
  count_is = ap (λ z. (run (record_after z r) cs).count) e ∙ x.count_is;
  answered_is = ap (λ z. time_in z ++ answered (record_after z r) cs) e ∙ x.answered_is;
}
stamped r n cs ts (given ticks) e x = record {
  longest_is = ap (λ z. (run (record_after z r) cs).longest) e ∙ x.longest_is ∙ longer;
  count_is = ap (λ z. (run (record_after z r) cs).count) e ∙ x.count_is ∙ more;
  answered_is = ap (λ z. time_in z ++ answered (record_after z r) cs) e ∙ ap (λ l. ticks ∷ l) x.answered_is;
}
  where
    longer : max (max r.longest ticks) (greatest ts) ≡ max r.longest (max ticks (greatest ts))
    longer = omega arith

    more : min (min (r.count + 1) 65535 + length ts) 65535 ≡ min (r.count + suc (length ts)) 65535
    more = omega arith

from : (cs : List Call) (underway : Bool) (counter longest count : ℕ) → count ≤ 65535
    → Comes (record { underway = underway; counter = counter; longest = longest; count = count }) cs (times (since underway counter) cs)
unfolding begun_of
from [] true counter longest count h = record { longest_is = omega arith; count_is = omega arith; answered_is = refl }
from [] false counter longest count h = record { longest_is = omega arith; count_is = omega arith; answered_is = refl }
from (begin n ∷ cs) true counter longest count h =
    let x = from cs true counter longest count h in record { longest_is = x.longest_is; count_is = x.count_is; answered_is = x.answered_is }
from (begin n ∷ cs) false counter longest count h =
    let x = from cs true n longest count h in record { longest_is = x.longest_is; count_is = x.count_is; answered_is = x.answered_is }
from (stamp n ∷ cs) false counter longest count h = stamped _ n cs _ (refused 25 []) (stamp_none _ n refl) (from cs false counter longest count h)
from (stamp n ∷ cs) true counter longest count h =
    go (dec_le 2147483648 (elapsed counter n)) (from cs true counter longest count h) (from cs false 0 (max longest (elapsed counter n)) (min (count + 1) 65535) (omega arith))
  where
    r : Record
    r = record { underway = true; counter = counter; longest = longest; count = count }

    go : Dec (2147483648 ≤ elapsed counter n) → Comes r cs (times (some counter) cs) → Comes (record_after (given (elapsed counter n)) r) cs (times none cs)
        → Comes r (stamp n ∷ cs) (times (some counter) (stamp n ∷ cs))
    go (yes l) x y = rw (le-leb _ _ l) (stamped r n cs _ (refused 26 []) (stamp_long r n refl l) x)
    go (no l) x y = rw (lt-leb 2147483648 (elapsed counter n) (omega arith)) (stamped r n cs _ (given (elapsed counter n)) (stamp_taken r n refl (omega arith)) y)

-- "From a fresh record, after any run of calls, the longest is the greatest elapsed time of the accepted stamps, or zero, and the count is
-- their number or 65,535."
pub after_any_run : (cs : List Call) → ((run fresh cs).longest ≡ greatest (times none cs)) × ((run fresh cs).count ≡ min (length (times none cs)) 65535)
after_any_run cs = let x = from cs false 0 0 0 (omega arith) in (omega (arith, x.longest_is), omega (arith, x.count_is))

-- And these are the times that its stamps answer: accepted is what is not refused.
pub accepted_answered : (cs : List Call) → answered fresh cs ≡ times none cs
accepted_answered cs = (from cs false 0 0 0 (omega arith)).answered_is
