-- Runs of calls: the record after one, and, told without the record, the elapsed times of its accepted stamps. Quotations are from
-- document 02, P13.
use Rattle.std.specs.Prelude.{ℕ, max, cond, List, [], ◌∷◌, ◌++◌}
use Rattle.std.proofs.Math.Option.{Option, some, none}
use Rattle.answers.specs.Answers.{Answer, given, refused}
use Rattle.telltale.specs.declared.Record.{Record}
use Rattle.telltale.specs.Calls.{elapsed, begun_of, too_long, stamp_of, record_after}

-- A call, at its counter.
pub data Call : Type 0 where
  begin : ℕ → Call
  stamp : ℕ → Call

-- The record "after any run of calls".
abbrev pub run : Record → List Call → Record
run r [] = r
run r (begin counter ∷ cs) = run (begun_of r counter) cs
run r (stamp counter ∷ cs) = run (record_after (stamp_of r counter) r) cs

-- The times that the stamps of a run answer, one after the other.
abbrev pub time_in : Answer ℕ → List ℕ
time_in (given ticks) = ticks ∷ []
time_in (refused number values) = []

abbrev pub answered : Record → List Call → List ℕ
answered r [] = []
answered r (begin counter ∷ cs) = answered (begun_of r counter) cs
answered r (stamp counter ∷ cs) = time_in (stamp_of r counter) ++ answered (record_after (stamp_of r counter) r) cs

-- "the elapsed time of the accepted stamps" of a run, by its calls alone. A stamp's time counts from the first begin since the last accepted
-- stamp: at its counter, where there was one before the run. The stamp is accepted when there is one and the time is not too long.
abbrev pub times : Option ℕ → List Call → List ℕ
times none [] = []
times none (begin counter ∷ cs) = times (some counter) cs
times none (stamp counter ∷ cs) = times none cs
times (some first) [] = []
times (some first) (begin counter ∷ cs) = times (some first) cs
times (some first) (stamp counter ∷ cs) = cond (too_long (elapsed first counter)) (times (some first) cs) (elapsed first counter ∷ times none cs)

-- "the greatest [..], or zero"
abbrev pub greatest : List ℕ → ℕ
greatest [] = 0
greatest (x ∷ xs) = max x (greatest xs)
