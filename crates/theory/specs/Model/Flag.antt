-- A flag does not wait for a release: what is counted from any tick e on. Quotations are from document 02, P2.
use Rattle.std.specs.Prelude.{List, ℕ, ◌+◌, ◌-◌, ◌≤◌}
use Rattle.theory.specs.declared.Task.{Task}
use Rattle.theory.specs.Model.Schedule.{period, Demands, Run, Starts}
use Rattle.theory.specs.Model.Chain.{Table, sampling, bound, PathEnds}
use Rattle.theory.specs.Model.Readings.{Arrives}

-- "A change flag raised at tick e is taken by the first job of the first task that starts at or after e", whatever was released before:
-- it "stays up until taken". Job k of p takes it.
pub record Takes (d : Demands) (run : Run) (p e k : ℕ) : Type 0 where
  pub start : ℕ
  pub starts : Starts d run p k start
  pub in_time : e ≤ start
  pub first : (x t : ℕ) → Starts d run p x t → e ≤ t → k ≤ x

-- "Document 002 adds the first period as a strict limit, in whole ticks T − 1": a job that starts before e was released before e, so the
-- next release is at most e + T − 1.
abbrev pub flag_wait : List Task → ℕ → ℕ
flag_wait ts p = period ts p - 1

-- "The report's worst and bound now add T − 1 of the first task": ticks that count from a release of p, counted from a flag.
abbrev pub from_flag : List Task → ℕ → ℕ → ℕ
from_flag ts p ticks = ticks + flag_wait ts p

abbrev pub flag_worst : List Task → Table → ℕ → List ℕ → ℕ
flag_worst ts table p rest = from_flag ts p (sampling ts table p rest)

abbrev pub flag_bound : List Task → (ℕ → ℕ) → ℕ → List ℕ → ℕ
flag_bound ts R p rest = from_flag ts p (bound ts R p rest)

-- A flag raised at e is stamped within `ticks`: the path from the job that takes it ends no later than `ticks` after e, and the reading that
-- arrives there stems from a job that started at or after e.
pub record FlagWithin (d : Demands) (run : Run) (p : ℕ) (rest : List ℕ) (e ticks : ℕ) : Type 0 where
  pub job : ℕ
  pub takes : Takes d run p e job
  pub stamp : ℕ
  pub path : PathEnds d run p rest job stamp
  pub in_time : stamp ≤ e + ticks
  pub arrives : Arrives d run p rest job stamp
  pub read : ℕ
  pub reads : Starts d run p arrives.source read
  pub since : e ≤ read
