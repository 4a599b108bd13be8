-- What the functions ask of each other: the pass's state and the readings as the code holds them.
use Rattle.std.specs.Prelude.{◌≡◌, cond, Bool, true, false, List, ℕ, ◌+◌, ◌≤◌, ◌<◌, ltb, length, get_or, Option, Some, None}
use Rattle.theory.specs.declared.Task.{Task}
use Rattle.theory.specs.Model.Schedule.{period, Slot, idle, busy}
use Rattle.clocklog.specs.Events.{Event}
use Rattle.clocklog.specs.Format.{most_time, task, kind_in, event, time_at, records_from}
use Rattle.sheet.specs.Tasks.{first_of, rest_of}
use Rattle.night.specs.declared.state.Record.{Record}
use Rattle.night.specs.declared.state.Progress.{Progress}
use Rattle.night.specs.declared.state.Place.{Place}
use Rattle.night.specs.declared.state.State.{State as Held}
use Rattle.night.specs.declared.state.Readings.{Readings as Places}
use Rattle.night.specs.declared.state.Found.{Found}
use Rattle.night.specs.Pass.{State, fresh, Step, broken, on, taken}
use Rattle.night.specs.Follow.{Readings, unread, stands, ready, followed, paths}

-- A record as the event that it records.
abbrev pub event_of : Record → Event
event_of r = event r.task (kind_in r.kind) r.at

-- ---- the pass

-- A task, or none.
abbrev pub slot : Option ℕ → Slot
slot None = idle
slot (Some i) = busy i

-- It is one of so many.
abbrev pub known : ℕ → Option ℕ → Type 0
known count None = Unit {0}
known count (Some i) = i < count

abbrev pub begun : Progress
begun = record { ended = 0; ran = 0 }

abbrev pub ended_in : List Progress → ℕ → ℕ
ended_in jobs j = (get_or jobs j begun).ended

abbrev pub ran_in : List Progress → ℕ → ℕ
ran_in jobs j = (get_or jobs j begun).ran

-- m ticks more of the task can be counted.
abbrev pub Room : (ℕ → ℕ) → ℕ → Option ℕ → Type 0
Room ran m None = Unit {0}
Room ran m (Some i) = ran i + m < 4294967296

abbrev pub state_of : Held → State
state_of s = record { tick = s.tick; last = slot s.last; ended = ended_in s.jobs; ran = ran_in s.jobs }

-- What a wait or a record leads to: a break, or the state that is left.
abbrev pub led : Bool → Held → Step
led false s = broken
led true s = on (state_of s)

pub record Led (old : Held) (agrees : Bool) (new : Held) (x : Step) : Type 0 where
  pub leads : led agrees new ≡ x
  pub tasks_same : new.tasks.now ≡ old.tasks.now

-- The first n records name tasks of the sheet, and their times are below the limit.
pub record Sane (bytes : List ℕ) (tasks n : ℕ) : Type 0 where
  pub few : n ≤ 4095
  pub named : (r : ℕ) → r < n → task bytes r < tasks
  pub timed : (r : ℕ) → r < n → time_at bytes r < most_time

-- ---- the readings

-- A chain in at most sixteen places.
pub record Chained (chain : List ℕ) : Type 0 where
  pub some : 0 < length chain
  pub most : length chain ≤ 16

abbrev pub unused : Place
unused = record { read = 0; written = 0 }

abbrev pub read_in : List Place → ℕ → ℕ
read_in places q = (get_or places q unused).read

abbrev pub written_in : List Place → ℕ → ℕ
written_in places q = (get_or places q unused).written

abbrev pub readings_of : Places → Readings
readings_of a = record { reads = read_in a.places; writes = written_in a.places; longest = a.longest }

-- The readings that are left, along the same chain.
pub record Along (old new : Places) (a : Readings) : Type 0 where
  pub readings_are : readings_of new ≡ a
  pub chain_same : new.chain.now ≡ old.chain.now
  pub period_same : new.period ≡ old.period

-- A job of the task has read at its place, and has written there.
abbrev pub read_by : List ℕ → ℕ → Readings → Readings
read_by chain task a =
    record { reads = λ q. cond (stands (first_of chain) (rest_of chain) task q) (ready a.writes q) (a.reads q); writes = a.writes; longest = a.longest }

abbrev pub written_by : List ℕ → ℕ → Readings → Readings
written_by chain task a =
    record { reads = a.reads; writes = λ q. cond (stands (first_of chain) (rest_of chain) task q) (a.reads q) (a.writes q); longest = a.longest }

-- What is found where the records break there, or nowhere.
abbrev pub found_by : Places → Option ℕ → Found
found_by a breaking = record { breaking = breaking; paths = written_in a.places (length (rest_of a.chain.now)); longest = a.longest }

-- The break where so many of n records agree.
abbrev pub break_in : ℕ → ℕ → Option ℕ
break_in agreeing n = cond (ltb agreeing n) (Some agreeing) None

-- What is found in the first n records: the break where they stop to agree, and of those before it the paths and the longest.
pub record FoundIn (ts : List Task) (p : ℕ) (rest : List ℕ) (bytes : List ℕ) (n : ℕ) (x : Found) : Type 0 where
  pub agreeing : ℕ
  pub agreeing_is : agreeing ≡ taken ts (records_from bytes 0 n) fresh
  pub breaking_is : x.breaking ≡ break_in agreeing n
  pub paths_are : x.paths ≡ paths rest (followed (period ts p) p rest (records_from bytes 0 agreeing) unread)
  pub longest_is : x.longest ≡ (followed (period ts p) p rest (records_from bytes 0 agreeing) unread).longest
