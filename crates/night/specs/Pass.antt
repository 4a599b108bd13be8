-- The check in one pass over the records, with state per task.
use Rattle.std.specs.Prelude.{List, [], ◌∷◌, Bool, true, false, cond, ◌&&◌, ℕ, suc, ◌+◌, ◌-◌, ◌*◌, leb, ltb, eqb, length}
use Rattle.theory.specs.declared.Task.{Task}
use Rattle.theory.specs.Model.Schedule.{release, budget, rank, Slot, idle, busy}
use Rattle.theory.specs.Model.Greatest.{greatest}
use Rattle.clocklog.specs.Events.{Event, start, finish, time}

-- What the records so far say of the ticks before `tick`: of each task how many jobs are finished, and how many ticks the next one has run
-- (it is in progress if that is not 0). Where a task ran in the last of these ticks and may finish at `tick`, `last` has it.
pub record State : Type 0 where
  pub tick : ℕ
  pub last : Slot
  pub ended : ℕ → ℕ
  pub ran : ℕ → ℕ

-- Where "logging begins", "no job is in progress".
abbrev pub fresh : State
fresh = record { tick = 0; last = idle; ended = λ j. 0; ran = λ j. 0 }

-- The instant from which on the next event is looked for.
abbrev pub opening : ℕ → Slot → ℕ
opening t idle = suc (2 * t)
opening t (busy i) = 2 * t

abbrev pub from : State → ℕ
from s = opening s.tick s.last

-- f with v at i.
unfoldable pub put : (ℕ → ℕ) → ℕ → ℕ → ℕ → ℕ
put f i v j = cond (eqb j i) v (f j)

abbrev pub is : ℕ → Slot → Bool
is j idle = false
is j (busy i) = eqb i j

-- What runs at tick t where `ended` jobs are finished: of the tasks whose next job is released, the one of greatest rank.
unfoldable pub turn : List Task → (ℕ → ℕ) → ℕ → Slot
turn ts ended t = greatest (rank ts) (λ j. leb (release ts j (ended j)) t) (length ts)

-- The ticks that task j gets of m that all go to the slot.
abbrev pub share : Slot → ℕ → ℕ → ℕ
share idle m j = 0
share (busy i) m j = cond (eqb i j) m 0

-- The open job may go on: it has budget left.
abbrev pub goes_on : List Task → (ℕ → ℕ) → Slot → Bool
goes_on ts ran idle = true
goes_on ts ran (busy i) = ltb (ran i) (budget ts i)

-- In m ticks of the slot nothing starts or ends: its job is in progress and keeps to its budget.
abbrev pub quiet : List Task → (ℕ → ℕ) → ℕ → Slot → Bool
quiet ts ran m idle = true
quiet ts ran m (busy i) = ltb 0 (ran i) && leb (ran i + m) (budget ts i)

-- The state after a record, or a break.
pub data Step : Type 0 where
  broken : Step
  on : State → Step

abbrev pub only : Bool → Step → Step
only true x = x
only false x = broken

abbrev pub and_then : Step → (State → Step) → Step
and_then broken f = broken
and_then (on s) f = f s

-- The state at a later tick u, with no event up to it. What ran in the tick before u then ran in all of them.
abbrev pub stretched : State → ℕ → Slot → State
stretched s u x = record { tick = u; last = x; ended = s.ended; ran = λ j. s.ran j + share x (u - s.tick) j }

abbrev pub stretch : List Task → State → ℕ → Slot → Step
stretch ts s u x = only (goes_on ts s.ran s.last && quiet ts s.ran (u - s.tick) x) (on (stretched s u x))

unfoldable pub wait : List Task → State → ℕ → Step
wait ts s u = cond (eqb u s.tick) (on s) (stretch ts s u (turn ts s.ended (u - 1)))

-- A record at the state's tick. What finishes is the open job; what starts is what runs in this tick, unless it is in progress.
abbrev pub finished : State → ℕ → State
finished s j = record { tick = s.tick; last = idle; ended = put s.ended j (suc (s.ended j)); ran = put s.ran j 0 }

abbrev pub started : State → ℕ → State
started s j = record { tick = suc s.tick; last = busy j; ended = s.ended; ran = put s.ran j 1 }

abbrev pub accept : List Task → State → Event → Step
accept ts s (finish j u) = only (is j s.last) (on (finished s j))
accept ts s (start j u) = only (goes_on ts s.ran s.last && (is j (turn ts s.ended s.tick) && eqb (s.ran j) 0)) (on (started s j))

unfoldable pub step : List Task → State → Event → Step
step ts s e = only (leb s.tick (time e)) (and_then (wait ts s (time e)) (λ s. accept ts s e))

-- How many records are taken before one breaks.
abbrev pub further : (State → ℕ) → Step → ℕ
further f broken = 0
further f (on s) = suc (f s)

unfoldable pub taken : List Task → List Event → State → ℕ
taken ts [] s = 0
taken ts (e ∷ es) s = further (taken ts es) (step ts s e)
