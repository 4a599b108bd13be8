-- The paths that records hold, followed in one pass with state per place of the chain. Quotations are from document 02, P6.
use Rattle.std.specs.Prelude.{List, [], ◌∷◌, Bool, cond, ◌&&◌, ℕ, zero, suc, ◌-◌, ◌*◌, leb, ltb, eqb, length, Option, Some, None}
use Rattle.night.specs.declared.answer.Longest.{Longest}
use Rattle.clocklog.specs.Events.{Event, start, finish}
use Rattle.night.specs.Agreement.{place}

-- Another path, of a later job.
abbrev pub longer : Option Longest → ℕ → ℕ → Option Longest
longer None delay job = Some (record { ticks = delay; job = job })
longer (Some most) delay job = cond (ltb most.ticks delay) (Some (record { ticks = delay; job = job })) (Some most)

-- Task i stands at place q.
abbrev pub stands : ℕ → List ℕ → ℕ → ℕ → Bool
stands p rest i q = leb q (length rest) && eqb (place p rest q) i

-- A reading goes by the number of its first-task job. Readings go along in this order, so a place is told by how many have been read there
-- and how many written there: from `writes q` up to `reads q` they are under way there, from `reads (q + 1)` up to `writes q` they wait for the next.
pub record Readings : Type 0 where
  pub reads : ℕ → ℕ
  pub writes : ℕ → ℕ
  pub longest : Option Longest

abbrev pub unread : Readings
unread = record { reads = λ q. 0; writes = λ q. 0; longest = None }

-- Up to which reading a start at a place reads: a new one at the first place, at others all that wait there.
abbrev pub ready : (ℕ → ℕ) → ℕ → ℕ
ready writes zero = suc (writes 0)
ready writes (suc q) = writes q

-- A finish at the last place ends the paths that are under way there; the first of them is the longest. T is the period of the first task.
abbrev pub longest_after : ℕ → ℕ → List ℕ → Readings → ℕ → ℕ → Option Longest
longest_after T p rest a i t =
    cond (stands p rest i (length rest) && ltb (a.writes (length rest)) (a.reads (length rest)))
    (longer a.longest (t - a.writes (length rest) * T) (a.writes (length rest)))
    a.longest

-- One record.
unfoldable pub follow : ℕ → ℕ → List ℕ → Readings → Event → Readings
follow T p rest a (start i t) =
    record { reads = λ q. cond (stands p rest i q) (ready a.writes q) (a.reads q); writes = a.writes; longest = a.longest }
follow T p rest a (finish i t) =
    record { reads = a.reads; writes = λ q. cond (stands p rest i q) (a.reads q) (a.writes q); longest = longest_after T p rest a i t }

unfoldable pub followed : ℕ → ℕ → List ℕ → List Event → Readings → Readings
followed T p rest [] a = a
followed T p rest (e ∷ es) a = followed T p rest es (follow T p rest a e)

-- "The number of paths followed" is that of the readings written at the last place.
abbrev pub paths : List ℕ → Readings → ℕ
paths rest a = a.writes (length rest)
