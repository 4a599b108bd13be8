-- The pass's state as the code holds it.
use Rattle.std.proofs.Common.{◌≡◌, ◌≢◌, refl, sym, ap, ap₂, ◌∙◌, subst, add-one, add-zero, eq-eqb, ne_eqb, eqb-true, eqb, not, true≢false, leb, le-leb, arith, List, ℕ, ◌+◌, ◌-◌, ◌≤◌, ◌<◌, length, get_or, set, get_or-set_same, get_or-set_other, Bool, true, false, Option, Some, None}
use mathlib.Core.Path.{fun_ext}
use native.Mathlib.Decide.{ℕ_discrete}
use borrow.Author.Tests.{lt-leb}
use Rattle.std.specs.Option.{option_eq}
use Rattle.theory.specs.declared.Task.{Task}
use Rattle.theory.specs.Model.Schedule.{Slot, idle, busy, rank, release}
use Rattle.theory.specs.Model.Greatest.{outranking, greatest}
use Rattle.clocklog.specs.Events.{Event, start, finish, time}
use Rattle.clocklog.specs.declared.answer.Kind.{Kind}
use Rattle.clocklog.specs.declared.answer.Kind.TheVariants.{Start, Finish}
use Rattle.clocklog.specs.Format.{kind_in, event}
use Rattle.night.specs.declared.state.Progress.{Progress}
use Rattle.night.specs.Pass.{State, Step, broken, on, turn, put, share, goes_on, quiet, stretched, wait, accept, step}
use Rattle.night.specs.PassLaws.{put_same, put_other}
use Rattle.night.specs.Conditions.{slot, begun, ended_in, ran_in}

-- A field of a list's entries, of which one is new
module _ {A : Type 0} (f : A → ℕ) (d : A) (xs : List A) (i : ℕ) (v : A) where
  pub field_put : i < length xs → ◌≡◌ {A = ℕ → ℕ} (λ j. f (get_or (set xs i v) j d)) (put (λ j. f (get_or xs j d)) i (f v))
  field_put l = fun_ext (λ j. go j (ℕ_discrete j i))
    where
      go : (j : ℕ) → Dec (j ≡ i) → f (get_or (set xs i v) j d) ≡ put (λ j. f (get_or xs j d)) i (f v) j
      go j (yes e) =
          subst (λ j. f (get_or (set xs i v) j d) ≡ put (λ j. f (get_or xs j d)) i (f v) j) (sym e)
          (ap f (get_or-set_same xs i v d l) ∙ sym (put_same (λ j. f (get_or xs j d)) i (f v)))
      go j (no e) = ap f (get_or-set_other xs i j v d e) ∙ sym (put_other (λ j. f (get_or xs j d)) i (f v) e)

  -- A field that is the same in the new entry is the same in all.
  pub field_kept : i < length xs → f v ≡ f (get_or xs i d) → ◌≡◌ {A = ℕ → ℕ} (λ j. f (get_or (set xs i v) j d)) (λ j. f (get_or xs j d))
  field_kept l h = fun_ext (λ j. go j (ℕ_discrete j i))
    where
      go : (j : ℕ) → Dec (j ≡ i) → f (get_or (set xs i v) j d) ≡ f (get_or xs j d)
      go j (yes e) = subst (λ j. f (get_or (set xs i v) j d) ≡ f (get_or xs j d)) (sym e) (ap f (get_or-set_same xs i v d l) ∙ h)
      go j (no e) = ap f (get_or-set_other xs i j v d e)

-- A number put where it stands changes nothing.
pub put_kept : (f : ℕ → ℕ) (i : ℕ) → put f i (f i) ≡ f
put_kept f i = fun_ext (λ j. go j (ℕ_discrete j i))
  where
    go : (j : ℕ) → Dec (j ≡ i) → put f i (f i) j ≡ f j
    go j (yes e) = subst (λ j. put f i (f i) j ≡ f j) (sym e) (put_same f i (f i))
    go j (no e) = put_other f i (f i) e

-- The ticks that the slot's task gets.
pub put_share : (f : ℕ → ℕ) (i m : ℕ) → ◌≡◌ {A = ℕ → ℕ} (put f i (f i + m)) (λ j. f j + share (busy i) m j)
put_share f i m = fun_ext (λ j. go j (ℕ_discrete j i))
  where
    go : (j : ℕ) → Dec (j ≡ i) → put f i (f i + m) j ≡ f j + share (busy i) m j
    go j (yes e) = subst (λ j. put f i (f i + m) j ≡ f j + share (busy i) m j) (sym e) (put_same f i (f i + m) ∙ rw (eq-eqb i i refl) refl)
    go j (no e) = put_other f i (f i + m) e ∙ rw (ne_eqb i j (λ z. e (sym z)), add-zero) refl

-- ---- what runs

-- The best of the first i.
abbrev pub best_of : List Task → (ℕ → ℕ) → ℕ → ℕ → Slot
best_of ts ended at i = greatest (rank ts) (λ j. leb (release ts j (ended j)) at) i

module _ (ts : List Task) (ended : ℕ → ℕ) (at : ℕ) where
  pub best_none : idle ≡ best_of ts ended at 0
  unfolding greatest
  best_none = refl

  module _ (i : ℕ) (best : Option ℕ) (so_far : slot best ≡ best_of ts ended at i) where
    pub best_taken : (next : Option ℕ) → release ts i (ended i) ≤ at → slot next ≡ outranking (rank ts) i (slot best) → slot next ≡ best_of ts ended at (i + 1)
    unfolding greatest
    best_taken next t h = rw (add-one, le-leb (release ts i (ended i)) at t, ← so_far) h

    pub best_passed : at < release ts i (ended i) → slot best ≡ best_of ts ended at (i + 1)
    unfolding greatest
    best_passed t = rw (add-one, lt-leb (release ts i (ended i)) at t) so_far

  pub best_turn : (i : ℕ) → length ts ≤ i → i ≤ length ts → best_of ts ended at i ≡ turn ts ended at
  unfolding turn
  best_turn i h k = ap (best_of ts ended at) {x = i} {y = length ts} (omega arith)

-- ---- the wait

module _ (ts : List Task) (s : State) (at : ℕ) where
  pub wait_now : at ≡ s.tick → on s ≡ wait ts s at
  unfolding wait
  wait_now h = rw (eq-eqb at s.tick h) refl

  module _ (later : at ≢ s.tick) where
    pub wait_stops : goes_on ts s.ran s.last ≡ false → broken ≡ wait ts s at
    unfolding wait
    wait_stops g = rw (ne_eqb at s.tick later, g) refl

    module _ (g : goes_on ts s.ran s.last ≡ true) (x : Slot) (t : x ≡ turn ts s.ended (at - 1)) where
      pub wait_breaks : quiet ts s.ran (at - s.tick) x ≡ false → broken ≡ wait ts s at
      unfolding wait
      wait_breaks q = rw (ne_eqb at s.tick later, g, ← t, q) refl

      pub wait_goes : quiet ts s.ran (at - s.tick) x ≡ true → (s' : State) → s' ≡ stretched s at x → on s' ≡ wait ts s at
      unfolding wait
      wait_goes q s' h = rw (ne_eqb at s.tick later, g, ← t, q) (ap on h)

-- ---- the state as the code holds it

module _ (jobs : List Progress) (whole : length jobs ≡ 16) where
  -- With a job's numbers changed.
  pub jobs_put : (tick : ℕ) (last : Slot) (i a b : ℕ) → i < 16
      → ◌≡◌ {A = State} (record { tick = tick; last = last; ended = ended_in (set jobs i (record { ended = a; ran = b })); ran = ran_in (set jobs i (record { ended = a; ran = b })) })
      (record { tick = tick; last = last; ended = put (ended_in jobs) i a; ran = put (ran_in jobs) i b })
  jobs_put tick last i a b l =
      ap₂ (λ (f g : ℕ → ℕ). record { tick = tick; last = last; ended = f; ran = g })
      (field_put (λ (p : Progress). p.ended) begun jobs i (record { ended = a; ran = b }) (omega arith))
      (field_put (λ (p : Progress). p.ran) begun jobs i (record { ended = a; ran = b }) (omega arith))

  module _ (tick at : ℕ) (last : Slot) where
    abbrev state : State
    state = record { tick = tick; last = last; ended = ended_in jobs; ran = ran_in jobs }

    pub stretched_none : ◌≡◌ {A = State} (record { tick = at; last = idle; ended = ended_in jobs; ran = ran_in jobs }) (stretched state at idle)
    stretched_none =
        ap (λ (f : ℕ → ℕ). record { tick = at; last = idle; ended = ended_in jobs; ran = f }) (fun_ext (λ j. sym (add-zero (ran_in jobs j))))

    pub stretched_some : (i : ℕ) → i < 16 → let more = set jobs i (record { ended = ended_in jobs i; ran = ran_in jobs i + (at - tick) }) in
        ◌≡◌ {A = State} (record { tick = at; last = busy i; ended = ended_in more; ran = ran_in more }) (stretched state at (busy i))
    stretched_some i l =
        jobs_put at (busy i) i (ended_in jobs i) (ran_in jobs i + (at - tick)) l
        ∙ ap₂ (λ (f g : ℕ → ℕ). record { tick = at; last = busy i; ended = f; ran = g }) (put_kept (ended_in jobs) i) (put_share (ran_in jobs) i (at - tick))

    -- ---- a record at the state's tick

    module _ (ts : List Task) (j u : ℕ) (l : j < 16) where
      pub start_goes : goes_on ts (ran_in jobs) last ≡ true → busy j ≡ turn ts (ended_in jobs) tick → ran_in jobs j ≡ 0
          → let more = set jobs j (record { ended = ended_in jobs j; ran = 1 }) in
          on (record { tick = tick + 1; last = busy j; ended = ended_in more; ran = ran_in more }) ≡ accept ts state (start j u)
      start_goes g t z =
          rw (g, ← t, eq-eqb j j refl, eq-eqb (ran_in jobs j) 0 z)
          (ap on (jobs_put (tick + 1) (busy j) j (ended_in jobs j) 1 l
          ∙ ap₂ (λ (t : ℕ) (f : ℕ → ℕ). record { tick = t; last = busy j; ended = f; ran = put (ran_in jobs) j 1 }) (add-one tick) (put_kept (ended_in jobs) j)))

      pub finish_goes : last ≡ busy j → let more = set jobs j (record { ended = ended_in jobs j + 1; ran = 0 }) in
          on (record { tick = tick; last = idle; ended = ended_in more; ran = ran_in more }) ≡ accept ts state (finish j u)
      finish_goes e =
          rw (e, eq-eqb j j refl)
          (ap on (jobs_put tick idle j (ended_in jobs j + 1) 0 l
          ∙ ap (λ (n : ℕ). record { tick = tick; last = idle; ended = put (ended_in jobs) j n; ran = put (ran_in jobs) j 0 }) (add-one (ended_in jobs j))))

-- ---- one record

pub event_time : (task : ℕ) (k : Kind) (at : ℕ) → time (event task (kind_in k) at) ≡ at
event_time task Start at = refl
event_time task Finish at = refl

module _ (ts : List Task) (s : State) (e : Event) where
  pub step_early : time e < s.tick → broken ≡ step ts s e
  unfolding step
  step_early h = rw (lt-leb s.tick (time e) h) refl

  module _ (l : s.tick ≤ time e) where
    pub step_breaks : broken ≡ wait ts s (time e) → broken ≡ step ts s e
    unfolding step
    step_breaks h = rw (le-leb s.tick (time e) l, ← h) refl

    pub step_goes : (a : State) (x : Step) → on a ≡ wait ts s (time e) → x ≡ accept ts a e → x ≡ step ts s e
    unfolding step
    step_goes a x h q = rw (le-leb s.tick (time e) l, ← h) q

-- A slot that is compared with a task.
pub slot_same : (x : Option ℕ) (j : ℕ) → not (option_eq eqb x (Some j)) ≡ false → slot x ≡ busy j
slot_same None j h = absurd (true≢false h)
slot_same (Some i) j h = go (eqb i j) refl h
  where
    go : (b : Bool) → eqb i j ≡ b → not b ≡ false → busy i ≡ busy j
    go true e q = ap busy (eqb-true i j e)
    go false e q = absurd (true≢false q)
