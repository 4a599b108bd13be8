-- One record: what a schedule does next the pass takes, and what the pass takes is what a schedule with such demands does next.
use Rattle.std.specs.Prelude.{◌≡◌, refl, ◌≢◌, ◌⊎◌, List, Bool, true, false, cond, ◌&&◌, ℕ, suc, ◌+◌, ◌-◌, ◌*◌, min, ◌≤◌, ◌<◌, leb, ltb, eqb, length}
use Rattle.std.proofs.Common.{sym, ap, ◌∙◌, subst, inl, inr, le_refl, arith, leb-true, ltb-true, lt-ltb, le-leb, eqb-true, eq-eqb}
use Rattle.std.proofs.Math.Decide.{ℕ_discrete}
use Rattle.std.proofs.lemmas.Bool.{eqb-false}
use Rattle.theory.specs.declared.Task.{Task}
use Rattle.theory.specs.Model.Schedule.{budget, Proper, Demands, Within, need, Slot, idle, busy, Run, runs, done, Schedule, Starts, Finishes}
use Rattle.theory.specs.Model.Responses.{full}
use Rattle.theory.proofs.Analysis.NeverLater.{full_within}
use Rattle.theory.proofs.Analysis.Work.{runs_other, done_step, done_busy, need_step}
use Rattle.clocklog.specs.Events.{Event, start, finish, time}
use Rattle.night.specs.Agreement.{instant, Happens, Next}
use Rattle.night.specs.Pass.{State, from, put, is, turn, share, goes_on, quiet, Step, broken, on, only, and_then, stretched, stretch, wait, finished, started, accept, step}
use Rattle.night.specs.PassLaws.{Chosen, put_same, put_other, busy_task, idle_busy, is_busy, busy_is, and_true, share_cases, turn_chosen, run_turn, within_job, Room, Fits, Settled, opening_least, opening_most, opening_busy, stretched_settled, settled_turn, none_finishes, finishes_now, unmet, fits_stretched, none_within, wait_reaches}

turn_known : (ts : List Task) (K : ℕ → ℕ) (t i : ℕ) → turn ts K t ≡ busy i → i < length ts
turn_known ts K t i e = (subst (Chosen ts K t) e (turn_chosen ts K t)).0

-- A state goes on by a record

put_cases : (f : ℕ → ℕ) (i v j : ℕ) → ((j ≡ i) × (put f i v j ≡ v)) ⊎ ((j ≢ i) × (put f i v j ≡ f j))
put_cases f i v j = go (ℕ_discrete j i)
  where
    go : Dec (j ≡ i) → ((j ≡ i) × (put f i v j ≡ v)) ⊎ ((j ≢ i) × (put f i v j ≡ f j))
    go (yes e) = inl (e, ap (put f i v) e ∙ put_same f i v)
    go (no e) = inr (e, put_other f i v e)

-- Demands have room after a start where they have before it, with every job unfinished,
room_started : {ts : List Task} {d : Demands} → Within ts d → (s : State) (j : ℕ) → j < length ts → Settled ts d s → Room ts d (started s j)
room_started {ts} {d} w s j l z = record {
  most = λ i k. (go i k (put_cases s.ran j 1 i)).0;
  unfinished = λ i k n. (go i k (put_cases s.ran j 1 i)).1 n;
  known = λ i e. subst (λ i. i < length ts) (busy_task e) l;
  begun = λ i e. subst (λ i. 0 < put s.ran j 1 i) (busy_task e) (omega (arith, put_same s.ran j 1));
}
  where
    go : (i : ℕ) → i < length ts → ((i ≡ j) × (put s.ran j 1 i ≡ 1)) ⊎ ((i ≢ j) × (put s.ran j 1 i ≡ s.ran i))
        → (put s.ran j 1 i ≤ d i (s.ended i)) × (busy j ≢ busy i → put s.ran j 1 i < d i (s.ended i))
    go i k (inl y) = (omega (arith, y.1, w.least_one i (s.ended i) k), λ n. absurd (n (ap busy (sym y.0))))
    go i k (inr y) = (omega (arith, y.1, z i k), λ n. omega (arith, y.1, z i k))

-- and after a finish.
room_finished : {ts : List Task} {d : Demands} → Within ts d → (s : State) (j : ℕ) → s.last ≡ busy j → Room ts d s → Room ts d (finished s j)
room_finished {ts} {d} w s j e r = record {
  most = λ i k. omega (arith, go i k (ℕ_discrete i j));
  unfinished = λ i k n. go i k (ℕ_discrete i j);
  known = λ i z. absurd (idle_busy z);
  begun = λ i z. absurd (idle_busy z);
}
  where
    go : (i : ℕ) → i < length ts → Dec (i ≡ j) → put s.ran j 0 i < d i (put s.ended j (suc (s.ended j)) i)
    go i k (yes q) = omega (arith, w.least_one i (put s.ended j (suc (s.ended j)) i) k, ap (put s.ran j 0) q, put_same s.ran j 0)
    go i k (no q) = omega (arith, r.unfinished i k (λ z. q (busy_task (sym z ∙ e))), put_other s.ran j 0 q, ap (d i) (put_other s.ended j (suc (s.ended j)) q))

module _ {ts : List Task} (good : Proper ts) {d : Demands} {run : Run} (c : Schedule ts d run) (w : Within ts d) (s : State) (f : Fits ts d run s) where
  fits_started : (j : ℕ) → Settled ts d s → run s.tick ≡ busy j → s.ran j ≡ 0 → Fits ts d run (started s j)
  fits_started j z e h = record {
    room = room_started w s j (c.runs_known s.tick j e) z;
    counts = λ i k. go i k (put_cases s.ran j 1 i);
    ran_last = λ i q. (s.tick, refl, e ∙ q);
  }
    where
      go : (i : ℕ) → i < length ts → ((i ≡ j) × (put s.ran j 1 i ≡ 1)) ⊎ ((i ≢ j) × (put s.ran j 1 i ≡ s.ran i))
          → done run i (suc s.tick) ≡ need d i (s.ended i) + put s.ran j 1 i
      go i k (inl y) = omega (arith, y.1, done_busy run i s.tick (e ∙ ap busy (sym y.0)), f.counts i k, ap s.ran y.0)
      go i k (inr y) = omega (arith, y.1, done_step run i s.tick, ap (runs i) e, runs_other {i = j} {j = i} y.0, f.counts i k)

  fits_finished : (j : ℕ) → s.last ≡ busy j → s.ran j ≡ d j (s.ended j) → Fits ts d run (finished s j)
  fits_finished j e h = record {
    room = room_finished w s j e f.room;
    counts = λ i k. go i k (ℕ_discrete i j);
    ran_last = λ i q. absurd (idle_busy q);
  }
    where
      go : (i : ℕ) → i < length ts → Dec (i ≡ j) → done run i s.tick ≡ need d i (put s.ended j (suc (s.ended j)) i) + put s.ran j 0 i
      go i k (yes q) = subst (λ i. done run i s.tick ≡ need d i (put s.ended j (suc (s.ended j)) i) + put s.ran j 0 i) (sym q)
          (omega (arith, f.counts j (f.room.known j e), need_step d j (s.ended j), put_same s.ran j 0, ap (need d j) (put_same s.ended j (suc (s.ended j)))))
      go i k (no q) = omega (arith, f.counts i k, put_other s.ran j 0 q, ap (need d i) (put_other s.ended j (suc (s.ended j)) q))

-- What a schedule does next is taken

settled_goes : {ts : List Task} {d : Demands} → Within ts d → (s : State) → Room ts d s → Settled ts d s → goes_on ts s.ran s.last ≡ true
settled_goes {ts} {d} w s r z = go s.last refl
  where
    go : (x : Slot) → s.last ≡ x → goes_on ts s.ran x ≡ true
    go idle e = refl
    go (busy i) e = let l = r.known i e in lt-ltb (s.ran i) (budget ts i) (omega (arith, z i l, w.most_budget i (s.ended i) l))

-- Where the kth job starts or finishes at the state's tick, it is the one in turn.
module _ {ts : List Task} (good : Proper ts) {d : Demands} {run : Run} (c : Schedule ts d run) (w : Within ts d) (s : State) (f : Fits ts d run s) where
  start_fresh : (j k : ℕ) → Settled ts d s → Starts d run j k s.tick → s.ran j ≡ 0
  start_fresh j k z x = let no : ¬ (0 < s.ran j) = amid in omega arith
    where
      l : j < length ts
      l = c.runs_known s.tick j x.runs_first

      amid : ¬ (0 < s.ran j)
      amid h = within_job d j (s.ended j) k (done run j s.tick) (omega (arith, f.counts j l)) (settled_turn good c w s f z j l).1 x.done_before

  finish_met : (j k : ℕ) → s.last ≡ busy j → Finishes d run j k s.tick → s.ran j ≡ d j (s.ended j)
  finish_met j k e x = let no : ¬ (s.ran j < d j (s.ended j)) = amid in omega (arith, f.room.most j l)
    where
      l : j < length ts
      l = f.room.known j e

      amid : ¬ (s.ran j < d j (s.ended j))
      amid h = within_job d j (s.ended j) (suc k) (done run j s.tick)
          (omega (arith, f.counts j l, f.room.begun j e)) (omega (arith, f.counts j l, need_step d j (s.ended j))) x.done_by

module _ {ts : List Task} (good : Proper ts) {d : Demands} {run : Run} (c : Schedule ts d run) (w : Within ts d) (s : State) (f : Fits ts d run s) where
  -- The state after the next event: the records from it on are looked for from there.
  pub next_taken : (e : Event) → Next d run (from s) e → (s' : State) × (step ts s e ≡ on s') × Fits ts d run s' × (from s' ≡ suc (instant e))
  unfolding step
  next_taken (finish j u) n = (
    finished a j,
    rw (le-leb s.tick u soon, y.1, busy_is a.last own),
    fits_finished good c w a y.2 j own met,
    omega (arith, y.3),
  )
    where
      soon : s.tick ≤ u
      soon = omega (arith, n.from_on, opening_least s.tick s.last)

      y : (s' : State) × (wait ts s u ≡ on s') × Fits ts d run s' × (s'.tick ≡ u) × (from s ≤ from s') × ((i l : ℕ) → u ≡ suc l → run l ≡ busy i → from s ≤ 2 * u → s'.last ≡ busy i)
      y = wait_reaches good c w s f u soon n.first

      a : State
      a = y.0

      x : Finishes d run j n.happens.0 u
      x = n.happens.1

      own : a.last ≡ busy j
      own = y.5 j x.last x.is_next x.runs_last n.from_on

      met : a.ran j ≡ d j (a.ended j)
      met = finish_met good c w a y.2 j n.happens.0 own (subst (Finishes d run j n.happens.0) (sym y.3) x)
  next_taken (start j u) n = (
    started a j,
    rw (le-leb s.tick u soon, y.1, settled_goes w a y.2.room z, busy_is (turn ts a.ended a.tick) runs_now, eq-eqb (a.ran j) 0 fresh),
    fits_started good c w a y.2 j z own fresh,
    omega (arith, y.3),
  )
    where
      soon : s.tick ≤ u
      soon = omega (arith, n.from_on, opening_least s.tick s.last)

      y : (s' : State) × (wait ts s u ≡ on s') × Fits ts d run s' × (s'.tick ≡ u) × (from s ≤ from s') × ((i l : ℕ) → u ≡ suc l → run l ≡ busy i → from s ≤ 2 * u → s'.last ≡ busy i)
      y = wait_reaches good c w s f u soon (λ e h l. omega (arith, n.first e h l))

      a : State
      a = y.0

      x : Starts d run j n.happens.0 a.tick
      x = subst (Starts d run j n.happens.0) (sym y.3) n.happens.1

      z : Settled ts d a
      z i l = go (unmet good c w a y.2 i l)
        where
          go : a.ran i < d i (a.ended i) ⊎ Finishes d run i (a.ended i) a.tick × (a.last ≡ busy i) → a.ran i < d i (a.ended i)
          go (inl h) = h
          go (inr h) = absurd (omega (arith, y.3, n.first (finish i a.tick) (a.ended i, h.0) (omega (arith, y.4, opening_busy a.tick i a.last h.1))))

      own : run a.tick ≡ busy j
      own = x.runs_first

      runs_now : turn ts a.ended a.tick ≡ busy j
      runs_now = sym (run_turn good c w a.ended a.tick (settled_turn good c w a y.2 z)) ∙ own

      fresh : a.ran j ≡ 0
      fresh = start_fresh good c w a y.2 j n.happens.0 z x

-- What is taken comes apart

pub on_state : {a b : State} → on a ≡ on b → a ≡ b
on_state h = cc

pub broken_on : {a : State} → broken ≡ on a → ⊥
broken_on h = let z : ◌≡◌ {A = ℕ} 0 1 = cc in omega arith

only_on : (b : Bool) (x : Step) {a : State} → only b x ≡ on a → (b ≡ true) × (x ≡ on a)
only_on true x h = (refl, h)
only_on false x h = absurd (broken_on h)

pub step_parts : (ts : List Task) (s : State) (e : Event) {a : State} → step ts s e ≡ on a
    → (s' : State) × (s.tick ≤ time e) × (wait ts s (time e) ≡ on s') × (accept ts s' e ≡ on a)
unfolding step
step_parts ts s e {a} h = let x = only_on (leb s.tick (time e)) (and_then (wait ts s (time e)) (λ s. accept ts s e)) h in go (leb-true s.tick (time e) x.0) (wait ts s (time e)) refl x.1
  where
    go : s.tick ≤ time e → (y : Step) → wait ts s (time e) ≡ y → and_then y (λ s. accept ts s e) ≡ on a → (s' : State) × (s.tick ≤ time e) × (wait ts s (time e) ≡ on s') × (accept ts s' e ≡ on a)
    go l broken q z = absurd (broken_on z)
    go l (on s') q z = (s', l, q, z)

pub finish_parts : (ts : List Task) (s : State) (j u : ℕ) {a : State} → accept ts s (finish j u) ≡ on a → (s.last ≡ busy j) × (a ≡ finished s j)
finish_parts ts s j u h = let x = only_on (is j s.last) (on (finished s j)) h in (is_busy s.last x.0, sym (on_state x.1))

pub start_parts : (ts : List Task) (s : State) (j u : ℕ) {a : State} → accept ts s (start j u) ≡ on a
    → (goes_on ts s.ran s.last ≡ true) × (turn ts s.ended s.tick ≡ busy j) × (s.ran j ≡ 0) × (a ≡ started s j)
start_parts ts s j u h =
    let x = only_on (goes_on ts s.ran s.last && (is j (turn ts s.ended s.tick) && eqb (s.ran j) 0)) (on (started s j)) h in
    let y = and_true (goes_on ts s.ran s.last) (is j (turn ts s.ended s.tick) && eqb (s.ran j) 0) x.0 in
    let z = and_true (is j (turn ts s.ended s.tick)) (eqb (s.ran j) 0) y.1 in
    (y.0, is_busy (turn ts s.ended s.tick) z.0, eqb-true (s.ran j) 0 z.1, sym (on_state x.1))

-- A wait is none, or a stretch of what is chosen in its last tick.
record Waited (ts : List Task) (s : State) (u : ℕ) (x : Slot) : Type 0 where
  later : s.tick < u
  goes : goes_on ts s.ran s.last ≡ true
  begun : (i : ℕ) → x ≡ busy i → 0 < s.ran i
  most : (i : ℕ) → x ≡ busy i → s.ran i + (u - s.tick) ≤ budget ts i

wait_parts : (ts : List Task) (s : State) (u : ℕ) {a : State} → s.tick ≤ u → wait ts s u ≡ on a
    → ((u ≡ s.tick) × (a ≡ s)) ⊎ (Waited ts s u (turn ts s.ended (u - 1)) × (a ≡ stretched s u (turn ts s.ended (u - 1))))
unfolding wait
wait_parts ts s u {a} l = go (eqb u s.tick) refl
  where
    x : Slot
    x = turn ts s.ended (u - 1)

    in_progress : (y : Slot) → quiet ts s.ran (u - s.tick) y ≡ true → (i : ℕ) → y ≡ busy i → (0 < s.ran i) × (s.ran i + (u - s.tick) ≤ budget ts i)
    in_progress idle h i e = absurd (idle_busy e)
    in_progress (busy j) h i e = let z = and_true (ltb 0 (s.ran j)) (leb (s.ran j + (u - s.tick)) (budget ts j)) h in
        subst (λ i. (0 < s.ran i) × (s.ran i + (u - s.tick) ≤ budget ts i)) (busy_task e) (ltb-true 0 (s.ran j) z.0, leb-true (s.ran j + (u - s.tick)) (budget ts j) z.1)

    go : (b : Bool) → eqb u s.tick ≡ b → cond b (on s) (stretch ts s u x) ≡ on a → ((u ≡ s.tick) × (a ≡ s)) ⊎ (Waited ts s u x × (a ≡ stretched s u x))
    go true q h = inl (eqb-true u s.tick q, sym (on_state h))
    go false q h = inr (
      record {
        later = let no : u ≢ s.tick = eqb-false u s.tick q in omega arith;
        goes = z.0;
        begun = λ i e. (in_progress x z.1 i e).0;
        most = λ i e. (in_progress x z.1 i e).1;
      },
      sym (on_state y.1),
    )
      where
        y : ((goes_on ts s.ran s.last && quiet ts s.ran (u - s.tick) x) ≡ true) × (on (stretched s u x) ≡ on a)
        y = only_on (goes_on ts s.ran s.last && quiet ts s.ran (u - s.tick) x) (on (stretched s u x)) h

        z : (goes_on ts s.ran s.last ≡ true) × (quiet ts s.ran (u - s.tick) x ≡ true)
        z = and_true (goes_on ts s.ran s.last) (quiet ts s.ran (u - s.tick) x) y.0

pub wait_tick : (ts : List Task) (s : State) (u : ℕ) {a : State} → s.tick ≤ u → wait ts s u ≡ on a → a.tick ≡ u
wait_tick ts s u {a} l h = go (wait_parts ts s u l h)
  where
    go : ((u ≡ s.tick) × (a ≡ s)) ⊎ (Waited ts s u (turn ts s.ended (u - 1)) × (a ≡ stretched s u (turn ts s.ended (u - 1)))) → a.tick ≡ u
    go (inl y) = ap (λ a. a.tick) y.1 ∙ sym y.0
    go (inr y) = ap (λ a. a.tick) y.1

pub wait_ended : (ts : List Task) (s : State) (u : ℕ) {a : State} → s.tick ≤ u → wait ts s u ≡ on a → a.ended ≡ s.ended
wait_ended ts s u {a} l h = go (wait_parts ts s u l h)
  where
    go : ((u ≡ s.tick) × (a ≡ s)) ⊎ (Waited ts s u (turn ts s.ended (u - 1)) × (a ≡ stretched s u (turn ts s.ended (u - 1)))) → a.ended ≡ s.ended
    go (inl y) = ap (λ a. a.ended) y.1
    go (inr y) = ap (λ a. a.ended) y.1

-- Budgets have room for what is taken

goes_settled : {ts : List Task} (s : State) → Room ts (full ts) s → goes_on ts s.ran s.last ≡ true → Settled ts (full ts) s
goes_settled {ts} s r h i l = go s.last refl h
  where
    go : (x : Slot) → s.last ≡ x → goes_on ts s.ran x ≡ true → s.ran i < budget ts i
    go idle e h = r.unfinished i l (λ z. idle_busy (sym e ∙ z))
    go (busy j) e h = at (ℕ_discrete j i)
      where
        at : Dec (j ≡ i) → s.ran i < budget ts i
        at (yes q) = subst (λ i. s.ran i < budget ts i) q (ltb-true (s.ran j) (budget ts j) h)
        at (no q) = r.unfinished i l (λ z. q (busy_task (sym e ∙ z)))

pub budget_waits : (ts : List Task) (s : State) (u : ℕ) {a : State} → s.tick ≤ u → wait ts s u ≡ on a → Room ts (full ts) s → Room ts (full ts) a
budget_waits ts s u {a} l h r = go (wait_parts ts s u l h)
  where
    x : Slot
    x = turn ts s.ended (u - 1)

    go : ((u ≡ s.tick) × (a ≡ s)) ⊎ (Waited ts s u x × (a ≡ stretched s u x)) → Room ts (full ts) a
    go (inl y) = subst (Room ts (full ts)) (sym y.1) r
    go (inr (y, e)) = subst (Room ts (full ts)) (sym e) (record {
      most = λ i k. (at i k (share_cases x (u - s.tick) i)).0;
      unfinished = λ i k n. (at i k (share_cases x (u - s.tick) i)).1 n;
      known = λ i q. turn_known ts s.ended (u - 1) i q;
      begun = λ i q. omega (arith, y.begun i q);
    })
      where
        at : (i : ℕ) → i < length ts → ((x ≡ busy i) × (share x (u - s.tick) i ≡ u - s.tick)) ⊎ ((x ≢ busy i) × (share x (u - s.tick) i ≡ 0))
            → (s.ran i + share x (u - s.tick) i ≤ budget ts i) × (x ≢ busy i → s.ran i + share x (u - s.tick) i < budget ts i)
        at i k (inl z) = (omega (arith, z.1, y.most i z.0), λ n. absurd (n z.0))
        at i k (inr z) = let b = goes_settled s r y.goes i k in (omega (arith, z.1, b), λ n. omega (arith, z.1, b))

pub budget_accepts : {ts : List Task} → Proper ts → (s : State) (e : Event) {a : State} → accept ts s e ≡ on a → Room ts (full ts) s → Room ts (full ts) a
budget_accepts {ts} good s (finish j u) h r = let y = finish_parts ts s j u h in subst (Room ts (full ts)) (sym y.1) (room_finished (full_within good) s j y.0 r)
budget_accepts {ts} good s (start j u) h r = let y = start_parts ts s j u h in
    subst (Room ts (full ts)) (sym y.3) (room_started (full_within good) s j (turn_known ts s.ended s.tick j y.1) (goes_settled s r y.0))

-- Demands that have room for the state after a record have it for the one before

settled_room : {ts : List Task} {d e : Demands} (s : State) → Room ts e s → Settled ts d s → Room ts d s
settled_room s r z = record { most = λ i l. omega (arith, z i l); unfinished = λ i l n. z i l; known = r.known; begun = r.begun }

pub wait_room : (ts : List Task) (d e : Demands) (s : State) (u : ℕ) {a : State} → s.tick ≤ u → wait ts s u ≡ on a → Room ts e s → Room ts d a → Room ts d s
wait_room ts d e s u {a} l h r = go (wait_parts ts s u l h)
  where
    go : ((u ≡ s.tick) × (a ≡ s)) ⊎ (Waited ts s u (turn ts s.ended (u - 1)) × (a ≡ stretched s u (turn ts s.ended (u - 1)))) → Room ts d a → Room ts d s
    go (inl y) q = subst (Room ts d) y.1 q
    go (inr (y, z)) q = settled_room s r (stretched_settled d s u (turn ts s.ended (u - 1)) y.later (subst (Room ts d) z q))

pub started_settled : {ts : List Task} {d : Demands} → Within ts d → (s : State) (j : ℕ) → s.ran j ≡ 0 → Room ts d (started s j) → Settled ts d s
started_settled {ts} {d} w s j h r i l = go (put_cases s.ran j 1 i)
  where
    go : ((i ≡ j) × (put s.ran j 1 i ≡ 1)) ⊎ ((i ≢ j) × (put s.ran j 1 i ≡ s.ran i)) → s.ran i < d i (s.ended i)
    go (inl y) = omega (arith, w.least_one i (s.ended i) l, ap s.ran y.0)
    go (inr y) = omega (arith, y.1, r.unfinished i l (λ z. y.0 (busy_task (sym z))))

pub started_room : {ts : List Task} {d e : Demands} → Within ts d → (s : State) (j : ℕ) → s.ran j ≡ 0 → Room ts e s → Room ts d (started s j) → Room ts d s
started_room w s j h r q = settled_room s r (started_settled w s j h q)

pub finished_room : {ts : List Task} {d e : Demands} (s : State) (j : ℕ) → s.last ≡ busy j → s.ran j ≡ d j (s.ended j) → Room ts e s → Room ts d (finished s j) → Room ts d s
finished_room {ts} {d} s j e h r q = record { most = λ i l. most i l (ℕ_discrete i j); unfinished = λ i l n. other i l (λ z. n (e ∙ ap busy (sym z))); known = r.known; begun = r.begun }
  where
    other : (i : ℕ) → i < length ts → i ≢ j → s.ran i < d i (s.ended i)
    other i l n = omega (arith, q.unfinished i l idle_busy, put_other s.ran j 0 n, ap (d i) (put_other s.ended j (suc (s.ended j)) n))

    most : (i : ℕ) → i < length ts → Dec (i ≡ j) → s.ran i ≤ d i (s.ended i)
    most i l (yes z) = subst (λ i. s.ran i ≤ d i (s.ended i)) (sym z) (omega arith)
    most i l (no z) = omega (arith, other i l z)

-- What is taken is what a schedule does next, where its demands have room

module _ {ts : List Task} (good : Proper ts) {d : Demands} {run : Run} (c : Schedule ts d run) (w : Within ts d) (s : State) (f : Fits ts d run s) where
  record Reached (u : ℕ) (a : State) : Type 0 where
    fits : Fits ts d run a
    none_before : (e : Event) → Happens d run e → from s ≤ instant e → from a ≤ instant e
    onward : from s ≤ from a

  wait_fits : (u : ℕ) {a : State} → s.tick ≤ u → wait ts s u ≡ on a → Room ts d a → Reached u a
  wait_fits u {a} l h = go (wait_parts ts s u l h)
    where
      x : Slot
      x = turn ts s.ended (u - 1)

      go : ((u ≡ s.tick) × (a ≡ s)) ⊎ (Waited ts s u x × (a ≡ stretched s u x)) → Room ts d a → Reached u a
      go (inl y) r = subst (Reached u) (sym y.1) (record { fits = f; none_before = λ e h q. q; onward = le_refl _ })
      go (inr (y, z)) r = subst (Reached u) (sym z) (record {
        fits = fits_stretched good c w s f u y.later x (turn_chosen ts s.ended (u - 1)) y.begun (subst (Room ts d) z r);
        none_before = none_within good c w s f u y.later x (turn_chosen ts s.ended (u - 1)) y.begun (subst (Room ts d) z r);
        onward = omega (arith, y.later, opening_most s.tick s.last, opening_least u x);
      })

  pub finish_next : (j u : ℕ) (a : State) → s.tick ≤ u → wait ts s u ≡ on a → Room ts d a → a.last ≡ busy j → a.ran j ≡ d j (a.ended j)
      → Next d run (from s) (finish j u) × Fits ts d run (finished a j) × (from (finished a j) ≡ suc (2 * u))
  finish_next j u a l h r e m = (
    record {
      happens = (a.ended j, subst (Finishes d run j (a.ended j)) at (finishes_now good c w a y.fits j e m));
      from_on = omega (arith, y.onward, opening_busy a.tick j a.last e, at);
      first = λ x q z. omega (arith, y.none_before x q z, opening_busy a.tick j a.last e, at);
    },
    fits_finished good c w a y.fits j e m,
    omega (arith, at),
  )
    where
      y : Reached u a
      y = wait_fits u l h r

      at : a.tick ≡ u
      at = wait_tick ts s u l h

  pub start_next : (j u : ℕ) (a : State) → s.tick ≤ u → wait ts s u ≡ on a → Room ts d a → Settled ts d a → turn ts a.ended a.tick ≡ busy j → a.ran j ≡ 0
      → Next d run (from s) (start j u) × Fits ts d run (started a j) × (from (started a j) ≡ suc (suc (2 * u)))
  start_next j u a l h r z e m = (
    record {
      happens = (a.ended j, subst (Starts d run j (a.ended j)) at (record { runs_first = own; done_before = omega (arith, y.fits.counts j known) }));
      from_on = omega (arith, y.onward, opening_most a.tick a.last, at);
      first = first;
    },
    fits_started good c w a y.fits j z own m,
    omega (arith, at),
  )
    where
      y : Reached u a
      y = wait_fits u l h r

      at : a.tick ≡ u
      at = wait_tick ts s u l h

      own : run a.tick ≡ busy j
      own = run_turn good c w a.ended a.tick (settled_turn good c w a y.fits z) ∙ e

      known : j < length ts
      known = c.runs_known a.tick j own

      first : (x : Event) → Happens d run x → from s ≤ instant x → suc (2 * u) ≤ instant x
      first (start i t) q p = omega (arith, at, y.none_before (start i t) q p, opening_least a.tick a.last)
      first (finish i t) (k, q) p = let no : t ≢ a.tick = now in omega (arith, at, y.none_before (finish i t) (k, q) p, opening_least a.tick a.last)
        where
          now : t ≢ a.tick
          now b = none_finishes good c w a y.fits z i k (subst (Finishes d run i k) b q) (omega (arith, y.none_before (finish i t) (k, q) p))

-- How many jobs are finished, and how many have begun, after a record

abbrev pub begun : State → ℕ → ℕ
begun s i = s.ended i + min 1 (s.ran i)

wait_begun : (ts : List Task) (s : State) (u : ℕ) {a : State} → s.tick ≤ u → wait ts s u ≡ on a → (i : ℕ) → begun a i ≡ begun s i
wait_begun ts s u {a} l h i = go (wait_parts ts s u l h)
  where
    x : Slot
    x = turn ts s.ended (u - 1)

    go : ((u ≡ s.tick) × (a ≡ s)) ⊎ (Waited ts s u x × (a ≡ stretched s u x)) → begun a i ≡ begun s i
    go (inl y) = ap (λ a. begun a i) y.1
    go (inr (y, e)) = ap (λ a. begun a i) e ∙ at (share_cases x (u - s.tick) i)
      where
        at : ((x ≡ busy i) × (share x (u - s.tick) i ≡ u - s.tick)) ⊎ ((x ≢ busy i) × (share x (u - s.tick) i ≡ 0)) → begun (stretched s u x) i ≡ begun s i
        at (inl z) = omega (arith, y.begun i z.0)
        at (inr z) = omega (arith, z.1)

wait_last : (ts : List Task) (d : Demands) (s : State) (u : ℕ) {a : State} → s.tick ≤ u → wait ts s u ≡ on a → Room ts d s → (j : ℕ) → a.last ≡ busy j → 0 < a.ran j
wait_last ts d s u {a} l h r j = go (wait_parts ts s u l h)
  where
    x : Slot
    x = turn ts s.ended (u - 1)

    go : ((u ≡ s.tick) × (a ≡ s)) ⊎ (Waited ts s u x × (a ≡ stretched s u x)) → a.last ≡ busy j → 0 < a.ran j
    go (inl y) q = subst (λ s. s.last ≡ busy j → 0 < s.ran j) (sym y.1) (r.begun j) q
    go (inr (y, e)) q = subst (λ s. s.last ≡ busy j → 0 < s.ran j) (sym e) (λ z. omega (arith, y.begun j z)) q

pub record Starting (s s' : State) (j : ℕ) : Type 0 where
  pub ended_same : (i : ℕ) → s'.ended i ≡ s.ended i
  pub begun_more : begun s' j ≡ suc (s.ended j)
  pub last_is : s'.last ≡ busy j
  pub begun_same : (i : ℕ) → i ≢ j → begun s' i ≡ begun s i

pub record Finishing (s s' : State) (j : ℕ) : Type 0 where
  pub ended_more : s'.ended j ≡ suc (s.ended j)
  pub ended_same : (i : ℕ) → i ≢ j → s'.ended i ≡ s.ended i
  pub begun_before : begun s j ≡ suc (s.ended j)
  pub begun_same : (i : ℕ) → begun s' i ≡ begun s i

pub step_starting : (ts : List Task) (s s' : State) (j u : ℕ) → step ts s (start j u) ≡ on s' → Starting s s' j
step_starting ts s s' j u h = subst (λ b. Starting s b j) (sym z.3) (record {
  ended_same = same;
  begun_more = omega (arith, same j, put_same a.ran j 1);
  last_is = refl;
  begun_same = λ i n. omega (arith, wait_begun ts s u y.1 y.2 i, put_other a.ran j 1 n);
})
  where
    y : (s'' : State) × (s.tick ≤ u) × (wait ts s u ≡ on s'') × (accept ts s'' (start j u) ≡ on s')
    y = step_parts ts s (start j u) h

    a : State
    a = y.0

    z : (goes_on ts a.ran a.last ≡ true) × (turn ts a.ended a.tick ≡ busy j) × (a.ran j ≡ 0) × (s' ≡ started a j)
    z = start_parts ts a j u y.3

    same : (i : ℕ) → a.ended i ≡ s.ended i
    same i = ap (λ f. f i) (wait_ended ts s u y.1 y.2)

pub step_finishing : (ts : List Task) (d : Demands) (s s' : State) (j u : ℕ) → Room ts d s → step ts s (finish j u) ≡ on s' → Finishing s s' j
step_finishing ts d s s' j u r h = subst (λ b. Finishing s b j) (sym z.1) (record {
  ended_more = omega (arith, same j, put_same a.ended j (suc (a.ended j)));
  ended_same = λ i n. omega (arith, same i, put_other a.ended j (suc (a.ended j)) n);
  begun_before = omega (arith, same j, wait_begun ts s u y.1 y.2 j, going);
  begun_same = λ i. go i (ℕ_discrete i j);
})
  where
    y : (s'' : State) × (s.tick ≤ u) × (wait ts s u ≡ on s'') × (accept ts s'' (finish j u) ≡ on s')
    y = step_parts ts s (finish j u) h

    a : State
    a = y.0

    z : (a.last ≡ busy j) × (s' ≡ finished a j)
    z = finish_parts ts a j u y.3

    going : 0 < a.ran j
    going = wait_last ts d s u y.1 y.2 r j z.0

    same : (i : ℕ) → a.ended i ≡ s.ended i
    same i = ap (λ f. f i) (wait_ended ts s u y.1 y.2)

    go : (i : ℕ) → Dec (i ≡ j) → begun (finished a j) i ≡ begun s i
    go i (yes q) = subst (λ i. begun (finished a j) i ≡ begun s i) (sym q)
        (omega (arith, wait_begun ts s u y.1 y.2 j, going, put_same a.ended j (suc (a.ended j)), put_same a.ran j 0))
    go i (no q) = omega (arith, wait_begun ts s u y.1 y.2 i, put_other a.ended j (suc (a.ended j)) q, put_other a.ran j 0 q)

-- "Job k of a task is its kth start, counted from 0, and the finish after it": the event is that of the job in turn.
abbrev pub Turn : Demands → Run → State → Event → Type 0
Turn d run s (start j u) = Starts d run j (s.ended j) u
Turn d run s (finish j u) = Finishes d run j (s.ended j) u

pub next_turn : (ts : List Task) {d : Demands} {run : Run} → Schedule ts d run → (s s' : State) (e : Event) → Fits ts d run s' → Happens d run e → step ts s e ≡ on s' → Turn d run s e
next_turn ts {d} {run} c s s' (start j u) f' (k, n) h = record {
  runs_first = n.runs_first;
  done_before = omega (arith, same, put_same a.ran j 1, done_busy run j u n.runs_first, counts);
}
  where
    y : (s'' : State) × (s.tick ≤ u) × (wait ts s u ≡ on s'') × (accept ts s'' (start j u) ≡ on s')
    y = step_parts ts s (start j u) h

    a : State
    a = y.0

    z : (goes_on ts a.ran a.last ≡ true) × (turn ts a.ended a.tick ≡ busy j) × (a.ran j ≡ 0) × (s' ≡ started a j)
    z = start_parts ts a j u y.3

    same : need d j (a.ended j) ≡ need d j (s.ended j)
    same = ap (λ f. need d j (f j)) (wait_ended ts s u y.1 y.2)

    counts : done run j (suc u) ≡ need d j (a.ended j) + put a.ran j 1 j
    counts = ap (λ t. done run j (suc t)) (sym (wait_tick ts s u y.1 y.2)) ∙ (subst (Fits ts d run) z.3 f').counts j (turn_known ts a.ended a.tick j z.1)
next_turn ts {d} {run} c s s' (finish j u) f' (k, n) h = record {
  last = n.last;
  is_next = n.is_next;
  runs_last = n.runs_last;
  done_by = ap (done run j) (sym (wait_tick ts s u y.1 y.2)) ∙ omega (arith, counts, put_same a.ran j 0, same);
}
  where
    y : (s'' : State) × (s.tick ≤ u) × (wait ts s u ≡ on s'') × (accept ts s'' (finish j u) ≡ on s')
    y = step_parts ts s (finish j u) h

    a : State
    a = y.0

    z : (a.last ≡ busy j) × (s' ≡ finished a j)
    z = finish_parts ts a j u y.3

    same : need d j (put a.ended j (suc (a.ended j)) j) ≡ need d j (suc (s.ended j))
    same = ap (need d j) (put_same a.ended j (suc (a.ended j)) ∙ ap (λ f. suc (f j)) (wait_ended ts s u y.1 y.2))

    counts : done run j a.tick ≡ need d j (put a.ended j (suc (a.ended j)) j) + put a.ran j 0 j
    counts = (subst (Fits ts d run) z.1 f').counts j (c.runs_known n.last j n.runs_last)
