-- Laws of the pass: what it takes up to a record is what a schedule does, and what a schedule does it takes.
use Rattle.std.specs.Prelude.{◌≡◌, ◌≢◌, ◌⊎◌, List, Bool, true, false, cond, ◌&&◌, leb, eqb, length}
use Rattle.std.proofs.Math.Path.{refl, sym, ap}
use Rattle.std.proofs.Common.{ap₂, ◌∙◌, subst, inl, inr, le_trans, add-zero, leb-true, leb-false, lt-ltb, le-leb, eqb-true, eq-eqb, ne_eqb}
use Rattle.std.proofs.lemmas.Bool.{false≢true}
use Prim.Native.Nat.{ℕ, zero, suc, ◌+◌, ◌-◌, ◌*◌, ◌≤◌, ◌<◌}
use Rattle.std.proofs.Math.Nat.{le_refl}
use native.Mathlib.Omega.{arith}
use Rattle.std.proofs.Math.Decide.{ℕ_discrete, dec_le, dec_lt}
use Rattle.theory.specs.declared.Task.{Task}
use Rattle.theory.specs.Model.Schedule.{release, budget, rank, Proper, Demands, Within, need, Slot, idle, busy, Run, runs, done, Pending, Schedule, Starts, Finishes}
use Rattle.theory.specs.Analysis.GreatestLaws.{IsGreatest}
use Rattle.theory.proofs.Analysis.GreatestLaws.{greatest_is}
use Rattle.theory.proofs.Analysis.Work.{done_grows, runs_other, done_step, done_busy, need_step, need_grows, due_covers, due_most}
use Rattle.theory.proofs.Analysis.Backlog.{done_most}
use Rattle.clocklog.specs.Events.{Event, start, finish}
use Rattle.night.specs.Agreement.{instant, Happens}
use Rattle.night.specs.Pass.{State, opening, from, put, is, turn, share, goes_on, quiet, on, stretched, wait}

-- Slots and updates

pub put_same : (f : ℕ → ℕ) (i v : ℕ) → put f i v i ≡ v
unfolding put
put_same f i v = rw (eq-eqb i i refl)

pub put_other : (f : ℕ → ℕ) (i v : ℕ) {j : ℕ} → j ≢ i → put f i v j ≡ f j
unfolding put
put_other f i v {j} h = rw (ne_eqb j i h)

pub busy_task : {i j : ℕ} → busy i ≡ busy j → i ≡ j
busy_task h = cc

pub idle_busy : {i : ℕ} → idle ≡ busy i → ⊥
idle_busy h = let z : ◌≡◌ {A = ℕ} 0 1 = cc in omega arith

pub is_busy : {j : ℕ} (x : Slot) → is j x ≡ true → x ≡ busy j
is_busy idle h = absurd (false≢true h)
is_busy {j} (busy i) h = ap busy (eqb-true i j h)

pub busy_is : {j : ℕ} (x : Slot) → x ≡ busy j → is j x ≡ true
busy_is idle h = absurd (idle_busy h)
busy_is {j} (busy i) h = eq-eqb i j (busy_task h)

pub and_true : (a b : Bool) → (a && b) ≡ true → (a ≡ true) × (b ≡ true)
and_true true b h = (refl, h)
and_true false b h = absurd (false≢true h)

pub share_cases : (x : Slot) (m j : ℕ) → ((x ≡ busy j) × (share x m j ≡ m)) ⊎ ((x ≢ busy j) × (share x m j ≡ 0))
share_cases idle m j = inr (idle_busy, refl)
share_cases (busy i) m j = go (ℕ_discrete i j)
  where
    go : Dec (i ≡ j) → ((busy i ≡ busy j) × (cond (eqb i j) m 0 ≡ m)) ⊎ ((busy i ≢ busy j) × (cond (eqb i j) m 0 ≡ 0))
    go (yes e) = inl (ap busy e, rw (eq-eqb i j e))
    go (no e) = inr (λ z. e (busy_task z), rw (ne_eqb i j e))

share_zero : (x : Slot) (j : ℕ) → share x 0 j ≡ 0
share_zero x j = go (share_cases x 0 j)
  where
    go : ((x ≡ busy j) × (share x 0 j ≡ 0)) ⊎ ((x ≢ busy j) × (share x 0 j ≡ 0)) → share x 0 j ≡ 0
    go (inl y) = y.1
    go (inr y) = y.1

share_step : (x : Slot) (m j : ℕ) → share x (suc m) j ≡ share x m j + runs j x
share_step idle m j = refl
share_step (busy i) m j = go (eqb i j)
  where
    go : (b : Bool) → cond b (suc m) 0 ≡ cond b m 0 + cond b 1 0
    go true = omega arith
    go false = refl

-- What runs in a tick

abbrev pub Chosen : List Task → (ℕ → ℕ) → ℕ → Slot → Type 0
Chosen ts K t idle = (j : ℕ) → j < length ts → t < release ts j (K j)
Chosen ts K t (busy i) = (i < length ts) × (release ts i (K i) ≤ t) × ((j : ℕ) → j < length ts → release ts j (K j) ≤ t → rank ts j ≤ rank ts i)

pub turn_chosen : (ts : List Task) (K : ℕ → ℕ) (t : ℕ) → Chosen ts K t (turn ts K t)
unfolding turn
turn_chosen ts K t = go (turn ts K t) (greatest_is (rank ts) (λ j. leb (release ts j (K j)) t) (length ts))
  where
    go : (x : Slot) → IsGreatest (rank ts) (λ j. leb (release ts j (K j)) t) (length ts) x → Chosen ts K t x
    go idle h = λ j l. leb-false (release ts j (K j)) t (h j l)
    go (busy i) h = (h.0, leb-true (release ts i (K i)) t h.1, λ j l r. h.2 j l (le-leb (release ts j (K j)) t r))

chosen_unique : {ts : List Task} → Proper ts → (K : ℕ → ℕ) (t : ℕ) (x y : Slot) → Chosen ts K t x → Chosen ts K t y → x ≡ y
chosen_unique good K t idle idle a b = refl
chosen_unique good K t idle (busy j) a b = absurd (omega (arith, a j b.0, b.1))
chosen_unique good K t (busy i) idle a b = absurd (omega (arith, b i a.0, a.1))
chosen_unique good K t (busy i) (busy j) a b = ap busy (good.ranks_differ i j a.0 b.0 (omega (arith, a.2 j b.0 b.1, b.2 i a.0 a.1)))

-- What is chosen later was chosen before, if it was released.
chosen_back : (ts : List Task) (K : ℕ → ℕ) (t v : ℕ) (x : Slot) → t ≤ v → Chosen ts K v x → ((i : ℕ) → x ≡ busy i → release ts i (K i) ≤ t) → Chosen ts K t x
chosen_back ts K t v idle l c r = λ j m. le_trans (omega arith) (c j m)
chosen_back ts K t v (busy i) l c r = (c.0, r i refl, λ j m q. c.2 j m (omega arith))

-- A task that is within a job is at none's beginning or end.
pub within_job : (d : Demands) (i k m n : ℕ) → need d i k < n → n < need d i (suc k) → n ≢ need d i m
within_job d i k m n a b e = go (dec_le m k)
  where
    go : Dec (m ≤ k) → ⊥
    go (yes l) = omega (arith, need_grows d i m k l)
    go (no l) = omega (arith, need_grows d i (suc k) m (omega arith))

module _ {ts : List Task} (good : Proper ts) {d : Demands} {run : Run} (s : Schedule ts d run) (w : Within ts d) where
  -- Of each task K jobs are finished and the next is not.
  abbrev pub InTurn : (ℕ → ℕ) → ℕ → Type 0
  InTurn K t = (j : ℕ) → j < length ts → (need d j (K j) ≤ done run j t) × (done run j t < need d j (suc (K j)))

  pending_released : (K : ℕ → ℕ) (t j : ℕ) → InTurn K t → j < length ts → Pending ts d run j t → release ts j (K j) ≤ t
  pending_released K t j h l p =
      let no : ¬ (t < release ts j (K j)) = λ m. omega (arith, p, (h j l).0, due_most ts d j (good.period_positive j l) (K j) (suc t) m) in omega arith

  released_pending : (K : ℕ → ℕ) (t j : ℕ) → InTurn K t → j < length ts → release ts j (K j) ≤ t → Pending ts d run j t
  released_pending K t j h l r = omega (arith, (h j l).1, due_covers ts d j (good.period_positive j l) (K j) (suc t) (omega arith))

  runs_chosen : (K : ℕ → ℕ) (t : ℕ) → InTurn K t → (x : Slot) → run t ≡ x → Chosen ts K t x
  runs_chosen K t h idle e = λ j l. let no : ¬ (release ts j (K j) ≤ t) = λ r. s.idle_empty t j e l (released_pending K t j h l r) in omega arith
  runs_chosen K t h (busy i) e = (
    s.runs_known t i e,
    pending_released K t i h (s.runs_known t i e) (s.runs_pending t i e),
    λ j l r. s.runs_greatest t i j e l (released_pending K t j h l r),
  )

  pub run_turn : (K : ℕ → ℕ) (t : ℕ) → InTurn K t → run t ≡ turn ts K t
  run_turn K t h = chosen_unique good K t (run t) (turn ts K t) (runs_chosen K t h (run t) refl) (turn_chosen ts K t)

  -- A job in progress is released.
  progress_released : (K : ℕ → ℕ) (t i : ℕ) → i < length ts → need d i (K i) < done run i t → release ts i (K i) ≤ t
  progress_released K t i l h =
      let no : ¬ (t ≤ release ts i (K i)) = λ m. omega (arith, done_most s i t, due_most ts d i (good.period_positive i l) (K i) t m) in omega arith

  -- From t on, the slot x that is chosen at v is chosen at every tick up to v, while its job lasts.
  module _ (K : ℕ → ℕ) (t v : ℕ) (h : InTurn K t) (x : Slot) (c : Chosen ts K v x) (r : (i : ℕ) → x ≡ busy i → release ts i (K i) ≤ t) where
    abbrev Lasts : ℕ → Type 0
    Lasts m = (i : ℕ) → x ≡ busy i → done run i t + m ≤ need d i (suc (K i))

    still : (m : ℕ) → Lasts (suc m) → ((j : ℕ) → done run j (t + m) ≡ done run j t + share x m j) → t + m ≤ v → run (t + m) ≡ x
    still m z e l = chosen_unique good K (t + m) (run (t + m)) x (runs_chosen K (t + m) in_turn (run (t + m)) refl)
        (chosen_back ts K (t + m) v x l c (λ i q. omega (arith, r i q)))
      where
        in_turn : InTurn K (t + m)
        in_turn j q = go (share_cases x m j)
          where
            go : ((x ≡ busy j) × (share x m j ≡ m)) ⊎ ((x ≢ busy j) × (share x m j ≡ 0)) → (need d j (K j) ≤ done run j (t + m)) × (done run j (t + m) < need d j (suc (K j)))
            go (inl y) = (omega (arith, e j, (h j q).0), omega (arith, e j, y.1, z j y.0))
            go (inr y) = (omega (arith, e j, (h j q).0), omega (arith, e j, y.1, (h j q).1))

    counts_still : (m : ℕ) → t + m ≤ suc v → Lasts m → (j : ℕ) → done run j (t + m) ≡ done run j t + share x m j
    counts_still zero l z j = ap (done run j) (add-zero t) ∙ omega (arith, share_zero x j)
    counts_still (suc m) l z j = go (counts_still m (omega arith) (λ i q. omega (arith, z i q)))
      where
        next : t + suc m ≡ suc (t + m)
        next = omega arith

        go : ((j : ℕ) → done run j (t + m) ≡ done run j t + share x m j) → done run j (t + suc m) ≡ done run j t + share x (suc m) j
        go e = ap (done run j) next ∙ done_step run j (t + m) ∙ omega (arith, e j, share_step x m j, ap (runs j) (still m z e (omega arith)))

    run_still : (m : ℕ) → t + m ≤ v → Lasts (suc m) → run (t + m) ≡ x
    run_still m l z = still m z (counts_still m (omega arith) (λ i q. omega (arith, z i q))) l

-- Schedules that fit a state

-- The demands leave room for what the state has seen run.
pub record Room (ts : List Task) (d : Demands) (s : State) : Type 0 where
  pub most : (i : ℕ) → i < length ts → s.ran i ≤ d i (s.ended i)
  pub unfinished : (i : ℕ) → i < length ts → s.last ≢ busy i → s.ran i < d i (s.ended i)
  pub known : (i : ℕ) → s.last ≡ busy i → i < length ts
  pub begun : (i : ℕ) → s.last ≡ busy i → 0 < s.ran i

pub record Fits (ts : List Task) (d : Demands) (run : Run) (s : State) : Type 0 where
  pub room : Room ts d s
  pub counts : (i : ℕ) → i < length ts → done run i s.tick ≡ need d i (s.ended i) + s.ran i
  pub ran_last : (i : ℕ) → s.last ≡ busy i → (l : ℕ) × (s.tick ≡ suc l) × (run l ≡ busy i)

abbrev pub Settled : List Task → Demands → State → Type 0
Settled ts d s = (i : ℕ) → i < length ts → s.ran i < d i (s.ended i)

pub opening_least : (t : ℕ) (x : Slot) → 2 * t ≤ opening t x
opening_least t idle = omega arith
opening_least t (busy i) = le_refl _

pub opening_most : (t : ℕ) (x : Slot) → opening t x ≤ suc (2 * t)
opening_most t idle = le_refl _
opening_most t (busy i) = omega arith

pub opening_busy : (t i : ℕ) (x : Slot) → x ≡ busy i → opening t x ≡ 2 * t
opening_busy t i x h = ap (opening t) h

pub share_self : (x : Slot) (m i : ℕ) → x ≡ busy i → share x m i ≡ m
share_self x m i h = go (share_cases x m i)
  where
    go : ((x ≡ busy i) × (share x m i ≡ m)) ⊎ ((x ≢ busy i) × (share x m i ≡ 0)) → share x m i ≡ m
    go (inl y) = y.1
    go (inr y) = absurd (y.0 h)

-- Where there is room after a stretch, every job was unfinished before it.
pub stretched_settled : {ts : List Task} (d : Demands) (s : State) (u : ℕ) (x : Slot) → s.tick < u → Room ts d (stretched s u x) → Settled ts d s
stretched_settled d s u x l r i k = go (share_cases x (u - s.tick) i)
  where
    go : ((x ≡ busy i) × (share x (u - s.tick) i ≡ u - s.tick)) ⊎ ((x ≢ busy i) × (share x (u - s.tick) i ≡ 0)) → s.ran i < d i (s.ended i)
    go (inl y) = omega (arith, r.most i k, y.1)
    go (inr y) = omega (arith, r.unfinished i k y.0, y.1)

module _ {ts : List Task} (good : Proper ts) {d : Demands} {run : Run} (c : Schedule ts d run) (w : Within ts d) (s : State) (f : Fits ts d run s) where
  pub settled_turn : Settled ts d s → InTurn good c w s.ended s.tick
  settled_turn z j l = (omega (arith, f.counts j l), omega (arith, f.counts j l, z j l, need_step d j (s.ended j)))

  -- No job finishes at the state's tick, as all are unfinished,
  pub none_finishes : Settled ts d s → (i k : ℕ) → Finishes d run i k s.tick → from s ≤ 2 * s.tick → ⊥
  none_finishes z i k x = go s.last refl
    where
      go : (y : Slot) → s.last ≡ y → opening s.tick y ≤ 2 * s.tick → ⊥
      go idle e h = omega arith
      go (busy j) e h = within_job d i (s.ended i) (suc k) (done run i s.tick)
          (omega (arith, f.counts i known, f.room.begun i own)) (settled_turn z i known).1 x.done_by
        where
          l : (l : ℕ) × (s.tick ≡ suc l) × (run l ≡ busy j)
          l = f.ran_last j e

          same : l.0 ≡ x.last
          same = omega (arith, l.1, x.is_next)

          own : s.last ≡ busy i
          own = e ∙ sym l.2 ∙ ap run same ∙ x.runs_last

          known : i < length ts
          known = f.room.known i own

  -- and the job that ran last finishes there, if its demand is met.
  pub finishes_now : (i : ℕ) → s.last ≡ busy i → s.ran i ≡ d i (s.ended i) → Finishes d run i (s.ended i) s.tick
  finishes_now i e h = let l = f.ran_last i e in record {
    last = l.0;
    is_next = l.1;
    runs_last = l.2;
    done_by = omega (arith, f.counts i (f.room.known i e), need_step d i (s.ended i));
  }

  -- A stretch without events: where the demands have room for it, that is what happens.
  module _ (u : ℕ) (later : s.tick < u) (x : Slot) (t : Chosen ts s.ended (u - 1) x) (b : (i : ℕ) → x ≡ busy i → 0 < s.ran i) (r : Room ts d (stretched s u x)) where
    z : Settled ts d s
    z = stretched_settled d s u x later r

    known : (i : ℕ) → x ≡ busy i → i < length ts
    known i e = r.known i e

    released : (i : ℕ) → x ≡ busy i → release ts i (s.ended i) ≤ s.tick
    released i e = progress_released good c w s.ended s.tick i (known i e) (omega (arith, f.counts i (known i e), b i e))

    lasts : (i : ℕ) → x ≡ busy i → done run i s.tick + (u - s.tick) ≤ need d i (suc (s.ended i))
    lasts i e = omega (arith, f.counts i (known i e), r.most i (known i e), share_self x (u - s.tick) i e, need_step d i (s.ended i))

    -- At tick a of the stretch.
    counts_at : (a : ℕ) → s.tick ≤ a → a ≤ u → (j : ℕ) → done run j a ≡ done run j s.tick + share x (a - s.tick) j
    counts_at a p q j = ap (done run j) back ∙ counts_still good c w s.ended s.tick (u - 1) (settled_turn z) x t released (a - s.tick) (omega arith) (λ i e. omega (arith, lasts i e)) j
      where
        back : a ≡ s.tick + (a - s.tick)
        back = omega arith

    run_at : (a : ℕ) → s.tick ≤ a → a < u → run a ≡ x
    run_at a p q = ap run back ∙ run_still good c w s.ended s.tick (u - 1) (settled_turn z) x t released (a - s.tick) (omega arith) (λ i e. omega (arith, lasts i e))
      where
        back : a ≡ s.tick + (a - s.tick)
        back = omega arith

    pub fits_stretched : Fits ts d run (stretched s u x)
    fits_stretched = record {
      room = r;
      counts = λ j l. omega (arith, counts_at u (omega arith) (le_refl _) j, f.counts j l);
      ran_last = λ i e. (u - 1, omega arith, run_at (u - 1) (omega arith) (omega arith) ∙ e);
    }

    -- Within it no job begins or ends.
    amid : (i k a : ℕ) → s.tick ≤ a → a < u → x ≡ busy i → done run i a ≢ need d i k
    amid i k a p q e = within_job d i (s.ended i) k (done run i a)
        (omega (arith, counts_at a p (omega arith) i, f.counts i (known i e), b i e))
        (omega (arith, counts_at a p (omega arith) i, share_self x (a - s.tick) i e, lasts i e))

    pub none_within : (e : Event) → Happens d run e → from s ≤ instant e → opening u x ≤ instant e
    none_within (start i a) (k, y) h = go (dec_lt a u)
      where
        go : Dec (a < u) → opening u x ≤ suc (2 * a)
        go (no q) = omega (arith, opening_most u x)
        go (yes q) = absurd (amid i k a p q (sym (run_at a p q) ∙ y.runs_first) y.done_before)
          where
            p : s.tick ≤ a
            p = omega (arith, opening_least s.tick s.last)
    none_within (finish i a) (k, y) h = go (ℕ_discrete a s.tick) (dec_le a u)
      where
        p : s.tick ≤ a
        p = omega (arith, opening_least s.tick s.last)

        go : Dec (a ≡ s.tick) → Dec (a ≤ u) → opening u x ≤ 2 * a
        go (yes e) q = absurd (none_finishes z i k (subst (Finishes d run i k) e y) (omega arith))
        go (no e) (no q) = omega (arith, opening_most u x)
        go (no e) (yes q) = let no : ¬ (a < u) = λ l. amid i (suc k) a p l own y.done_by in omega (arith, opening_busy u i x own)
          where
            own : x ≡ busy i
            own = sym (run_at y.last (omega (arith, p, y.is_next)) (omega (arith, y.is_next))) ∙ y.runs_last

  -- A job that is unfinished is not about to finish; else it finishes now.
  pub unmet : (i : ℕ) → i < length ts → s.ran i < d i (s.ended i) ⊎ Finishes d run i (s.ended i) s.tick × (s.last ≡ busy i)
  unmet i l = go (dec_lt (s.ran i) (d i (s.ended i))) s.last refl
    where
      go : Dec (s.ran i < d i (s.ended i)) → (x : Slot) → s.last ≡ x → s.ran i < d i (s.ended i) ⊎ Finishes d run i (s.ended i) s.tick × (s.last ≡ busy i)
      go (yes h) x e = inl h
      go (no h) idle e = absurd (h (f.room.unfinished i l (λ q. idle_busy (sym e ∙ q))))
      go (no h) (busy j) e = at (ℕ_discrete j i)
        where
          at : Dec (j ≡ i) → s.ran i < d i (s.ended i) ⊎ Finishes d run i (s.ended i) s.tick × (s.last ≡ busy i)
          at (yes q) = let own = e ∙ ap busy q in inr (finishes_now i own (omega (arith, f.room.most i l)), own)
          at (no q) = absurd (h (f.room.unfinished i l (λ r. q (busy_task (sym e ∙ r)))))

  -- Where no event comes before tick u, the state goes on to it.
  module _ (u : ℕ) (later : s.tick < u) (none : (e : Event) → Happens d run e → from s ≤ instant e → 2 * u ≤ instant e) where
    settled : Settled ts d s
    settled i l = go (unmet i l)
      where
        go : s.ran i < d i (s.ended i) ⊎ Finishes d run i (s.ended i) s.tick × (s.last ≡ busy i) → s.ran i < d i (s.ended i)
        go (inl h) = h
        go (inr h) = absurd (omega (arith, none (finish i s.tick) (s.ended i, h.0) (omega (arith, opening_busy s.tick i s.last h.1))))

    no_start : (i k a : ℕ) → s.tick ≤ a → a < u → ¬ (Starts d run i k a)
    no_start i k a p q x = omega (arith, none (start i a) (k, x) (omega (arith, opening_most s.tick s.last)))

    no_finish : (i k a : ℕ) → s.tick < a → a < u → ¬ (Finishes d run i k a)
    no_finish i k a p q x = omega (arith, none (finish i a) (k, x) (omega (arith, opening_most s.tick s.last)))

    -- Up to it no job is finished, and none begun.
    abbrev Calm : ℕ → Type 0
    Calm a = (j : ℕ) → j < length ts → (done run j a < need d j (suc (s.ended j))) × (done run j s.tick ≡ need d j (s.ended j) → done run j a ≡ need d j (s.ended j))

    calm_step : (a : ℕ) → s.tick ≤ a → suc a < u → Calm a → Calm (suc a)
    calm_step a p q h j l = go (run a) refl
      where
        go : (x : Slot) → run a ≡ x → (done run j (suc a) < need d j (suc (s.ended j))) × (done run j s.tick ≡ need d j (s.ended j) → done run j (suc a) ≡ need d j (s.ended j))
        go idle e = (omega (arith, same, (h j l).0), λ z. same ∙ (h j l).1 z)
          where
            same : done run j (suc a) ≡ done run j a
            same = done_step run j a ∙ ap (λ x. done run j a + runs j x) e ∙ omega arith
        go (busy i) e = at (ℕ_discrete i j)
          where
            at : Dec (i ≡ j) → (done run j (suc a) < need d j (suc (s.ended j))) × (done run j s.tick ≡ need d j (s.ended j) → done run j (suc a) ≡ need d j (s.ended j))
            at (no n) = (omega (arith, same, (h j l).0), λ z. same ∙ (h j l).1 z)
              where
                same : done run j (suc a) ≡ done run j a
                same = done_step run j a ∙ ap (λ x. done run j a + runs j x) e ∙ omega (arith, runs_other {i = i} {j = j} (λ z. n (sym z)))
            at (yes y) = (let no : done run j (suc a) ≢ need d j (suc (s.ended j)) = ends in omega (arith, more, (h j l).0), λ z. absurd (no_start j (s.ended j) a p (omega arith) (record { runs_first = own; done_before = (h j l).1 z })))
              where
                own : run a ≡ busy j
                own = e ∙ ap busy y

                more : done run j (suc a) ≡ suc (done run j a)
                more = done_busy run j a own

                ends : done run j (suc a) ≢ need d j (suc (s.ended j))
                ends z = no_finish j (s.ended j) (suc a) (omega arith) q (record { last = a; is_next = refl; runs_last = own; done_by = z })

    calm : (n : ℕ) → s.tick + n < u → Calm (s.tick + n)
    calm zero l = subst Calm (sym (add-zero s.tick)) (λ j k. ((settled_turn settled j k).1, λ z. z))
    calm (suc n) l = subst Calm next (calm_step (s.tick + n) (omega arith) (omega arith) (calm n (omega arith)))
      where
        next : suc (s.tick + n) ≡ s.tick + suc n
        next = omega arith

    calm_at : (a : ℕ) → s.tick ≤ a → a < u → Calm a
    calm_at a p q = subst Calm back (calm (a - s.tick) (omega arith))
      where
        back : s.tick + (a - s.tick) ≡ a
        back = omega arith

    abbrev x : Slot
    x = turn ts s.ended (u - 1)

    run_last : run (u - 1) ≡ x
    run_last = run_turn good c w s.ended (u - 1) (λ j l. (
      omega (arith, (settled_turn settled j l).0, done_grows run j s.tick (u - 1) (omega arith)),
      (calm_at (u - 1) (omega arith) (omega arith) j l).0,
    ))

    own_known : (i : ℕ) → x ≡ busy i → i < length ts
    own_known i e = c.runs_known (u - 1) i (run_last ∙ e)

    own_begun : (i : ℕ) → x ≡ busy i → 0 < s.ran i
    own_begun i e = let no : s.ran i ≢ 0 = fresh in omega arith
      where
        fresh : s.ran i ≢ 0
        fresh z = no_start i (s.ended i) (u - 1) (omega arith) (omega arith)
            (record { runs_first = run_last ∙ e; done_before = (calm_at (u - 1) (omega arith) (omega arith) i (own_known i e)).1 (omega (arith, f.counts i (own_known i e))) })

    own_room : (i : ℕ) → x ≡ busy i → s.ran i + (u - s.tick) ≤ d i (s.ended i)
    own_room i e = let no : ¬ (d i (s.ended i) < s.ran i + (u - s.tick)) = over in omega arith
      where
        l : i < length ts
        l = own_known i e

        q : ℕ
        q = d i (s.ended i) - s.ran i

        lasts : (j : ℕ) → x ≡ busy j → done run j s.tick + q ≤ need d j (suc (s.ended j))
        lasts j z = subst (λ j. done run j s.tick + q ≤ need d j (suc (s.ended j))) (busy_task (sym e ∙ z)) (omega (arith, f.counts i l, settled i l, need_step d i (s.ended i)))

        over : ¬ (d i (s.ended i) < s.ran i + (u - s.tick))
        over z = omega (
          arith,
          f.counts i l,
          settled i l,
          need_step d i (s.ended i),
          share_self x q i e,
          (calm_at (s.tick + q) (omega arith) (omega arith) i l).0,
          counts_still good c w s.ended s.tick (u - 1) (settled_turn settled) x (turn_chosen ts s.ended (u - 1))
              (λ j y. progress_released good c w s.ended s.tick j (own_known j y) (omega (arith, f.counts j (own_known j y), own_begun j y)))
              q (omega arith) lasts i,
        )

    room_stretched : Room ts d (stretched s u x)
    room_stretched = record {
      most = λ i l. (go i l (share_cases x (u - s.tick) i)).0;
      unfinished = λ i l n. (go i l (share_cases x (u - s.tick) i)).1 n;
      known = own_known;
      begun = λ i e. omega (arith, own_begun i e);
    }
      where
        go : (i : ℕ) → i < length ts → ((x ≡ busy i) × (share x (u - s.tick) i ≡ u - s.tick)) ⊎ ((x ≢ busy i) × (share x (u - s.tick) i ≡ 0))
            → (s.ran i + share x (u - s.tick) i ≤ d i (s.ended i)) × (x ≢ busy i → s.ran i + share x (u - s.tick) i < d i (s.ended i))
        go i l (inl y) = (omega (arith, y.1, own_room i y.0), λ n. absurd (n y.0))
        go i l (inr y) = (omega (arith, y.1, settled i l), λ n. omega (arith, y.1, settled i l))

    goes_on_lem : goes_on ts s.ran s.last ≡ true
    goes_on_lem = go s.last refl
      where
        go : (y : Slot) → s.last ≡ y → goes_on ts s.ran y ≡ true
        go idle e = refl
        go (busy i) e = let l = f.room.known i e in lt-ltb (s.ran i) (budget ts i) (omega (arith, settled i l, w.most_budget i (s.ended i) l))

    is_quiet_lem : quiet ts s.ran (u - s.tick) x ≡ true
    is_quiet_lem = go x refl
      where
        go : (y : Slot) → x ≡ y → quiet ts s.ran (u - s.tick) y ≡ true
        go idle e = refl
        go (busy i) e = ap₂ ◌&&◌ (lt-ltb 0 (s.ran i) (own_begun i e)) (le-leb (s.ran i + (u - s.tick)) (budget ts i) (omega (arith, own_room i e, w.most_budget i (s.ended i) (own_known i e))))

    waits : wait ts s u ≡ on (stretched s u x)
    unfolding wait
    waits = rw (ne_eqb u s.tick (λ e. omega arith), goes_on_lem, is_quiet_lem)

    fits_waited : Fits ts d run (stretched s u x)
    fits_waited = fits_stretched u later x (turn_chosen ts s.ended (u - 1)) own_begun room_stretched

  -- The same from this tick or a later one, and what ran last.
  pub wait_reaches : (u : ℕ) → s.tick ≤ u → ((e : Event) → Happens d run e → from s ≤ instant e → 2 * u ≤ instant e)
      → (s' : State) × (wait ts s u ≡ on s') × Fits ts d run s' × (s'.tick ≡ u) × (from s ≤ from s')
      × ((i l : ℕ) → u ≡ suc l → run l ≡ busy i → from s ≤ 2 * u → s'.last ≡ busy i)
  unfolding wait
  wait_reaches u l none = go (ℕ_discrete u s.tick)
    where
      go : Dec (u ≡ s.tick) → (s' : State) × (wait ts s u ≡ on s') × Fits ts d run s' × (s'.tick ≡ u) × (from s ≤ from s')
          × ((i l : ℕ) → u ≡ suc l → run l ≡ busy i → from s ≤ 2 * u → s'.last ≡ busy i)
      go (yes e) = (s, rw (eq-eqb u s.tick e), f, sym e, le_refl _, λ i l p q h. last s.last refl i l p q h)
        where
          last : (x : Slot) → s.last ≡ x → (i l : ℕ) → u ≡ suc l → run l ≡ busy i → opening s.tick x ≤ 2 * u → x ≡ busy i
          last idle z i l p q h = absurd (omega arith)
          last (busy j) z i l p q h = let y = f.ran_last j z in let at : y.0 ≡ l = omega (arith, y.1) in sym y.2 ∙ ap run at ∙ q
      go (no e) = (
        stretched s u x,
        waits u later none,
        fits_waited u later none,
        refl,
        omega (arith, opening_most s.tick s.last, opening_least u x),
        λ i l p q h. let at : u - 1 ≡ l = omega arith in sym (run_last u later none) ∙ ap run at ∙ q,
      )
        where
          x : Slot
          x = turn ts s.ended (u - 1)

          later : s.tick < u
          later = omega arith
