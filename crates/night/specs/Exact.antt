-- The pass is exact: it takes just as many records as agree with the tasks.
use Rattle.std.specs.Prelude.{◌≡◌, refl, ◌↔◌, ◌≢◌, List, [], ◌∷◌, cond, ◌&&◌, ℕ, zero, suc, ◌≤◌, ◌<◌, ltb, eqb, length, take}
use Rattle.std.proofs.Common.{sym, ap, ap₂, ◌∙◌, subst, le_refl, arith, lt-ltb, le-ltb, eq-eqb, ne_eqb}
use Rattle.std.proofs.Math.Decide.{ℕ_discrete, dec_lt}
use Rattle.theory.specs.declared.Task.{Task}
use Rattle.theory.specs.Model.Schedule.{budget, Proper, Demands, Within, need, busy, Run, done, Schedule}
use Rattle.arith.specs.Ranges.{sum}
use Rattle.theory.specs.Model.Responses.{full}
use Rattle.theory.specs.Model.Simulate.{simulate}
use Rattle.theory.proofs.Analysis.Existence.{simulate_schedule}
use Rattle.theory.proofs.Analysis.NeverLater.{full_within}
use Rattle.clocklog.specs.Events.{Event, start, finish, time}
use Rattle.night.specs.Agreement.{instant, Happens, Begins, Agrees}
use Rattle.night.specs.Pass.{State, fresh, from, put, turn, Step, broken, on, wait, finished, started, accept, step, further, taken}
use Rattle.night.specs.PassLaws.{idle_busy, put_same, put_other, Room, Fits}
use Rattle.night.specs.StepLaws.{next_taken, step_parts, finish_parts, start_parts, wait_ended, budget_waits, budget_accepts, wait_room, started_settled, started_room, finished_room, finish_next, start_next}

-- Every schedule that begins with the records fits the pass

pub fits_fresh : {ts : List Task} {d : Demands} {run : Run} → Within ts d → Fits ts d run fresh
unfolding done need sum
fits_fresh w = record {
  room = record { most = λ i l. omega arith; unfinished = λ i l n. w.least_one i 0 l; known = λ i e. absurd (idle_busy e); begun = λ i e. absurd (idle_busy e) };
  counts = λ i l. refl;
  ran_last = λ i e. absurd (idle_busy e);
}

begins_taken : {ts : List Task} → Proper ts → {d : Demands} {run : Run} → Schedule ts d run → Within ts d
    → (es : List Event) (s : State) → Fits ts d run s → Begins d run (from s) es → taken ts es s ≡ length es
unfolding taken
begins_taken good c w [] s f b = refl
begins_taken {ts} good {d} {run} c w (e ∷ es) s f b = let y = next_taken good c w s f e b.0 in
    ap (further (taken ts es)) y.1 ∙ ap suc (begins_taken good c w es y.0 y.2 (subst (λ u. Begins d run u es) (sym y.3) b.1))

-- For records that are all taken there are demands

-- Demands with v for job k of task i.
with : Demands → ℕ → ℕ → ℕ → Demands
with d i k v j m = cond (eqb j i && eqb m k) v (d j m)

with_same : (d : Demands) (i k v : ℕ) → with d i k v i k ≡ v
unfolding with
with_same d i k v = rw (eq-eqb i i refl, eq-eqb k k refl)

with_other : (d : Demands) (i k v j m : ℕ) → (j ≡ i → m ≢ k) → with d i k v j m ≡ d j m
unfolding with
with_other d i k v j m n = go (ℕ_discrete j i)
  where
    go : Dec (j ≡ i) → cond (eqb j i && eqb m k) v (d j m) ≡ d j m
    go (yes e) = rw (eq-eqb j i e, ne_eqb m k (n e))
    go (no e) = rw (ne_eqb j i e)

with_within : {ts : List Task} {d : Demands} (i k v : ℕ) → 0 < v → v ≤ budget ts i → Within ts d → Within ts (with d i k v)
with_within {ts} {d} i k v low high w = record { least_one = λ j m l. (go j m l (ℕ_discrete j i) (ℕ_discrete m k)).0; most_budget = λ j m l. (go j m l (ℕ_discrete j i) (ℕ_discrete m k)).1 }
  where
    kept : (j m : ℕ) → j < length ts → with d i k v j m ≡ d j m → (1 ≤ with d i k v j m) × (with d i k v j m ≤ budget ts j)
    kept j m l e = (omega (arith, e, w.least_one j m l), omega (arith, e, w.most_budget j m l))

    go : (j m : ℕ) → j < length ts → Dec (j ≡ i) → Dec (m ≡ k) → (1 ≤ with d i k v j m) × (with d i k v j m ≤ budget ts j)
    go j m l (no a) b = kept j m l (with_other d i k v j m (λ z. absurd (a z)))
    go j m l (yes a) (no b) = kept j m l (with_other d i k v j m (λ z. b))
    go j m l (yes a) (yes b) = (omega (arith, here), omega (arith, here, ap (budget ts) a))
      where
        here : with d i k v j m ≡ v
        here = ap₂ (with d i k v) a b ∙ with_same d i k v

-- Demands that have those of d₀ for the finished jobs, and by which every schedule from the state on begins with the records.
record Built (ts : List Task) (d₀ : Demands) (s : State) (es : List Event) : Type 0 where
  d : Demands
  within : Within ts d
  kept : (i k : ℕ) → i < length ts → k < s.ended i → d i k ≡ d₀ i k
  room : Room ts d s
  begins : (run : Run) → Schedule ts d run → Fits ts d run s → Begins d run (from s) es

built_none : {ts : List Task} → Proper ts → (d₀ : Demands) (s : State) → Room ts (full ts) s → Within ts d₀ → Built ts d₀ s []
built_none {ts} good d₀ s r w = record {
  d = d;
  within = record { least_one = λ i k l. (either i k l (dec_lt k (s.ended i))).0; most_budget = λ i k l. (either i k l (dec_lt k (s.ended i))).1 };
  kept = λ i k l h. old i k h;
  room = record { most = λ i l. omega (arith, new i, r.most i l); unfinished = λ i l n. omega (arith, new i, r.unfinished i l n); known = r.known; begun = r.begun };
  begins = λ run c f. tt;
}
  where
    d : Demands
    d i k = cond (ltb k (s.ended i)) (d₀ i k) (budget ts i)

    old : (i k : ℕ) → k < s.ended i → d i k ≡ d₀ i k
    old i k h = rw (lt-ltb k (s.ended i) h)

    new : (i : ℕ) → d i (s.ended i) ≡ budget ts i
    new i = rw (le-ltb (s.ended i) (s.ended i) (le_refl _))

    either : (i k : ℕ) → i < length ts → Dec (k < s.ended i) → (1 ≤ d i k) × (d i k ≤ budget ts i)
    either i k l (yes h) = (omega (arith, old i k h, w.least_one i k l), omega (arith, old i k h, w.most_budget i k l))
    either i k l (no h) = (omega (arith, same, good.budget_positive i l), omega (arith, same))
      where
        same : d i k ≡ budget ts i
        same = rw (le-ltb k (s.ended i) (omega arith))

-- One record more at the front: a start,
built_start : {ts : List Task} → Proper ts → (d₀ : Demands) (s a : State) (j u : ℕ) (es : List Event) → Room ts (full ts) s
    → s.tick ≤ u → wait ts s u ≡ on a → turn ts a.ended a.tick ≡ busy j → a.ran j ≡ 0 → Built ts d₀ (started a j) es → Built ts d₀ s (start j u ∷ es)
built_start {ts} good d₀ s a j u es r l h t z b = record {
  d = b.d;
  within = b.within;
  kept = λ i k m q. b.kept i k m (omega (arith, ap (λ f. f i) (wait_ended ts s u l h)));
  room = wait_room ts b.d (full ts) s u l h r after;
  begins = begins;
}
  where
    after : Room ts b.d a
    after = started_room b.within a j z (budget_waits ts s u l h r) b.room

    begins : (run : Run) → Schedule ts b.d run → Fits ts b.d run s → Begins b.d run (from s) (start j u ∷ es)
    begins run c f = let y = start_next good c b.within s f j u a l h after (started_settled b.within a j z b.room) t z in
        (y.0, subst (λ v. Begins b.d run v es) y.2 (b.begins run c y.1))

-- and a finish, which settles a demand.
built_finish : {ts : List Task} → Proper ts → (d₀ : Demands) (s a : State) (j u : ℕ) (es : List Event) → Room ts (full ts) s
    → s.tick ≤ u → wait ts s u ≡ on a → a.last ≡ busy j → Built ts (with d₀ j (a.ended j) (a.ran j)) (finished a j) es → Built ts d₀ s (finish j u ∷ es)
built_finish {ts} good d₀ s a j u es r l h e b = record {
  d = b.d;
  within = b.within;
  kept = λ i k m q. b.kept i k m (later i k q (ℕ_discrete i j)) ∙ with_other d₀ j (a.ended j) (a.ran j) i k (λ z y. omega (arith, q, same i, ap a.ended z));
  room = wait_room ts b.d (full ts) s u l h r after;
  begins = begins;
}
  where
    same : (i : ℕ) → a.ended i ≡ s.ended i
    same i = ap (λ f. f i) (wait_ended ts s u l h)

    own : Room ts (full ts) a
    own = budget_waits ts s u l h r

    met : a.ran j ≡ b.d j (a.ended j)
    met = sym (b.kept j (a.ended j) (own.known j e) (omega (arith, put_same a.ended j (suc (a.ended j)))) ∙ with_same d₀ j (a.ended j) (a.ran j))

    after : Room ts b.d a
    after = finished_room a j e met own b.room

    later : (i k : ℕ) → k < s.ended i → Dec (i ≡ j) → k < put a.ended j (suc (a.ended j)) i
    later i k q (yes z) = omega (arith, same i, ap a.ended z, ap (put a.ended j (suc (a.ended j))) z, put_same a.ended j (suc (a.ended j)))
    later i k q (no z) = omega (arith, same i, put_other a.ended j (suc (a.ended j)) z)

    begins : (run : Run) → Schedule ts b.d run → Fits ts b.d run s → Begins b.d run (from s) (finish j u ∷ es)
    begins run c f = let y = finish_next good c b.within s f j u a l h after e met in
        (y.0, subst (λ v. Begins b.d run v es) y.2 (b.begins run c y.1))

built : {ts : List Task} → Proper ts → (es : List Event) (d₀ : Demands) (s : State) → Room ts (full ts) s → Within ts d₀ → taken ts es s ≡ length es → Built ts d₀ s es
unfolding taken
built good [] d₀ s r w h = built_none good d₀ s r w
built {ts} good (e ∷ es) d₀ s r w h = go (step ts s e) refl h (λ d₀ s. built good es d₀ s)
  where
    Rec : Type 0
    Rec = (d₀ : Demands) (s : State) → Room ts (full ts) s → Within ts d₀ → taken ts es s ≡ length es → Built ts d₀ s es

    -- From the state after the wait.
    at : (e : Event) (a b : State) → s.tick ≤ time e → wait ts s (time e) ≡ on a → accept ts a e ≡ on b → taken ts es b ≡ length es → Rec → Built ts d₀ s (e ∷ es)
    at (start j u) a b l h q n rec = let y = start_parts ts a j u q in
        built_start good d₀ s a j u es r l h y.1 y.2 (subst (λ b. Built ts d₀ b es) y.3 (rec d₀ b (budget_accepts good a (start j u) q (budget_waits ts s u l h r)) w n))
    at (finish j u) a b l h q n rec = let y = finish_parts ts a j u q in let own = budget_waits ts s u l h r in
        let w' = with_within j (a.ended j) (a.ran j) (own.begun j y.0) (own.most j (own.known j y.0)) w in
        built_finish good d₀ s a j u es r l h y.0 (subst (λ b. Built ts (with d₀ j (a.ended j) (a.ran j)) b es) y.1
        (rec (with d₀ j (a.ended j) (a.ran j)) b (budget_accepts good a (finish j u) q own) w' n))

    go : (x : Step) → step ts s e ≡ x → further (taken ts es) x ≡ suc (length es) → Rec → Built ts d₀ s (e ∷ es)
    go broken q h rec = absurd (omega arith)
    go (on b) q h rec = let y = step_parts ts s e q in at e y.0 b y.1 y.2 y.3 (omega arith) rec

-- From instant 0 on or from 1 on: no job finishes at 0.
pub begins_one : (d : Demands) (run : Run) (es : List Event) → Begins d run 0 es ↔ Begins d run 1 es
begins_one d run [] = (λ h. h, λ h. h)
begins_one d run (e ∷ es) = (
  λ b. (record { happens = b.0.happens; from_on = positive e b.0.happens; first = λ x h l. b.0.first x h (omega arith) }, b.1),
  λ b. (record { happens = b.0.happens; from_on = omega arith; first = λ x h l. b.0.first x h (positive x h) }, b.1),
)
  where
    positive : (e : Event) → Happens d run e → 1 ≤ instant e
    positive (start i t) h = omega arith
    positive (finish i t) (k, h) = omega (arith, h.is_next)

-- Records agree with the tasks exactly when the pass takes them all.
pub agrees_taken : {ts : List Task} → Proper ts → (es : List Event) → Agrees ts es ↔ (taken ts es fresh ≡ length es)
agrees_taken {ts} good es = (
  λ a. begins_taken good a.schedule a.within es fresh (fits_fresh a.within) ((begins_one a.demands a.run es).0 a.begins),
  λ h. agree (built good es (full ts) fresh (fits_fresh {run = simulate ts (full ts)} (full_within good)).room (full_within good) h),
)
  where
    agree : Built ts (full ts) fresh es → Agrees ts es
    agree b = record {
      demands = b.d;
      run = simulate ts b.d;
      within = b.within;
      schedule = simulate_schedule ts b.d;
      begins = (begins_one b.d (simulate ts b.d) es).1 (b.begins (simulate ts b.d) (simulate_schedule ts b.d) (fits_fresh b.within));
    }

pub taken_most : (ts : List Task) (es : List Event) (s : State) → taken ts es s ≤ length es
unfolding taken
taken_most ts [] s = omega arith
taken_most ts (e ∷ es) s = go (step ts s e) (taken_most ts es)
  where
    go : (x : Step) → ((s : State) → taken ts es s ≤ length es) → further (taken ts es) x ≤ suc (length es)
    go broken h = omega arith
    go (on a) h = omega (arith, h a)

-- Of the first m records all are taken, if m are taken of all.
taken_first : (ts : List Task) (es : List Event) (m : ℕ) (s : State) → m ≤ length es → (taken ts (take m es) s ≡ m) ↔ (m ≤ taken ts es s)
unfolding taken
taken_first ts es zero s l = (λ h. omega arith, λ h. refl)
taken_first ts [] (suc m) s l = absurd (omega arith)
taken_first ts (e ∷ es) (suc m) s l = go (step ts s e) (λ a. taken_first ts es m a (omega arith))
  where
    go : (x : Step) → ((a : State) → (taken ts (take m es) a ≡ m) ↔ (m ≤ taken ts es a)) → (further (taken ts (take m es)) x ≡ suc m) ↔ (suc m ≤ further (taken ts es) x)
    go broken h = (λ q. absurd (omega arith), λ q. absurd (omega arith))
    go (on a) h = (λ q. let y = (h a).0 (omega arith) in omega arith, λ q. let y = (h a).1 (omega arith) in omega arith)

pub take_length : (es : List Event) (m : ℕ) → m ≤ length es → length (take m es) ≡ m
take_length es zero l = refl
take_length [] (suc m) l = absurd (omega arith)
take_length (e ∷ es) (suc m) l = ap suc (take_length es m (omega arith))

-- "The breaking record is the first that, with all before it, does not agree": the first m records agree exactly up to the one that breaks.
pub agrees_upto : {ts : List Task} → Proper ts → (es : List Event) (m : ℕ) → m ≤ length es → Agrees ts (take m es) ↔ (m ≤ taken ts es fresh)
agrees_upto {ts} good es m l = (
  λ a. (taken_first ts es m fresh l).0 ((agrees_taken good (take m es)).0 a ∙ take_length es m l),
  λ h. (agrees_taken good (take m es)).1 ((taken_first ts es m fresh l).1 h ∙ sym (take_length es m l)),
)
