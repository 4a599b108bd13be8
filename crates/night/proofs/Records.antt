-- The pass over the log's records, record by record.
use Rattle.std.proofs.Common.{◌≡◌, refl, sym, ap, ap₂, ◌∙◌, subst, arith, zero-add, add-zero, List, Option, Some, None, ℕ, zero, suc, ◌+◌, ◌-◌, ◌≤◌, ◌<◌, Bool, true, false, cond, length, lt-ltb, le-ltb}
use native.Mathlib.Decide.{ℕ_discrete}
use Rattle.theory.specs.declared.Task.{Task}
use Rattle.theory.specs.Model.Schedule.{period}
use Rattle.arith.specs.Ranges.{sum}
use Rattle.clocklog.specs.declared.answer.Entry.{Entry}
use Rattle.clocklog.specs.Events.{Event, start, finish}
use Rattle.clocklog.specs.Format.{gap, kind_in, time_before, time_at, event, record_at, records_from}
use Rattle.clocklog.specs.Promises.{EntryPromise}
use Rattle.sheet.specs.Tasks.{first_of, rest_of}
use Rattle.night.specs.declared.state.Readings.{Readings as Places}
use Rattle.night.specs.declared.state.Found.{Found}
use Rattle.night.specs.Pass.{State, fresh, put, Step, broken, on, step, further, taken}
use Rattle.night.specs.PassLaws.{put_same, put_other}
use Rattle.night.specs.StepLaws.{step_parts, start_parts, finish_parts, wait_ended}
use Rattle.night.specs.Follow.{stands, Readings, unread, ready, follow, followed}
use Rattle.night.specs.Conditions.{written_in, readings_of, found_by, break_in, FoundIn}

-- ---- the state

-- A record raises no count of finished jobs by more than one.
pub step_ended : (ts : List Task) (s s' : State) (e : Event) → step ts s e ≡ on s' → (j : ℕ) → s'.ended j ≤ suc (s.ended j)
step_ended ts s s' (start i u) h j =
    let y = step_parts ts s (start i u) h in let z = start_parts ts y.0 i u y.3 in
    omega (arith, ap (λ b. b.ended j) z.3, ap (λ f. f j) (wait_ended ts s u y.1 y.2))
step_ended ts s s' (finish i u) h j =
    let y = step_parts ts s (finish i u) h in let z = finish_parts ts y.0 i u y.3 in
    go y.0 (ap (λ b. b.ended j) z.1) (ap (λ f. f j) (wait_ended ts s u y.1 y.2)) (ℕ_discrete j i)
  where
    go : (a : State) → s'.ended j ≡ put a.ended i (suc (a.ended i)) j → a.ended j ≡ s.ended j → Dec (j ≡ i) → s'.ended j ≤ suc (s.ended j)
    go a p q (yes e) = omega (arith, p, q, ap (put a.ended i (suc (a.ended i))) e, put_same a.ended i (suc (a.ended i)), ap a.ended e)
    go a p q (no e) = omega (arith, p, q, put_other a.ended i (suc (a.ended i)) e)

-- After r of n records
pub record Going (ts : List Task) (bytes : List ℕ) (n at r : ℕ) (s : State) : Type 0 where
  pub time : at ≡ time_before bytes r
  pub few : (j : ℕ) → s.ended j ≤ r
  pub total : taken ts (records_from bytes 0 n) fresh ≡ r + taken ts (records_from bytes r (n - r)) s

module _ (ts : List Task) (bytes : List ℕ) (n : ℕ) where
  pub going_start : Going ts bytes n 0 0 fresh
  unfolding time_before sum
  going_start = record { time = refl; few = λ j. omega arith; total = sym (zero-add _ ∙ ap (λ k. taken ts (records_from bytes 0 k) fresh) {x = n - 0} {y = n} (omega arith)) }

  module _ (at r : ℕ) (s : State) (g : Going ts bytes n at r s) where
    pub going_time : at + gap bytes r ≡ time_at bytes r
    unfolding time_before sum
    going_time = ap (λ x. x + gap bytes r) g.time

    -- The record as it is read.
    pub recorded : (e : Entry) → EntryPromise bytes r e → event e.task (kind_in e.kind) (at + e.gap) ≡ record_at bytes r
    recorded e p = ap₂ (λ t k. event t k (at + e.gap)) p.0 p.1 ∙ ap (event _ _) (ap (λ d. at + d) p.2 ∙ going_time)

    -- The records that are left, by what the next leads to.
    left : r < n → (x : Step) → x ≡ step ts s (record_at bytes r) → taken ts (records_from bytes 0 n) fresh ≡ r + further (taken ts (records_from bytes (suc r) (n - suc r))) x
    unfolding taken records_from
    left l x h = g.total ∙ ap (λ k. r + taken ts (records_from bytes r k) s) more ∙ ap (λ y. r + further (taken ts (records_from bytes (suc r) (n - suc r))) y) (sym h)
      where
        more : n - r ≡ suc (n - suc r)
        more = omega arith

    pub going_breaks : r < n → broken ≡ step ts s (record_at bytes r) → r ≡ taken ts (records_from bytes 0 n) fresh
    going_breaks l h = omega (arith, left l broken h)

    pub going_next : r < n → (s' : State) → on s' ≡ step ts s (record_at bytes r) → Going ts bytes n (at + gap bytes r) (r + 1) s'
    unfolding time_before sum
    going_next l s' h = record {
      time = ap (λ x. x + gap bytes r) g.time ∙ ap (time_before bytes) one;
      few = λ j. omega (arith, g.few j, step_ended ts s s' (record_at bytes r) (sym h) j);
      total = left l (on s') h ∙ omega (arith, ap₂ (λ a b. taken ts (records_from bytes a b) s') one less);
    }
      where
        one : suc r ≡ r + 1
        one = omega arith

        less : n - suc r ≡ n - (r + 1)
        less = omega arith

    pub going_ends : r ≡ n → n ≡ taken ts (records_from bytes 0 n) fresh
    unfolding taken records_from
    going_ends e = omega (arith, g.total, e, ap (λ k. taken ts (records_from bytes r k) s) none)
      where
        none : n - r ≡ 0
        none = omega arith

-- ---- the readings

-- One record more at the end.
followed_more : (T p : ℕ) (rest : List ℕ) (bytes : List ℕ) (k q : ℕ) (a : Readings)
    → followed T p rest (records_from bytes q (suc k)) a ≡ follow T p rest (followed T p rest (records_from bytes q k) a) (record_at bytes (q + k))
unfolding followed records_from
followed_more T p rest bytes zero q a = ap (λ n. follow T p rest a (record_at bytes n)) (sym (add-zero q))
followed_more T p rest bytes (suc k) q a = followed_more T p rest bytes k (suc q) (follow T p rest a (record_at bytes q))
    ∙ ap (λ n. follow T p rest (followed T p rest (records_from bytes (suc q) k) (follow T p rest a (record_at bytes q))) (record_at bytes n)) next
  where
    next : suc q + k ≡ q + suc k
    next = omega arith

-- No more readings than records.
abbrev Few : ℕ → Readings → Type 0
Few r a = (q : ℕ) → (a.reads q ≤ r) × (a.writes q ≤ r)

ready_few : (r : ℕ) (a : Readings) → Few r a → (q : ℕ) → ready a.writes q ≤ suc r
ready_few r a h zero = omega (arith, (h 0).1)
ready_few r a h (suc q) = omega (arith, (h q).1)

follow_few : (T p : ℕ) (rest : List ℕ) (r : ℕ) (a : Readings) (e : Event) → Few r a → Few (suc r) (follow T p rest a e)
unfolding follow
follow_few T p rest r a (start i t) h q = (go (stands p rest i q), omega (arith, (h q).1))
  where
    go : (b : Bool) → cond b (ready a.writes q) (a.reads q) ≤ suc r
    go true = ready_few r a h q
    go false = omega (arith, (h q).0)
follow_few T p rest r a (finish i t) h q = (omega (arith, (h q).0), go (stands p rest i q))
  where
    go : (b : Bool) → cond b (a.reads q) (a.writes q) ≤ suc r
    go true = omega (arith, (h q).0)
    go false = omega (arith, (h q).1)

-- After r records
pub record Tracked (T : ℕ) (chain bytes : List ℕ) (r : ℕ) (a : Readings) : Type 0 where
  pub readings : a ≡ followed T (first_of chain) (rest_of chain) (records_from bytes 0 r) unread
  pub few : (q : ℕ) → (a.reads q ≤ r) × (a.writes q ≤ r)

module _ (T : ℕ) (chain bytes : List ℕ) where
  pub tracked_start : Tracked T chain bytes 0 unread
  unfolding followed records_from
  tracked_start = record { readings = refl; few = λ q. (omega arith, omega arith) }

  pub tracked_next : (r : ℕ) (a b : Readings) → Tracked T chain bytes r a → b ≡ follow T (first_of chain) (rest_of chain) a (record_at bytes r) → Tracked T chain bytes (r + 1) b
  tracked_next r a b g h = record {
    readings = h ∙ ap (λ a. follow T p rest a (record_at bytes r)) g.readings
        ∙ sym (followed_more T p rest bytes r 0 unread ∙ ap (λ n. follow T p rest (followed T p rest (records_from bytes 0 r) unread) (record_at bytes n)) (zero-add r))
        ∙ ap (λ n. followed T p rest (records_from bytes 0 n) unread) one;
    few = λ q. subst (λ n. (b.reads q ≤ n) × (b.writes q ≤ n)) one (subst (λ b. (b.reads q ≤ suc r) × (b.writes q ≤ suc r)) (sym h) (follow_few T p rest r a (record_at bytes r) g.few q));
  }
    where
      p : ℕ
      p = first_of chain

      rest : List ℕ
      rest = rest_of chain

      one : suc r ≡ r + 1
      one = omega arith

-- What is found after r of n records, where the next breaks or there is none.
module _ (ts : List Task) (chain bytes : List ℕ) (n r T : ℕ) (a : Places) (along : a.chain.now ≡ chain) (g : Tracked T chain bytes r (readings_of a)) (te : T ≡ period ts (first_of chain))
    (t : r ≡ taken ts (records_from bytes 0 n) fresh) where
  found : (breaking : Option ℕ) → breaking ≡ break_in r n → (y : Found) → y ≡ found_by a breaking → FoundIn ts (first_of chain) (rest_of chain) bytes n y
  found breaking b y e = record {
    agreeing = r;
    agreeing_is = t;
    breaking_is = ap (λ (y : Found). y.breaking) e ∙ b;
    paths_are = ap (λ (y : Found). y.paths) e ∙ ap (λ c. written_in a.places (length (rest_of c))) along ∙ ap (λ (a : Readings). a.writes (length (rest_of chain))) same;
    longest_is = ap (λ (y : Found). y.longest) e ∙ ap (λ (a : Readings). a.longest) same;
  }
    where
      same : readings_of a ≡ followed (period ts (first_of chain)) (first_of chain) (rest_of chain) (records_from bytes 0 r) unread
      same = g.readings ∙ ap (λ T. followed T (first_of chain) (rest_of chain) (records_from bytes 0 r) unread) te

  pub found_break : r < n → (y : Found) → y ≡ found_by a (Some r) → FoundIn ts (first_of chain) (rest_of chain) bytes n y
  found_break l = found (Some r) (ap (λ b. cond b (Some r) None) (sym (lt-ltb r n l)))

  pub found_all : n ≤ r → (y : Found) → y ≡ found_by a None → FoundIn ts (first_of chain) (rest_of chain) bytes n y
  found_all l = found None (ap (λ b. cond b (Some r) None) (sym (le-ltb r n l)))
