-- The paths followed are those that the records hold, in every schedule that begins with them.
use Rattle.std.specs.Prelude.{◌≡◌, refl, ◌↔◌, ◌≢◌, ◌⊎◌, Bool, true, false, ◌&&◌, ltb, drop, Option, Some, None}
use Rattle.std.proofs.Math.Path.{sym, ap, subst}
use Rattle.std.proofs.Common.{◌∙◌, inr, mul-le-mul_right}
use Rattle.std.proofs.Math.Logic.{inl}
use mathlib.Core.List.{List, [], ◌∷◌}
use Rattle.std.proofs.Math.Bool.{cond}
use Prim.Native.Nat.{ℕ, zero, suc, ◌+◌, ◌-◌, ◌≤◌, ◌<◌}
use Rattle.std.proofs.Math.Nat.{le_refl}
use native.Mathlib.Omega.{arith}
use Rattle.std.proofs.Math.Decide.{ℕ_discrete, dec_lt}
use Rattle.std.proofs.Math.ListN.{length}
use borrow.Author.Tests.{ltb-true, ltb-false, eq-eqb, ne_eqb, lt-ltb, le-ltb, le-leb}
use Rattle.theory.specs.declared.Task.{Task}
use Rattle.theory.specs.Model.Schedule.{period, release, Demands, Within, need, Run, Schedule, Starts, Finishes}
use Rattle.theory.specs.Model.Responses.{Accepted}
use Rattle.theory.proofs.Analysis.Work.{done_busy, done_grows, need_step, need_grows}
use Rattle.theory.proofs.Analysis.Finish.{finish_least, finish_released}
use Rattle.theory.proofs.Analysis.NeverLater.{job_finishes}
use Rattle.theory.specs.Model.Chain.{Chain, HandOver, PathEnds}
use Rattle.theory.proofs.Analysis.Paths.{path_unique, path_exists}
use Rattle.clocklog.specs.Events.{Event, start, finish}
use Rattle.night.specs.declared.answer.Longest.{Longest}
use Rattle.night.specs.Agreement.{Begins, Logged, place}
use Rattle.night.specs.Pass.{State, fresh, from}
use Rattle.night.specs.PassLaws.{busy_task, Fits, opening_least, opening_most}
use Rattle.night.specs.Exact.{fits_fresh}
use Rattle.night.specs.StepLaws.{next_taken, begun, Starting, Finishing, step_starting, step_finishing, next_turn}
use Rattle.night.specs.Follow.{longer, stands, Readings, unread, ready, follow, followed, paths}

pub same_bound : (a b : ℕ) → ((k : ℕ) → (k < a) ↔ (k < b)) → a ≡ b
same_bound a b h = let no : ¬ (b < a) = λ l. omega (arith, (h b).0 l) in let on : ¬ (a < b) = λ l. omega (arith, (h a).1 l) in omega arith

-- Of the paths of jobs 0 .. n - 1 the longest, with the smallest job that has it; there is none of no path.
abbrev pub LongestOf : List Task → ℕ → List ℕ → Demands → Run → ℕ → Option Longest → Type 0
LongestOf ts p rest d run n None = n ≡ 0
LongestOf ts p rest d run n (Some x) =
    (x.job < n) × PathEnds d run p rest x.job (release ts p x.job + x.ticks)
    × ((k f : ℕ) → k < n → PathEnds d run p rest k f → (f ≤ release ts p k + x.ticks) × (f ≡ release ts p k + x.ticks → x.job ≤ k))

finish_start : {i f j u : ℕ} → finish i f ≡ start j u → ⊥
finish_start h = let z : ◌≡◌ {A = ℕ} 0 1 = cc in omega arith

finish_same : {i f j u : ℕ} → finish i f ≡ finish j u → (i ≡ j) × (f ≡ u)
finish_same h = (cc, cc)

-- The places of a chain

place_known : (ts : List Task) (p : ℕ) (rest : List ℕ) → Chain ts p rest → (q : ℕ) → q ≤ length rest → place p rest q < length ts
place_known ts p [] h zero l = h
place_known ts p [] h (suc q) l = absurd (omega arith)
place_known ts p (c ∷ rest) h zero l = h.0
place_known ts p (c ∷ rest) h (suc q) l = place_known ts c rest h.2 q (omega arith)

place_differ : (ts : List Task) (p : ℕ) (rest : List ℕ) → Chain ts p rest → (q : ℕ) → q < length rest → place p rest q ≢ place p rest (suc q)
place_differ ts p [] h q l = absurd (omega arith)
place_differ ts p (c ∷ rest) h zero l = h.1
place_differ ts p (c ∷ rest) h (suc q) l = place_differ ts c rest h.2 q (omega arith)

drop_place : (p : ℕ) (rest : List ℕ) (q : ℕ) → q < length rest → drop q rest ≡ place p rest (suc q) ∷ drop (suc q) rest
drop_place p [] q l = absurd (omega arith)
drop_place p (c ∷ rest) zero l = refl
drop_place p (c ∷ rest) (suc q) l = drop_place c rest q (omega arith)

drop_end : (rest : List ℕ) → drop (length rest) rest ≡ []
drop_end [] = refl
drop_end (c ∷ rest) = drop_end rest

module _ {ts : List Task} (ok : Accepted ts) (p : ℕ) (rest : List ℕ) (chain : Chain ts p rest) {d : Demands} {run : Run} (c : Schedule ts d run) (w : Within ts d) where
  abbrev end : ℕ
  end = length rest

  abbrev at : ℕ → ℕ
  at q = place p rest q

  hand : (q : ℕ) → q < length rest → (j : ℕ) → (m : ℕ) × HandOver d run (at q) (at (suc q)) j m
  hand q l j = let x = path_exists ok c w (at q) (at (suc q) ∷ [])
      (place_known ts p rest chain q (omega arith), place_differ ts p rest chain q l, place_known ts p rest chain (suc q) l) j in (x.1.0, x.1.1)

  -- The job at the next place that a job hands its readings to,
  next_by : (q j : ℕ) → Dec (q < length rest) → ℕ
  next_by q j (yes l) = (hand q l j).0
  next_by q j (no l) = 0

  -- and the job that the reading of job k is with at place q.
  job : ℕ → ℕ → ℕ
  job zero k = k
  job (suc q) k = next_by q (job q k) (dec_lt q (length rest))

  job_hand : (q k : ℕ) → q < length rest → HandOver d run (at q) (at (suc q)) (job q k) (job (suc q) k)
  unfolding job next_by
  job_hand q k l = go (dec_lt q (length rest))
    where
      go : (x : Dec (q < length rest)) → HandOver d run (at q) (at (suc q)) (job q k) (next_by q (job q k) x)
      go (yes m) = (hand q m (job q k)).1
      go (no m) = absurd (m l)

  path_from : (n q k f : ℕ) → q + n ≡ length rest → Finishes d run (at end) (job end k) f → PathEnds d run (at q) (drop q rest) (job q k) f
  path_from zero q k f e x = subst (λ xs. PathEnds d run (at q) xs (job q k) f) (sym (ap (λ q. drop q rest) same ∙ drop_end rest))
      (subst (λ q. Finishes d run (at q) (job q k) f) (sym same) x)
    where
      same : q ≡ length rest
      same = omega arith
  path_from (suc n) q k f e x = subst (λ xs. PathEnds d run (at q) xs (job q k) f) (sym (drop_place p rest q (omega arith)))
      (job (suc q) k, job_hand q k (omega arith), path_from n (suc q) k f (omega arith) x)

  -- The path of job k ends where the job that it comes to at the last place finishes.
  path_of : (k f : ℕ) → Finishes d run (at end) (job end k) f → PathEnds d run p rest k f
  unfolding job
  path_of k f x = path_from end 0 k f (omega arith) x

  path_ends : (k f : ℕ) → PathEnds d run p rest k f → Finishes d run (at end) (job end k) f
  path_ends k f x = let y = job_finishes ok c w (at end) (job end k) (place_known ts p rest chain end (le_refl _)) in
      subst (Finishes d run (at end) (job end k)) (path_unique d run p rest k y.0 f (path_of k y.0 y.1) x) y.1

  -- What is known of the readings after the records that lead to a state.
  record Tracks (s : State) (a : Readings) : Type 0 where
    read_is : (q k : ℕ) → q ≤ length rest → (k < a.reads q) ↔ (job q k < begun s (at q))
    written_is : (q k : ℕ) → q ≤ length rest → (k < a.writes q) ↔ (job q k < s.ended (at q))

  -- A job starts at u: a reading is handed to it, or to one before it, exactly if it is written.
  module _ (s s' : State) (f : Fits ts d run s) (f' : Fits ts d run s') (u : ℕ) (soon : s.tick ≤ u) (later : u ≤ s'.tick) where
    hand_written : (q k : ℕ) → q < length rest → Starting s s' (at (suc q)) → Starts d run (at (suc q)) (s.ended (at (suc q))) u
        → (job q k < s.ended (at q)) ↔ (job (suc q) k < suc (s.ended (at (suc q))))
    hand_written q k l g x = (forth, back)
      where
        h : HandOver d run (at q) (at (suc q)) (job q k) (job (suc q) k)
        h = job_hand q k l

        known : at q < length ts
        known = place_known ts p rest chain q (omega arith)

        forth : job q k < s.ended (at q) → job (suc q) k < suc (s.ended (at (suc q)))
        forth m = omega (
          arith,
          h.first (s.ended (at (suc q))) u x (finish_least h.finishes u (omega (
            arith,
            need_grows d (at q) (suc (job q k)) (s.ended (at q)) m,
            f.counts (at q) known,
            done_grows run (at q) s.tick u soon,
          ))),
        )

        read_by : job (suc q) k < suc (s.ended (at (suc q))) → h.read ≤ u
        read_by m = let no : ¬ (u < h.read) = λ b. omega (
          arith,
          h.starts.done_before,
          x.done_before,
          done_busy run (at (suc q)) u x.runs_first,
          done_grows run (at (suc q)) (suc u) h.read b,
          need_grows d (at (suc q)) (job (suc q) k) (s.ended (at (suc q))) (omega arith),
        ) in omega arith

        back : job (suc q) k < suc (s.ended (at (suc q))) → job q k < s.ended (at q)
        back m = let no : ¬ (s.ended (at q) ≤ job q k) = λ b. omega (
          arith,
          h.finishes.done_by,
          need_grows d (at q) (suc (s.ended (at q))) (suc (job q k)) (omega arith),
          done_grows run (at q) h.write s'.tick (omega (arith, h.in_time, read_by m)),
          f'.counts (at q) known,
          f'.room.unfinished (at q) known (λ e. place_differ ts p rest chain q l (sym (busy_task (sym g.last_is ∙ e)))),
          need_step d (at q) (s.ended (at q)),
          ap (need d (at q)) (g.ended_same (at q)),
          ap (d (at q)) (g.ended_same (at q)),
        ) in omega arith

    tracks_start : (j : ℕ) (a : Readings) → Starting s s' j → Starts d run j (s.ended j) u → Tracks s a → Tracks s' (follow (period ts p) p rest a (start j u))
    unfolding follow job
    tracks_start j a g x t = record { read_is = λ q k l. read q k l (ℕ_discrete (at q) j); written_is = λ q k l. rw (g.ended_same (at q)) (t.written_is q k l) }
      where
        -- At a place of this task.
        here : (q k : ℕ) → q ≤ length rest → at q ≡ j → (k < ready a.writes q) ↔ (job q k < begun s' (at q))
        here zero k l e = rw (e, g.begun_more) (subst (λ n. (k < suc (a.writes 0)) ↔ (k < suc n)) (whole ∙ ap s.ended e) (λ z. z, λ z. z))
          where
            whole : a.writes 0 ≡ s.ended (at 0)
            whole = same_bound (a.writes 0) (s.ended (at 0)) (λ k. t.written_is 0 k l)
        here (suc q) k l e = (λ z. go.0 ((t.written_is q k (omega arith)).0 z), λ z. (t.written_is q k (omega arith)).1 (go.1 z))
          where
            go : (job q k < s.ended (at q)) ↔ (job (suc q) k < begun s' (at (suc q)))
            go = subst (λ n. (job q k < s.ended (at q)) ↔ (job (suc q) k < n)) (sym (ap (begun s') e ∙ g.begun_more ∙ ap (λ i. suc (s.ended i)) (sym e)))
                (hand_written q k l (subst (Starting s s') (sym e) g) (subst (λ j. Starts d run j (s.ended j) u) (sym e) x))

        read : (q k : ℕ) → q ≤ length rest → Dec (at q ≡ j) → (k < cond (stands p rest j q) (ready a.writes q) (a.reads q)) ↔ (job q k < begun s' (at q))
        read q k l (yes e) = rw (le-leb q (length rest) l, eq-eqb (at q) j e) (here q k l e)
        read q k l (no e) = rw (le-leb q (length rest) l, ne_eqb (at q) j e, g.begun_same (at q) e) (t.read_is q k l)

  tracks_finish : (s s' : State) (j u : ℕ) (a : Readings) → Finishing s s' j → Tracks s a → Tracks s' (follow (period ts p) p rest a (finish j u))
  unfolding follow
  tracks_finish s s' j u a g t = record { read_is = λ q k l. rw (g.begun_same (at q)) (t.read_is q k l); written_is = λ q k l. written q k l (ℕ_discrete (at q) j) }
    where
      written : (q k : ℕ) → q ≤ length rest → Dec (at q ≡ j) → (k < cond (stands p rest j q) (a.reads q) (a.writes q)) ↔ (job q k < s'.ended (at q))
      written q k l (yes e) = rw (le-leb q (length rest) l, eq-eqb (at q) j e) (subst (λ n. (k < a.reads q) ↔ (job q k < n)) (ap (begun s) e ∙ g.begun_before ∙ sym g.ended_more ∙ ap s'.ended (sym e)) (t.read_is q k l))
      written q k l (no e) = rw (le-leb q (length rest) l, ne_eqb (at q) j e, g.ended_same (at q) e) (t.written_is q k l)

  -- No path ends before its release.
  released_before : (q k f : ℕ) → q ≤ length rest → Finishes d run (at q) (job q k) f → release ts p k ≤ f
  unfolding job
  released_before zero k f l x = omega (arith, finish_released ok.proper c p k (place_known ts p rest chain 0 l) f (w.least_one p k (place_known ts p rest chain 0 l)) x)
  released_before (suc q) k f l x = go (job_hand q k l) (released_before q k)
    where
      go : HandOver d run (at q) (at (suc q)) (job q k) (job (suc q) k) → ((f : ℕ) → q ≤ length rest → Finishes d run (at q) (job q k) f → release ts p k ≤ f) → release ts p k ≤ f
      go h rec = let no : ¬ (f < h.read) = λ b. omega (
        arith,
        x.done_by,
        h.starts.done_before,
        done_grows run (at (suc q)) f h.read (omega arith),
        need_step d (at (suc q)) (job (suc q) k),
        w.least_one (at (suc q)) (job (suc q) k) (place_known ts p rest chain (suc q) l),
      ) in omega (arith, rec h.write (omega arith) h.finishes, h.in_time)

  -- The last task finishes: the readings that are under way there have come to the end.
  module _ (s s' : State) (j u : ℕ) (a : Readings) (g : Finishing s s' j) (x : Finishes d run j (s.ended j) u) (t : Tracks s a) (last : at end ≡ j) where
    arrives : (k : ℕ) → a.writes end ≤ k → k < a.reads end → PathEnds d run p rest k u
    arrives k l m = path_of k u (subst (λ i. Finishes d run i (job end k) u) (sym last) (subst (λ n. Finishes d run j n u) (sym same) x))
      where
        low : ¬ (job end k < s.ended (at end))
        low b = omega (arith, (t.written_is end k (le_refl _)).1 b)

        same : job end k ≡ s.ended j
        same = omega (arith, low, (t.read_is end k (le_refl _)).0 m, ap (begun s) last, g.begun_before, ap s.ended last)

    arrives_at : (k f : ℕ) → a.writes end ≤ k → k < a.reads end → PathEnds d run p rest k f → f ≡ u
    arrives_at k f l m y = path_unique d run p rest k f u y (arrives k l m)

    longest_finish : a.writes end < a.reads end → LongestOf ts p rest d run (a.writes end) a.longest
        → LongestOf ts p rest d run (a.reads end) (longer a.longest (u - release ts p (a.writes end)) (a.writes end))
    longest_finish some b = go a.longest b
      where
        n : ℕ
        n = a.writes end

        delay : ℕ
        delay = u - release ts p n

        whole : u ≡ release ts p n + delay
        whole = omega (arith, released_before end n u (le_refl _) (path_ends n u (arrives n (le_refl _) some)))

        -- Among those that come now the first is the longest.
        now : (k f : ℕ) → n ≤ k → k < a.reads end → PathEnds d run p rest k f → f ≤ release ts p k + delay
        now k f l m y = omega (arith, whole, arrives_at k f l m y, mul-le-mul_right (period ts p) l)

        newly : ((k f : ℕ) → k < n → PathEnds d run p rest k f → f < release ts p k + delay) → LongestOf ts p rest d run (a.reads end) (Some (record { ticks = delay; job = n }))
        newly before = (some, subst (PathEnds d run p rest n) whole (arrives n (le_refl _) some), each)
          where
            each : (k f : ℕ) → k < a.reads end → PathEnds d run p rest k f → (f ≤ release ts p k + delay) × (f ≡ release ts p k + delay → n ≤ k)
            each k f m y = pick (dec_lt k n)
              where
                pick : Dec (k < n) → (f ≤ release ts p k + delay) × (f ≡ release ts p k + delay → n ≤ k)
                pick (yes l) = (omega (arith, before k f l y), λ e. absurd (omega (arith, before k f l y)))
                pick (no l) = (now k f (omega arith) m y, λ e. omega arith)

        go : (x : Option Longest) → LongestOf ts p rest d run (a.writes end) x → LongestOf ts p rest d run (a.reads end) (longer x (u - release ts p (a.writes end)) (a.writes end))
        go None h = newly (λ k f l y. absurd (omega (arith, h)))
        go (Some x) h = pick (ltb x.ticks delay) refl
          where
            pick : (b : Bool) → ltb x.ticks delay ≡ b → LongestOf ts p rest d run (a.reads end) (cond b (Some (record { ticks = delay; job = n })) (Some x))
            pick true e = newly (λ k f l y. omega (arith, (h.2 k f l y).0, ltb-true x.ticks delay e))
            pick false e = (omega (arith, h.0, some), h.1, each)
              where
                each : (k f : ℕ) → k < a.reads end → PathEnds d run p rest k f → (f ≤ release ts p k + x.ticks) × (f ≡ release ts p k + x.ticks → x.job ≤ k)
                each k f m y = at_k (dec_lt k n)
                  where
                    at_k : Dec (k < n) → (f ≤ release ts p k + x.ticks) × (f ≡ release ts p k + x.ticks → x.job ≤ k)
                    at_k (yes l) = h.2 k f l y
                    at_k (no l) = (omega (arith, now k f (omega arith) m y, ltb-false x.ticks delay e), λ z. omega (arith, h.0))

  -- The longest after a finish, of the last task or of another.
  longest_kept : (s s' : State) (j u : ℕ) (a : Readings) → Finishing s s' j → Finishes d run j (s.ended j) u → Tracks s a
      → LongestOf ts p rest d run (paths rest a) a.longest
      → LongestOf ts p rest d run (paths rest (follow (period ts p) p rest a (finish j u))) (follow (period ts p) p rest a (finish j u)).longest
  unfolding follow
  longest_kept s s' j u a g x t b = go (ℕ_discrete (at end) j)
    where
      more : a.writes end ≤ a.reads end
      more = let no : ¬ (a.reads end < a.writes end) = λ l. omega (arith, (t.read_is end (a.reads end) (le_refl _)).1 (omega (arith, (t.written_is end (a.reads end) (le_refl _)).0 l))) in omega arith

      go : Dec (at end ≡ j) → LongestOf ts p rest d run (cond (stands p rest j end) (a.reads end) (a.writes end))
          (cond (stands p rest j end && ltb (a.writes end) (a.reads end)) (longer a.longest (u - release ts p (a.writes end)) (a.writes end)) a.longest)
      go (no e) = rw (le-leb end end (le_refl _), ne_eqb (at end) j e) b
      go (yes e) = rw (le-leb end end (le_refl _), eq-eqb (at end) j e) (pick (dec_lt (a.writes end) (a.reads end)))
        where
          pick : Dec (a.writes end < a.reads end) → LongestOf ts p rest d run (a.reads end)
              (cond (ltb (a.writes end) (a.reads end)) (longer a.longest (u - release ts p (a.writes end)) (a.writes end)) a.longest)
          pick (yes l) = rw (lt-ltb (a.writes end) (a.reads end) l) (longest_finish s s' j u a g x t e l b)
          pick (no l) = rw (le-ltb (a.writes end) (a.reads end) (omega arith)) (subst (λ n. LongestOf ts p rest d run n a.longest) same b)
            where
              same : a.writes end ≡ a.reads end
              same = omega (arith, more)

  longest_start : (j u : ℕ) (a : Readings) → LongestOf ts p rest d run (paths rest a) a.longest
      → LongestOf ts p rest d run (paths rest (follow (period ts p) p rest a (start j u))) (follow (period ts p) p rest a (start j u)).longest
  unfolding follow
  longest_start j u a b = b

  -- After all records: what is known of the readings, the longest, and which finishes are logged.
  record Followed (s : State) (es : List Event) (a : Readings) : Type 0 where
    to : State
    tracks : Tracks to a
    longest_is : LongestOf ts p rest d run (paths rest a) a.longest
    logged : (i k : ℕ) → k < to.ended i → (k < s.ended i) ⊎ ((f : ℕ) × Finishes d run i k f × Logged (finish i f) es)
    passed : (i f : ℕ) → Logged (finish i f) es → (k : ℕ) × (k < to.ended i) × Finishes d run i k f
    grown : (i : ℕ) → s.ended i ≤ to.ended i

  logged_start : (s s' : State) (j u : ℕ) (es : List Event) (a : Readings) → Starting s s' j → Followed s' es a → Followed s (start j u ∷ es) a
  logged_start s s' j u es a g r = record {
    to = r.to;
    tracks = r.tracks;
    longest_is = r.longest_is;
    logged = λ i k h. go i k (r.logged i k h);
    passed = λ i f h. back i f h;
    grown = λ i. omega (arith, r.grown i, g.ended_same i);
  }
    where
      go : (i k : ℕ) → (k < s'.ended i) ⊎ ((f : ℕ) × Finishes d run i k f × Logged (finish i f) es) → (k < s.ended i) ⊎ ((f : ℕ) × Finishes d run i k f × Logged (finish i f) (start j u ∷ es))
      go i k (inl h) = inl (omega (arith, g.ended_same i))
      go i k (inr (f, x, m)) = inr (f, x, inr m)

      back : (i f : ℕ) → Logged (finish i f) (start j u ∷ es) → (k : ℕ) × (k < r.to.ended i) × Finishes d run i k f
      back i f (inl e) = absurd (finish_start e)
      back i f (inr m) = r.passed i f m

  logged_finish : (s s' : State) (j u : ℕ) (es : List Event) (a : Readings) → Finishing s s' j → Finishes d run j (s.ended j) u → Followed s' es a → Followed s (finish j u ∷ es) a
  logged_finish s s' j u es a g x r = record {
    to = r.to;
    tracks = r.tracks;
    longest_is = r.longest_is;
    logged = λ i k h. go i k (ℕ_discrete i j) (r.logged i k h);
    passed = λ i f h. back i f h;
    grown = λ i. grown i (ℕ_discrete i j);
  }
    where
      grown : (i : ℕ) → Dec (i ≡ j) → s.ended i ≤ r.to.ended i
      grown i (yes e) = omega (arith, r.grown i, ap s'.ended e, g.ended_more, ap s.ended e)
      grown i (no e) = omega (arith, r.grown i, g.ended_same i e)

      go : (i k : ℕ) → Dec (i ≡ j) → (k < s'.ended i) ⊎ ((f : ℕ) × Finishes d run i k f × Logged (finish i f) es) → (k < s.ended i) ⊎ ((f : ℕ) × Finishes d run i k f × Logged (finish i f) (finish j u ∷ es))
      go i k q (inr (f, y, m)) = inr (f, y, inr m)
      go i k (no e) (inl h) = inl (omega (arith, g.ended_same i e))
      go i k (yes e) (inl h) = at_k (ℕ_discrete k (s.ended i))
        where
          at_k : Dec (k ≡ s.ended i) → (k < s.ended i) ⊎ ((f : ℕ) × Finishes d run i k f × Logged (finish i f) (finish j u ∷ es))
          at_k (yes z) = inr (u, subst (λ k. Finishes d run i k u) (sym z) (subst (λ i. Finishes d run i (s.ended i) u) (sym e) x), inl (ap (λ i. finish i u) e))
          at_k (no z) = inl (omega (arith, ap s'.ended e, g.ended_more, ap s.ended e))

      back : (i f : ℕ) → Logged (finish i f) (finish j u ∷ es) → (k : ℕ) × (k < r.to.ended i) × Finishes d run i k f
      back i f (inl e) = let z = finish_same e in (
        s.ended j,
        subst (λ i. s.ended j < r.to.ended i) (sym z.0) (omega (arith, r.grown j, g.ended_more)),
        subst (Finishes d run i (s.ended j)) (sym z.1) (subst (λ i. Finishes d run i (s.ended j) u) (sym z.0) x),
      )
      back i f (inr m) = r.passed i f m

  followed_is : (es : List Event) (s : State) (a : Readings) → Fits ts d run s → Begins d run (from s) es → Tracks s a
      → LongestOf ts p rest d run (paths rest a) a.longest → Followed s es (followed (period ts p) p rest es a)
  unfolding followed
  followed_is [] s a f b t l = record { to = s; tracks = t; longest_is = l; logged = λ i k h. inl h; passed = λ i f h. absurd h; grown = λ i. le_refl _ }
  followed_is (start j u ∷ es) s a f b t l =
      let y = next_taken ok.proper c w s f (start j u) b.0 in
      let g = step_starting ts s y.0 j u y.1 in
      let x = next_turn ts c s y.0 (start j u) y.2 b.0.happens y.1 in
      let soon : s.tick ≤ u = omega (arith, b.0.from_on, opening_least s.tick s.last) in
      let later : u ≤ y.0.tick = omega (arith, y.3, opening_most y.0.tick y.0.last) in
      logged_start s y.0 j u es (followed (period ts p) p rest es (follow (period ts p) p rest a (start j u))) g
      (followed_is es y.0 (follow (period ts p) p rest a (start j u)) y.2 (subst (λ v. Begins d run v es) (sym y.3) b.1)
      (tracks_start s y.0 f y.2 u soon later j a g x t) (longest_start j u a l))
  followed_is (finish j u ∷ es) s a f b t l =
      let y = next_taken ok.proper c w s f (finish j u) b.0 in
      let g = step_finishing ts d s y.0 j u f.room y.1 in
      let x = next_turn ts c s y.0 (finish j u) y.2 b.0.happens y.1 in
      logged_finish s y.0 j u es (followed (period ts p) p rest es (follow (period ts p) p rest a (finish j u))) g x
      (followed_is es y.0 (follow (period ts p) p rest a (finish j u)) y.2 (subst (λ v. Begins d run v es) (sym y.3) b.1)
      (tracks_finish s y.0 j u a g t) (longest_kept s y.0 j u a g x t l))

  -- From the origin on.
  all_followed : (es : List Event) → Begins d run 1 es → Followed fresh es (followed (period ts p) p rest es unread)
  all_followed es b = followed_is es fresh unread (fits_fresh w) b
      (record { read_is = λ q k l. (λ z. absurd (omega arith), λ z. absurd (omega arith)); written_is = λ q k l. (λ z. absurd (omega arith), λ z. absurd (omega arith)) }) refl

  -- A path is counted exactly if its end is logged,
  pub paths_logged : (es : List Event) → Begins d run 1 es → (k : ℕ)
      → (k < paths rest (followed (period ts p) p rest es unread)) ↔ ((f : ℕ) × PathEnds d run p rest k f × Logged (finish (place p rest (length rest)) f) es)
  paths_logged es b k = (
    λ h. ends (r.logged (at end) (job end k) ((r.tracks.written_is end k (le_refl _)).0 h)),
    λ (f, x, m). let y = r.passed (at end) f m in (r.tracks.written_is end k (le_refl _)).1 (subst (λ j. j < r.to.ended (at end)) (same_job (path_ends k f x) y.2) y.1),
  )
    where
      r : Followed fresh es (followed (period ts p) p rest es unread)
      r = all_followed es b

      ends : (job end k < 0) ⊎ ((f : ℕ) × Finishes d run (at end) (job end k) f × Logged (finish (at end) f) es) → (f : ℕ) × PathEnds d run p rest k f × Logged (finish (at end) f) es
      ends (inl h) = absurd (omega arith)
      ends (inr (f, x, m)) = (f, path_of k f x, m)

      -- At one time one job of a task finishes.
      same_job : {f m n : ℕ} → Finishes d run (at end) m f → Finishes d run (at end) n f → n ≡ m
      same_job {f} {m} {n} x y = let no : ¬ (m < n) = λ l. less m n l x y in let on : ¬ (n < m) = λ l. less n m l y x in omega arith
        where
          less : (m n : ℕ) → m < n → Finishes d run (at end) m f → Finishes d run (at end) n f → ⊥
          less m n l x y = omega (arith, x.done_by, y.done_by, need_grows d (at end) (suc m) n l, need_step d (at end) n, w.least_one (at end) n (place_known ts p rest chain end (le_refl _)))

  -- and the longest is that of those counted.
  pub longest_logged : (es : List Event) → Begins d run 1 es → LongestOf ts p rest d run (paths rest (followed (period ts p) p rest es unread)) (followed (period ts p) p rest es unread).longest
  longest_logged es b = (all_followed es b).longest_is
