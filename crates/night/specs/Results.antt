-- P6 by the definitions: the pass names the break, its paths and its longest delay are those of every schedule that begins with the records
-- before it, and what is answered is fixed. Quotations are from document 02, P6.
use Rattle.std.specs.Prelude.{◌≡◌, refl, ◌↔◌, List, ℕ, suc, ◌+◌, ◌≤◌, ◌<◌, length, take, Option, Some, None}
use Rattle.std.proofs.Common.{sym, ap, ap₂, ◌∙◌, subst, arith}
use Rattle.theory.specs.declared.Task.{Task}
use Rattle.theory.specs.Model.Schedule.{period, release, Proper, Demands, Run}
use Rattle.theory.specs.Model.Responses.{response, Accepted}
use Rattle.theory.specs.Model.Chain.{Chain, sampling}
use Rattle.theory.proofs.Analysis.Paths.{path_unique}
use Rattle.theory.proofs.Results.Demand3.{no_schedule_exceeds}
use Rattle.clocklog.specs.Events.{Event, start, finish}
use Rattle.night.specs.declared.answer.Longest.{Longest}
use Rattle.night.specs.Agreement.{instant, Happens, Agrees, before_break, Breaks, Completed, IsLongest, Replays}
use Rattle.night.specs.Pass.{fresh, taken}
use Rattle.night.specs.PassLaws.{busy_task}
use Rattle.night.specs.Exact.{begins_one, agrees_taken, agrees_upto, taken_most}
use Rattle.night.specs.Follow.{unread, followed, paths}
use Rattle.night.specs.FollowLaws.{LongestOf, same_bound, paths_logged, longest_logged}

-- ---- the order

-- No two starts or finishes of a run have one place in the order: in a tick one task runs, and in the tick before a finish too.
pub one_event : (d : Demands) (run : Run) (x y : Event) → Happens d run x → Happens d run y → instant x ≡ instant y → x ≡ y
one_event d run (start i t) (start j u) h g e = let same : t ≡ u = omega arith in
    ap₂ start (busy_task (sym h.1.runs_first ∙ ap run same ∙ g.1.runs_first)) same
one_event d run (start i t) (finish j u) h g e = absurd (omega arith)
one_event d run (finish i t) (start j u) h g e = absurd (omega arith)
one_event d run (finish i t) (finish j u) h g e = let same : t ≡ u = omega arith in
    ap₂ finish (busy_task (sym h.1.runs_last ∙ ap run {x = h.1.last} {y = g.1.last} (omega (arith, h.1.is_next, g.1.is_next)) ∙ g.1.runs_last)) same

-- ---- the break

-- "The breaking record is the first that, with all before it, does not agree": of the records the first m agree exactly
-- up to the number that the pass takes.
pub breaking_record : (ts : List Task) → Proper ts → (es : List Event) (m : ℕ) → m ≤ length es → Agrees ts (take m es) ↔ (m ≤ taken ts es fresh)
breaking_record ts good = agrees_upto good

-- "A break is named exactly when no such schedule exists."
pub break_named : (ts : List Task) → Proper ts → (es : List Event) → (taken ts es fresh < length es) ↔ (Agrees ts es → ⊥)
break_named ts good es = (
  λ l a. omega (arith, (agrees_taken good es).0 a),
  λ no. let m = taken_most ts es fresh in let apart : taken ts es fresh ≡ length es → ⊥ = λ e. no ((agrees_taken good es).1 e) in omega arith,
)

module _ {ts : List Task} (good : Proper ts) (es : List Event) where
  pub nowhere_breaks : taken ts es fresh ≡ length es → Breaks ts es None
  nowhere_breaks e = (agrees_taken good es).1 e

  pub record_breaks : (r : ℕ) → r ≡ taken ts es fresh → r < length es → Breaks ts es (Some r)
  record_breaks r e l = (l, (agrees_upto good es r (omega arith)).1 (omega arith), λ a. omega (arith, (agrees_upto good es (suc r) l).0 a))

  -- It is where the pass stops, and nowhere else.
  at_taken : (r : ℕ) → Breaks ts es (Some r) → r ≡ taken ts es fresh
  at_taken r x =
      let l = x.0 in
      let low = (agrees_upto good es r (omega arith)).0 x.1 in
      let high : ¬ (suc r ≤ taken ts es fresh) = λ h. x.2 ((agrees_upto good es (suc r) l).1 h) in omega arith

  pub breaks_unique : (b c : Option ℕ) → Breaks ts es b → Breaks ts es c → b ≡ c
  breaks_unique None None x y = refl
  breaks_unique None (Some r) x y = absurd (omega (arith, (agrees_taken good es).0 x, at_taken r y, y.0))
  breaks_unique (Some r) None x y = absurd (omega (arith, (agrees_taken good es).0 y, at_taken r x, x.0))
  breaks_unique (Some r) (Some q) x y = ap Some (at_taken r x ∙ sym (at_taken q y))

pub before_agrees : {ts : List Task} (es : List Event) (b : Option ℕ) → Breaks ts es b → Agrees ts (before_break es b)
before_agrees es None x = x
before_agrees es (Some r) x = x.1

-- ---- the paths

module _ {ts : List Task} (accepted : Accepted ts) (p : ℕ) (rest : List ℕ) (chain : Chain ts p rest) (es : List Event) (a : Agrees ts es) where
  abbrev count : ℕ
  count = paths rest (followed (period ts p) p rest es unread)

  abbrev longest : Option Longest
  longest = (followed (period ts p) p rest es unread).longest

  -- In every schedule that begins with the records a path is counted exactly if it "is completed in the log",
  pub paths_followed : (k : ℕ) → (k < count) ↔ ((f : ℕ) × Completed ts p rest es a k f)
  paths_followed k = let logged = paths_logged accepted p rest chain a.schedule a.within es ((begins_one a.demands a.run es).0 a.begins) k in (
    λ l. let y = logged.0 l in (y.0, (y.1, y.2)),
    λ y. logged.1 (y.0, y.1.0, y.1.1),
  )

  -- and the longest is "the longest delay from release with its smallest job number, or none".
  pub longest_followed : IsLongest ts p rest es a longest
  longest_followed = go longest (longest_logged accepted p rest chain a.schedule a.within es ((begins_one a.demands a.run es).0 a.begins))
    where
      go : (x : Option Longest) → LongestOf ts p rest a.demands a.run count x → IsLongest ts p rest es a x
      go None h = λ k f y. omega (arith, h, (paths_followed k).1 (f, y))
      go (Some x) h = (
        found ((paths_followed x.job).0 h.0),
        λ k f y. h.2 k f ((paths_followed k).1 (f, y)) y.0,
      )
        where
          found : ((f : ℕ) × Completed ts p rest es a x.job f) → Completed ts p rest es a x.job (release ts p x.job + x.ticks)
          found (f, y) = subst (Completed ts p rest es a x.job) (path_unique a.demands a.run p rest x.job f (release ts p x.job + x.ticks) y.0 h.1) y

  -- "No delay followed exceeds the sampling figure."
  pub path_within_figure : (k f : ℕ) → Completed ts p rest es a k f → f ≤ release ts p k + sampling ts (response ts) p rest
  path_within_figure k f y = (no_schedule_exceeds ts accepted p rest chain a.demands a.within a.run a.schedule k).1 f y.0

-- Together: what the pass finds up to the break is what is answered.
pub pass_replays : {ts : List Task} → Accepted ts → (p : ℕ) (rest : List ℕ) → Chain ts p rest → (es : List Event) (n : ℕ) (x : Option Longest) (b : Option ℕ) → Breaks ts es b
    → n ≡ paths rest (followed (period ts p) p rest (before_break es b) unread) → x ≡ (followed (period ts p) p rest (before_break es b) unread).longest
    → Replays ts p rest es n x b
pass_replays {ts} accepted p rest chain es n x b breaks e q = record {
  breaks = breaks;
  counts = λ a k. subst (λ n. (k < n) ↔ ((f : ℕ) × Completed ts p rest (before_break es b) a k f)) (sym e) (paths_followed accepted p rest chain (before_break es b) a k);
  longest_is = λ a. subst (IsLongest ts p rest (before_break es b) a) (sym q) (longest_followed accepted p rest chain (before_break es b) a);
}

-- ---- what is answered is fixed

longest_unique : {ts : List Task} (p : ℕ) (rest : List ℕ) (es : List Event) (a : Agrees ts es) (x y : Option Longest) → IsLongest ts p rest es a x → IsLongest ts p rest es a y → x ≡ y
longest_unique p rest es a None None h g = refl
longest_unique {ts} p rest es a None (Some y) h g = absurd (h y.job (release ts p y.job + y.ticks) g.0)
longest_unique {ts} p rest es a (Some x) None h g = absurd (g x.job (release ts p x.job + x.ticks) h.0)
longest_unique {ts} p rest es a (Some x) (Some y) h g =
    ap₂ (λ (t j : ℕ). Some (record { ticks = t; job = j })) same (omega (arith, there.1 (omega (arith, same)), here.1 (omega (arith, same))))
  where
    there : (release ts p y.job + y.ticks ≤ release ts p y.job + x.ticks) × (release ts p y.job + y.ticks ≡ release ts p y.job + x.ticks → x.job ≤ y.job)
    there = h.1 y.job (release ts p y.job + y.ticks) g.0

    here : (release ts p x.job + x.ticks ≤ release ts p x.job + y.ticks) × (release ts p x.job + x.ticks ≡ release ts p x.job + y.ticks → y.job ≤ x.job)
    here = g.1 x.job (release ts p x.job + x.ticks) h.0

    same : x.ticks ≡ y.ticks
    same = omega (arith, there.0, here.0)

pub record Same (n m : ℕ) (x y : Option Longest) (b c : Option ℕ) : Type 0 where
  pub paths : n ≡ m
  pub longest : x ≡ y
  pub breaking : b ≡ c

pub replays_unique : {ts : List Task} → Proper ts → (p : ℕ) (rest : List ℕ) (es : List Event) (n m : ℕ) (x y : Option Longest) (b c : Option ℕ)
    → Replays ts p rest es n x b → Replays ts p rest es m y c → Same n m x y b c
replays_unique {ts} good p rest es n m x y b c h g = record {
  paths = same_bound n m (λ k. (λ l. (now.counts a k).1 ((h.counts a k).0 l), λ l. (h.counts a k).1 ((now.counts a k).0 l)));
  longest = longest_unique p rest (before_break es b) a x y (h.longest_is a) (now.longest_is a);
  breaking = same;
}
  where
    same : b ≡ c
    same = breaks_unique good es b c h.breaks g.breaks

    now : Replays ts p rest es m y b
    now = subst (Replays ts p rest es m y) (sym same) g

    a : Agrees ts (before_break es b)
    a = before_agrees es b h.breaks
