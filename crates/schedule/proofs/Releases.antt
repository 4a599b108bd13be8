-- Releases of a level: when the next ones come, and the work they bring.
use mathlib.Core.Path.{◌≡◌, refl, sym, ap, ap₂, ◌∙◌, subst}
use mathlib.Core.Logic.{◌≢◌}
use mathlib.Core.List.{List, [], ◌∷◌}
use Prim.Native.Nat.{ℕ, suc, ◌+◌, ◌*◌, ◌%◌, ◌≤◌, ◌<◌, ◌∣◌}
use native.Mathlib.Nat.{le_refl, dvd-add, dvd_refl, dvd-mul_left, mod-eq-zero_of_dvd, dvd_of_mod-eq-zero}
use native.Mathlib.Omega.{arith}
use lib.ListN.{length, set, take, length-set}
use lib.Seq.{get_or-set_same, get_or-set_other}
use borrow.Author.Count.{below_more}
use borrow.Author.Tests.{eq-eqb, ne_eqb}
use Rattle.std.proofs.Math.Seq.{take-length}
use Rattle.std.proofs.lemmas.List.Sums.{sum_by-cons, sum_by-set, sum_by_more, sum_by_more_le}
use Rattle.arith.specs.WholeLaws.{up_divides, up_above, up_near, up_least, up_is, up_fixed}
use Rattle.theory.specs.Model.Schedule.{none}
use Rattle.theory.specs.Analysis.Backlog.{drain}
use Rattle.schedule.specs.declared.level.Place.{Place}
use Rattle.schedule.specs.declared.walk.Next.{Next}
use Rattle.schedule.specs.Conditions.{brings, place_of, place_at, placed, coming, DueAt, AllDueAt, Starts, Turned}
use Rattle.schedule.proofs.Draining.{Gap}

-- One place

-- From work that is done by `before`: after the releases of tick t it is `more`, and the work with what it brings is done by `clear`.
pub record Moved (t : ℕ) (place : Place) (before : ℕ) (more : Place) (clear : ℕ) : Type 0 where
  pub after : DueAt (suc t) more
  pub same_period : more.period ≡ place.period
  pub same_budget : more.budget ≡ place.budget
  pub brought : clear ≡ before + brings t place.period place.budget

module _ {t : ℕ} {place : Place} (due : DueAt t place) where
  -- Its release is now: it brings the budget, and the next one comes a period later.
  pub moved_now : {before clear : ℕ} {more : Place} → place.next ≡ t → more ≡ record place { next = place.next + place.period } → clear ≡ before + place.budget → Moved t place before more clear
  moved_now {before} {clear} {more} now e c = subst (λ x. Moved t place before x clear) (sym e) (record {
    after = record {
      period_positive = due.period_positive;
      period_most = due.period_most;
      next_is = ap (λ n. n + place.period) now ∙ sym (up_is place.period (dvd-add place.period here (dvd_refl place.period)) (omega (arith, due.period_positive)) (omega arith));
    };
    same_period = refl;
    same_budget = refl;
    brought = rw (eq-eqb (t % place.period) 0 (mod-eq-zero_of_dvd place.period here)) c;
  })
    where
      here : place.period ∣ t
      here = subst (λ z. place.period ∣ z) (sym due.next_is ∙ now) (up_divides place.period t)

  -- It is not: nothing comes, and it is still the next one.
  pub moved_later : {before clear : ℕ} {more : Place} → place.next ≢ t → more ≡ place → clear ≡ before → Moved t place before more clear
  moved_later {before} {clear} {more} later e c = subst (λ x. Moved t place before x clear) (sym e) (record {
    after = record {
      period_positive = due.period_positive;
      period_most = due.period_most;
      next_is = due.next_is ∙ sym (up_is place.period (up_divides place.period t) (omega (arith, due.next_is, later, up_above place.period t due.period_positive)) (omega (arith, up_near place.period t due.period_positive)));
    };
    same_period = refl;
    same_budget = refl;
    brought = rw (ne_eqb (t % place.period) 0 (λ z. later (due.next_is ∙ up_fixed place.period (dvd_of_mod-eq-zero place.period z)))) (omega (arith, c));
  })

  -- Before its next release nothing comes,
  pub before_brings : (u : ℕ) → t ≤ u → u < place.next → brings u place.period place.budget ≡ 0
  before_brings u l m = rw (ne_eqb (u % place.period) 0 (λ e. omega (arith, due.next_is, up_least place.period {x = t} (dvd_of_mod-eq-zero place.period e) l)))

  -- and it stays the next one.
  pub due_still : {e : ℕ} → t ≤ e → e ≤ place.next → DueAt e place
  due_still {e} l m = record {
    period_positive = due.period_positive;
    period_most = due.period_most;
    next_is = due.next_is ∙ sym (up_is place.period (up_divides place.period t) (omega (arith, due.next_is)) (omega (arith, up_near place.period t due.period_positive)));
  }

-- Places

-- Where none brings anything, they bring nothing.
placed_none : (places : List Place) (u : ℕ) → ((p : ℕ) → p < length places → brings u (place_at places p).period (place_at places p).budget ≡ 0) → placed places u ≡ 0
unfolding placed
placed_none [] u f = refl
placed_none (x ∷ xs) u f = omega (arith, sum_by-cons (λ (y : Place). brings u y.period y.budget) x xs, f 0 (omega arith), placed_none xs u (λ p l. f (suc p) (omega arith)))

-- A place that brings the same as before.
placed_set : (places : List Place) (p : ℕ) (more : Place) (u : ℕ) → p < length places → more.period ≡ (place_at places p).period → more.budget ≡ (place_at places p).budget
    → placed (set places p more) u ≡ placed places u
unfolding placed
placed_set places p more u l e f = omega (arith, sum_by-set (λ (y : Place). brings u y.period y.budget) places p more (place_of none) l, ap₂ (brings u) e f)

-- The whole level

module _ {own : Place} {others : List Place} {t clear : ℕ} {own' : Place} {others' : List Place} {next : Next} (x : Turned own others t clear own' others' next) where
  -- After the releases of tick t nothing comes until the next ones,
  pub turned_gap : {a : ℕ → ℕ} {h : ℕ} (n : ℕ) → ((u : ℕ) → coming own others u ≡ a u) → t < h → n * own.period ≡ h → clear ≡ t + drain a t → Gap a t next.soon h next.clear
  unfolding coming
  turned_gap {a} {h} n same l ends e = record {
    later = x.later;
    within = omega (arith, x.before_own, x.own_after.next_is, x.same_period, up_least own'.period {x = suc t} (subst (λ y. own'.period ∣ y) (ap (λ y. n * y) x.same_period ∙ ends) (dvd-mul_left own'.period n)) l);
    quiet = λ u k m. sym (same u) ∙ sym (x.same u) ∙ ap₂ ◌+◌ (before_brings x.own_after u k (omega (arith, x.before_own)))
        (placed_none others' u (λ p q. before_brings (x.others_after p q) u k (omega (arith, x.before_others p q))));
    clears = x.clear_is ∙ ap₂ ◌+◌ e (same t);
  }

  -- and there these are still the next ones.
  pub own_next : DueAt next.soon own'
  own_next = due_still x.own_after x.later x.before_own

  pub others_next : AllDueAt next.soon others'
  others_next p q = due_still (x.others_after p q) x.later (x.before_others p q)

-- The releases of tick t, place by place

-- After the first p places, from work that was done by `before` and a next release at `due`.
pub record TurnedTo (others now : List Place) (t due before clear soon p : ℕ) : Type 0 where
  pub few : p ≤ length others
  pub whole : length now ≡ length others
  pub after : (q : ℕ) → q < p → DueAt (suc t) (place_at now q)
  pub rest : (q : ℕ) → p ≤ q → place_at now q ≡ place_at others q
  pub same : (u : ℕ) → placed now u ≡ placed others u
  pub clear_is : clear ≡ before + placed (take p others) t
  pub later : t < soon
  pub before_due : soon ≤ due
  pub before_places : (q : ℕ) → q < p → soon ≤ (place_at now q).next

pub turn_start : {others : List Place} {t due clear : ℕ} → t < due → TurnedTo others others t due clear clear due 0
unfolding placed
turn_start l = record {
  few = omega arith;
  whole = refl;
  after = λ q l. absurd (omega arith);
  rest = λ q l. refl;
  same = λ u. refl;
  clear_is = omega arith;
  later = l;
  before_due = le_refl _;
  before_places = λ q l. absurd (omega arith);
}

module _ {others now : List Place} {t due before clear soon p : ℕ} (all : AllDueAt t others) (s : TurnedTo others now t due before clear soon p) (known : p < length others) where
  pub place_now : place_at now p ≡ place_at others p
  place_now = s.rest p (le_refl p)

  pub due_now : DueAt t (place_at now p)
  due_now = subst (DueAt t) (sym place_now) (all p known)

  placed_more : {more : Place} {clear' : ℕ} → Moved t (place_at now p) clear more clear' → clear' ≡ before + placed (take (p + 1) others) t
  unfolding placed
  placed_more m = omega (arith, s.clear_is, m.brought, ap (λ (y : Place). brings t y.period y.budget) place_now, sum_by_more (λ (y : Place). brings t y.period y.budget) others p (place_of none) known)

  pub placed_fits : (place_at now p).next ≡ t → clear + (place_at now p).budget ≤ before + placed others t
  unfolding placed
  placed_fits e = omega (
    arith,
    s.clear_is,
    (moved_now due_now {before = 0} {clear = (place_at now p).budget} e refl (omega arith)).brought,
    ap (λ (y : Place). brings t y.period y.budget) place_now,
    sum_by_more_le (λ (y : Place). brings t y.period y.budget) others p (place_of none) known,
  )

  -- One place more: `more` is the place after the tick, and y the earliest release so far.
  module _ {now' : List Place} {more : Place} {clear' y : ℕ} (m : Moved t (place_at now p) clear more clear') (less : y ≤ soon) (least : y ≤ more.next) (either : t < more.next → t < y) where
    pub turned_now : now' ≡ set now p more → TurnedTo others now' t due before clear' y (p + 1)
    turned_now n = record {
      few = omega arith;
      whole = ap length n ∙ length-set now p more ∙ s.whole;
      after = below_more (λ q. DueAt (suc t) (place_at now' q)) p (λ q l. subst (DueAt (suc t)) (sym (elsewhere q (λ z. omega arith))) (s.after q l)) (subst (DueAt (suc t)) (sym here) m.after);
      rest = λ q l. elsewhere q (λ z. omega arith) ∙ s.rest q (omega arith);
      same = λ u. ap (λ xs. placed xs u) n ∙ placed_set now p more u l m.same_period m.same_budget ∙ s.same u;
      clear_is = placed_more m;
      later = either (omega (arith, m.after.next_is, up_above more.period (suc t) m.after.period_positive));
      before_due = omega (arith, s.before_due);
      before_places = below_more (λ q. y ≤ (place_at now' q).next) p
          (λ q l. omega (arith, ap (λ (z : Place). z.next) (elsewhere q (λ z. omega arith)), s.before_places q l)) (omega (arith, ap (λ (z : Place). z.next) here));
    }
      where
        l : p < length now
        l = omega (arith, s.whole)

        here : place_at now' p ≡ more
        here = ap (λ xs. place_at xs p) n ∙ get_or-set_same now p more (place_of none) l

        elsewhere : (q : ℕ) → q ≢ p → place_at now' q ≡ place_at now q
        elsewhere q z = ap (λ xs. place_at xs q) n ∙ get_or-set_other now p q more (place_of none) z

-- After all of them, and the own place that has moved.
pub turned : {own : Place} {others : List Place} {t clear moved : ℕ} {own' : Place} {others' : List Place} {next : Next} → Moved t own clear own' moved
    → TurnedTo others others' t own'.next moved next.clear next.soon (length others) → Turned own others t clear own' others' next
unfolding coming
turned {own} {others} {t} {next = next} m s = record {
  own_after = m.after;
  others_after = λ p l. s.after p (omega (arith, s.whole));
  same_period = m.same_period;
  same = λ u. ap₂ ◌+◌ (ap₂ (brings u) m.same_period m.same_budget) (s.same u);
  clear_is = omega (arith, s.clear_is, m.brought, ap (λ xs. placed xs t) (take-length others));
  later = s.later;
  before_own = s.before_due;
  before_others = λ p l. s.before_places p (omega (arith, s.whole));
}

-- The level at tick t of a walk that started at `first`: the next releases, and the work that comes in as from the start.
pub record Walking (first : Place) (places : List Place) (t : ℕ) (own : Place) (others : List Place) : Type 0 where
  pub own_due : DueAt t own
  pub others_due : AllDueAt t others
  pub same_period : own.period ≡ first.period
  pub same : (u : ℕ) → coming own others u ≡ coming first places u

pub walk_start : {own : Place} {others : List Place} → Starts own others → Walking own others 0 own others
walk_start s = record { own_due = s.own_due; others_due = s.others_due; same_period = refl; same = λ u. refl }

pub walk_on : {first : Place} {places : List Place} {t clear : ℕ} {own : Place} {others : List Place} {own' : Place} {others' : List Place} {next : Next}
    → Walking first places t own others → Turned own others t clear own' others' next → Walking first places next.soon own' others'
walk_on w x = record { own_due = own_next x; others_due = others_next x; same_period = x.same_period ∙ w.same_period; same = λ u. x.same u ∙ w.same u }
