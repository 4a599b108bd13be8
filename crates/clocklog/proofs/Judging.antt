-- The judgement of a log field by field, and the loop over its records.
use Rattle.std.proofs.Common.{◌≡◌, ℕ, zero, suc, ◌+◌, ◌-◌, ◌*◌, ◌%◌, ◌<◌, ◌≤◌, cond, eqb, List, length, get_or, set, replicate, sym, refl, ap, ◌∙◌, subst, ap₂, arith, length-set, get_or-set_other, get_or-set_same, eq-eqb, ne_eqb}
use native.Mathlib.Decide.{ℕ_discrete}
use lib.ListN.{length-replicate, get_or-replicate}
use Rattle.arith.specs.Ranges.{sum}
use Rattle.answers.specs.declared.Refusal.{Refusal}
use Rattle.answers.specs.Answers.{Judgement, fine, refusal, also}
use Rattle.bits.specs.Bits.{unpack}
use Rattle.bits.specs.Laws.{number_lt}
use Rattle.sheet.specs.Calls.{tail_of}
use Rattle.clocklog.specs.declared.answer.Entry.{Entry}
use Rattle.clocklog.specs.declared.answer.Kind.{Kind}
use Rattle.clocklog.specs.declared.answer.Kind.TheVariants.{Start}
use Rattle.clocklog.specs.Promises.{EntryPromise}
use Rattle.clocklog.specs.Format.{most_time, turn, across, begin, count, counter, before, entry_judged, head_judged, log_judged, task, kind, kind_in, gap, time_before, expected, record_judged, records_judged}
use Rattle.clocklog.specs.FormatLaws.{record_fine}

-- ---- the counters

before_lt : (bytes : List ℕ) (r : ℕ) → before bytes r < turn
before_lt bytes zero = omega (arith, number_lt (unpack bytes) 0 32)
before_lt bytes (suc r) = omega (arith, number_lt (unpack bytes) (begin r + 4 + 1) 32)

carried : (from to : ℕ) → from < turn → to < turn → (from + across from to) % turn ≡ to
carried from to l m = omega arith

-- A counter and the difference to the next give the next.
pub counter_next : (bytes : List ℕ) (r from d : ℕ) → from ≡ before bytes r → d ≡ gap bytes r → (from + d) % turn ≡ before bytes (r + 1)
counter_next bytes r from d e f =
    ap₂ (λ from d. (from + d) % turn) e f ∙ carried (before bytes r) (counter bytes r) (before_lt bytes r) (before_lt bytes (suc r)) ∙ ap (before bytes) {x = suc r} {y = r + 1} (omega arith)

-- ---- the loop

-- Before record r: of each task the kind that is expected.
pub record Expects (bytes : List ℕ) (r : ℕ) (kinds : List Kind) : Type 0 where
  pub sixteen : length kinds ≡ 16
  pub each : (i : ℕ) → i < 16 → kind_in (get_or kinds i Start) ≡ expected bytes r i

expects_none : (bytes : List ℕ) → Expects bytes 0 (replicate 16 Start)
unfolding expected
expects_none bytes = record { sixteen = length-replicate 16 Start; each = λ i l. ap kind_in (get_or-replicate 16 i Start Start l) }

expects_next : (bytes : List ℕ) (r t : ℕ) (k next : Kind) (kinds : List Kind) → t ≡ task bytes r → kind_in k ≡ kind bytes r → kind_in next ≡ 1 - kind_in k → t < 16
    → Expects bytes r kinds → Expects bytes (suc r) (set kinds t next)
unfolding expected
expects_next bytes r t k next kinds te ke ne l x = record { sixteen = length-set kinds t next ∙ x.sixteen; each = λ i m. go i m (ℕ_discrete i t) }
  where
    go : (i : ℕ) → i < 16 → Dec (i ≡ t) → kind_in (get_or (set kinds t next) i Start) ≡ cond (eqb (task bytes r) i) (1 - kind bytes r) (expected bytes r i)
    go i m (yes e) =
        rw (eq-eqb (task bytes r) i (sym te ∙ sym e))
        (ap (λ j. kind_in (get_or (set kinds t next) j Start)) e ∙ ap kind_in (get_or-set_same kinds t next Start (omega (arith, x.sixteen))) ∙ ne ∙ ap (λ k. 1 - k) ke)
    go i m (no e) = rw (ne_eqb (task bytes r) i (λ z. e (sym (te ∙ z)))) (ap kind_in (get_or-set_other kinds t i next Start e) ∙ x.each i m)

-- After r records that are fine.
pub record Judged (bytes : List ℕ) (tasks n : ℕ) (kinds : List Kind) (time r : ℕ) : Type 0 where
  pub so_far : r ≤ n
  pub time_is : time ≡ time_before bytes r
  pub in_time : time < most_time
  pub expects : Expects bytes r kinds
  pub left : records_judged bytes tasks 0 n ≡ records_judged bytes tasks r (n - r)

module _ (bytes : List ℕ) (tasks n : ℕ) where
  pub judged_none : Judged bytes tasks n (replicate 16 Start) 0 0
  unfolding time_before sum
  judged_none = record { so_far = omega arith; time_is = refl; in_time = omega arith; expects = expects_none bytes; left = ap (records_judged bytes tasks 0) (omega arith) }

  module _ {kinds : List Kind} {time r : ℕ} (x : Judged bytes tasks n kinds time r) where
    abbrev rest : Judgement
    rest = records_judged bytes tasks (suc r) (n - suc r)

    one_more : r < n → records_judged bytes tasks 0 n ≡ also (record_judged bytes tasks r) rest
    unfolding records_judged
    one_more l = x.left ∙ ap (records_judged bytes tasks r) {x = n - r} {y = suc (n - suc r)} (omega arith)

    task_known : {t : ℕ} → t ≡ task bytes r → t < 16
    task_known e = omega (arith, number_lt (unpack bytes) (begin r) 4)

    -- What is judged of a record's numbers is judged of the record.
    pub entry_judged_lem : (e : Entry) {j : Judgement} → EntryPromise bytes r e
        → j ≡ entry_judged (length bytes * 8) (begin r) tasks e.task (kind_in e.kind) e.gap (kind_in (get_or kinds e.task Start)) time → j ≡ record_judged bytes tasks r
    entry_judged_lem e p h =
        h ∙ ap (λ t. entry_judged (length bytes * 8) (begin r) tasks t (kind_in e.kind) e.gap (kind_in (get_or kinds t Start)) time) p.0
        ∙ ap₂ (λ k g. entry_judged (length bytes * 8) (begin r) tasks (task bytes r) k g (kind_in (get_or kinds (task bytes r) Start)) time) p.1 p.2
        ∙ ap₂ (entry_judged (length bytes * 8) (begin r) tasks (task bytes r) (kind bytes r) (gap bytes r)) (x.expects.each (task bytes r) (task_known refl)) x.time_is

    pub judged_no : r < n → (q : Refusal) → refusal q ≡ record_judged bytes tasks r → refusal q ≡ records_judged bytes tasks 0 n
    judged_no l q e = ap (λ j. also j rest) e ∙ sym (one_more l)

    pub judged_time : (e : Entry) → EntryPromise bytes r e → fine ≡ record_judged bytes tasks r → time + e.gap < most_time
    unfolding time_before sum
    judged_time e p h = omega (arith, x.time_is, p.2, (record_fine bytes tasks r (sym h)).in_time)

    pub judged_next : r < n → (e : Entry) (next : Kind) → EntryPromise bytes r e → kind_in next ≡ 1 - kind_in e.kind → fine ≡ record_judged bytes tasks r
        → Judged bytes tasks n (set kinds e.task next) (time + e.gap) (r + 1)
    unfolding time_before sum
    judged_next l e next p k h = record {
      so_far = omega arith;
      time_is = ap₂ ◌+◌ x.time_is p.2 ∙ ap (time_before bytes) one;
      in_time = judged_time e p h;
      expects = subst (λ r. Expects bytes r (set kinds e.task next)) one (expects_next bytes r e.task e.kind next kinds p.0 p.1 k (task_known p.0) x.expects);
      left = one_more l ∙ ap (λ j. also j rest) (sym h) ∙ ap₂ (records_judged bytes tasks) one (omega arith);
    }
      where
        one : suc r ≡ r + 1
        one = omega arith

    pub judged_all : n ≤ r → fine ≡ records_judged bytes tasks 0 n
    unfolding records_judged
    judged_all l = sym (x.left ∙ ap (records_judged bytes tasks r) {x = n - r} {y = 0} (omega arith))

-- ---- the whole

module _ (bytes : List ℕ) (tasks : ℕ) {n : ℕ} (e : n ≡ count bytes) where
  pub log_parts : also (head_judged (length bytes * 8)) (also (records_judged bytes tasks 0 n) (tail_of bytes (begin n))) ≡ log_judged bytes tasks
  unfolding log_judged
  log_parts = ap (λ n. also (head_judged (length bytes * 8)) (also (records_judged bytes tasks 0 n) (tail_of bytes (begin n)))) e
