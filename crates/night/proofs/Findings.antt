-- From what the pass finds to what is answered.
use Rattle.std.proofs.Common.{◌≡◌, refl, sym, ap, ◌∙◌, subst, arith, List, ◌∷◌, Option, Some, None, ℕ, zero, suc, ◌≤◌, ◌<◌, Bool, true, false, cond, ltb, length, take, ltb-true, ltb-false, le-ltb}
use Rattle.theory.specs.declared.Task.{Task}
use Rattle.theory.specs.Model.Schedule.{period}
use Rattle.theory.specs.Model.Responses.{Accepted}
use Rattle.theory.specs.Model.Chain.{Chain}
use Rattle.theory.proofs.Analysis.ChainLaws.{chain_head}
use Rattle.bits.specs.Bits.{unpack}
use Rattle.bits.specs.Laws.{number_lt}
use Rattle.answers.specs.Answers.{fine}
use Rattle.sheet.specs.declared.Sheet.{Sheet}
use Rattle.sheet.specs.Sound.{Sound}
use Rattle.sheet.specs.Tasks.{tasks_of, chain_count, lacks, chain_of, first_of, rest_of}
use Rattle.sheet.specs.TaskLaws.{tasks_length, chain_count_lem, chain_known}
use Rattle.clocklog.specs.Events.{Event}
use Rattle.clocklog.specs.Format.{count, record_at, records_from, records, log_judged}
use Rattle.clocklog.specs.FormatLaws.{judged_recorded}
use Rattle.night.specs.declared.state.Found.{Found}
use Rattle.night.specs.Agreement.{before_break, Breaks, Replays}
use Rattle.night.specs.Calls.{chain_one}
use Rattle.night.specs.Pass.{fresh}
use Rattle.night.specs.Exact.{taken_most}
use Rattle.night.specs.Follow.{unread, followed, paths}
use Rattle.night.specs.Results.{nowhere_breaks, record_breaks, pass_replays}
use Rattle.night.specs.Conditions.{Sane, FoundIn}

records_length : (bytes : List ℕ) (r n : ℕ) → length (records_from bytes r n) ≡ n
unfolding records_from
records_length bytes r zero = refl
records_length bytes r (suc n) = ap suc (records_length bytes (suc r) n)

records_take : (bytes : List ℕ) (r k n : ℕ) → k ≤ n → records_from bytes r k ≡ take k (records_from bytes r n)
unfolding records_from
records_take bytes r zero n l = refl
records_take bytes r (suc k) zero l = absurd (omega arith)
records_take bytes r (suc k) (suc n) l = ap (λ es. record_at bytes r ∷ es) (records_take bytes (suc r) k n (omega arith))

module _ {ts : List Task} (accepted : Accepted ts) (p : ℕ) (rest : List ℕ) (chain : Chain ts p rest) (bytes : List ℕ) (n : ℕ) (x : Found) (f : FoundIn ts p rest bytes n x) where
  abbrev es : List Event
  es = records_from bytes 0 n

  upto : (b : Option ℕ) → Breaks ts es b → records_from bytes 0 f.agreeing ≡ before_break es b → Replays ts p rest es x.paths x.longest b
  upto b breaks e =
      pass_replays accepted p rest chain es x.paths x.longest b breaks
      (f.paths_are ∙ ap (λ es. paths rest (followed (period ts p) p rest es unread)) e)
      (f.longest_is ∙ ap (λ es. (followed (period ts p) p rest es unread).longest) e)

  most : f.agreeing ≤ n
  most = omega (arith, f.agreeing_is, taken_most ts es fresh, records_length bytes 0 n)

  pub found_replays : Replays ts p rest es x.paths x.longest x.breaking
  found_replays = subst (Replays ts p rest es x.paths x.longest) (sym f.breaking_is) (go (ltb f.agreeing n) refl)
    where
      go : (b : Bool) → ltb f.agreeing n ≡ b → Replays ts p rest es x.paths x.longest (cond b (Some f.agreeing) None)
      go true e =
          upto (Some f.agreeing) (record_breaks accepted.proper es f.agreeing f.agreeing_is (omega (arith, ltb-true f.agreeing n e, records_length bytes 0 n)))
          (records_take bytes 0 f.agreeing n most)
      go false e = upto None (nowhere_breaks accepted.proper es (sym f.agreeing_is ∙ all ∙ sym (records_length bytes 0 n))) (ap (records_from bytes 0) all)
        where
          all : f.agreeing ≡ n
          all = omega (arith, most, ltb-false f.agreeing n e)

-- ---- chain one of a sheet

module _ (s : Sheet) (sound : Sound s) where
  abbrev one : List ℕ
  one = chain_of s chain_one

  pub has_one : lacks s chain_one ≡ fine
  has_one = rw (le-ltb (chain_count s) 1 (omega (arith, chain_count_lem _ sound, sound.chains_least))) refl

  pub first_known : first_of one < s.count
  first_known = omega (arith, chain_head (tasks_of s) (first_of one) (rest_of one) (chain_known _ sound chain_one has_one), tasks_length _ sound)

  -- What is found is what is answered.
  pub sheet_replays : Accepted (tasks_of s) → (bytes : List ℕ) (n : ℕ) (x : Found) → n ≡ count bytes
      → FoundIn (tasks_of s) (first_of one) (rest_of one) bytes n x → Replays (tasks_of s) (first_of one) (rest_of one) (records bytes) x.paths x.longest x.breaking
  sheet_replays accepted bytes n x ne f =
      found_replays accepted (first_of one) (rest_of one) (chain_known _ sound chain_one has_one) bytes (count bytes) x
      (subst (λ n. FoundIn (tasks_of s) (first_of one) (rest_of one) bytes n x) ne f)

  -- The same of tasks and entries that are lent.
  module _ (ts : List Task) (chain : List ℕ) (te : ts ≡ tasks_of s) (ce : chain ≡ one) where
    pub lent_few : length ts ≤ 16
    lent_few = omega (arith, ap (length {A = Task}) te, tasks_length _ sound, sound.count_most)

    pub lent_first : first_of chain < length ts
    lent_first = omega (arith, ap first_of ce, ap (length {A = Task}) te, tasks_length _ sound, first_known)

    pub lent_replays : Accepted (tasks_of s) → (bytes : List ℕ) (n : ℕ) (x : Found) → n ≡ count bytes
        → FoundIn ts (first_of chain) (rest_of chain) bytes n x → Replays (tasks_of s) (first_of one) (rest_of one) (records bytes) x.paths x.longest x.breaking
    lent_replays accepted bytes n x ne f =
        sheet_replays accepted bytes n x ne
        (subst (λ ts. FoundIn ts (first_of one) (rest_of one) bytes n x) te (subst (λ c. FoundIn ts (first_of c) (rest_of c) bytes n x) ce f))

-- A log that is judged fine names tasks of the sheet, and keeps to the limit of time.
pub log_sane : (bytes : List ℕ) (tasks n : ℕ) → log_judged bytes tasks ≡ fine → n ≡ count bytes → Sane bytes tasks n
log_sane bytes tasks n h e = record {
  few = omega (arith, number_lt (unpack bytes) 32 12);
  named = λ r l. (judged_recorded bytes tasks h r (omega arith)).named;
  timed = λ r l. (judged_recorded bytes tasks h r (omega arith)).in_time;
}
