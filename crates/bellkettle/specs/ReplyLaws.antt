-- The laws of replies: what is handed over is the answer's, and lent memory is left as the answer says.
use Rattle.std.specs.Prelude.{◌≡◌, refl, List, [], ◌∷◌, ℕ, zero, suc, ◌+◌, ◌<◌, ℤ, length, get_or, set, take, Result, Ok, Err}
use Rattle.std.proofs.Common.{sym, ap, ◌∙◌, subst, arith}
use Rattle.std.proofs.lemmas.List.Edits.{sets}
use Rattle.answers.specs.declared.Refusal.{Refusal}
use Rattle.answers.specs.Answers.{Answer, given, refused, refusal, told}
use Rattle.sheet.specs.declared.Sheet.{Sheet}
use Rattle.sheet.specs.Calls.{read_of}
use Rattle.theory.specs.declared.Task.{Task}
use Rattle.sheet.specs.Tasks.{tasks_of}
use Rattle.schedule.specs.Calls.{table_after}
use Rattle.bellkettle.specs.Numbers.{in_numbers}
use Rattle.bellkettle.specs.Promises.{Returned}

-- An answer in numbers leaves what it left.
leaves_told : {A : Type 0} (a : Answer A) (numbers : A → List ℤ) (ts : List Task) (old : List ℕ) → table_after a ts old ≡ table_after (in_numbers numbers a) ts old
leaves_told (given x) numbers ts old = refl
leaves_told (refused number values) numbers ts old = refl

-- What a call below told and left, in numbers.
pub told_left : {A : Type 0} {told answer : Answer A} (numbers : A → List ℤ) (s : Sheet) (old : List ℕ) (before : List ℤ) {table : List ℕ} {returned : ℕ} {values : List ℤ}
    → Returned (in_numbers numbers told) returned before values → told ≡ answer → table ≡ table_after answer (tasks_of s) old
    → Returned (in_numbers numbers answer) returned before values × (table ≡ table_after (in_numbers numbers answer) (tasks_of s) old)
told_left {answer = answer} numbers s old before {returned = returned} {values = values} t e l =
    (subst (λ a. Returned (in_numbers numbers a) returned before values) e t, l ∙ leaves_told answer numbers (tasks_of s) old)

-- ---- bytes that were read

module _ (bytes : List ℕ) (reading : Result Sheet Refusal) (read : told reading ≡ read_of bytes) where
  pub read_fine : {s : Sheet} → reading ≡ Ok s → read_of bytes ≡ given s
  read_fine e = sym read ∙ ap told e

  pub read_no : {r : Refusal} → reading ≡ Err r → read_of bytes ≡ refusal r
  read_no e = sym read ∙ ap told e

-- ---- values put one after the other

sets_from : {A : Type 0} (d : A) (at i : ℕ) (l old : List A) → i < length l → set (sets old at (take i l)) (at + i) (get_or l i d) ≡ sets old at (take (suc i) l)
sets_from d at i [] old h = absurd (omega arith)
sets_from d at zero (x ∷ l) old h = ap (λ k. set old k x) (omega arith)
sets_from d at (suc i) (x ∷ l) old h =
    ap (λ k. set (sets (set old at x) (suc at) (take i l)) k (get_or l i d)) (omega arith) ∙ sets_from d (suc at) i l (set old at x) (omega arith)

pub sets_take : {A : Type 0} (d : A) (i : ℕ) (l old : List A) → i < length l → set (sets old 0 (take i l)) i (get_or l i d) ≡ sets old 0 (take (i + 1) l)
sets_take d i l old h = ap (λ k. set (sets old 0 (take i l)) k (get_or l i d)) (omega arith) ∙ sets_from d 0 i l old h ∙ ap (λ k. sets old 0 (take k l)) {x = suc i} {y = i + 1} (omega arith)
