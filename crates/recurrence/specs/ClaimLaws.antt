-- The tasks that outrank one, and what is claimed by these.
use Rattle.std.specs.Prelude.{◌≡◌, Bool, true, false, cond, List, [], ◌∷◌, ℕ, zero, suc, ◌+◌, ◌*◌, ◌/◌, ◌≤◌, ◌<◌, ltb, All, filter, length, get_or, sum_by, take}
use Rattle.std.proofs.Common.{refl, sym, ap, ap₂, ◌∙◌, subst, mul_comm, div-mul-le_self, length-take, get_or-take, arith}
use Rattle.std.proofs.Math.Nat.{mul-le-mul_right}
use Rattle.std.proofs.lemmas.List.{take_all}
use Rattle.std.proofs.lemmas.List.Elements.{filter_more, All-filter, All-from_get_or}
use Rattle.std.proofs.lemmas.List.Sums.{count_by-le-length, length-filter, sum_by-append, sum_by-le, sum_by-take-le, sum_by_more}
use Rattle.arith.specs.Ranges.{sum}
use Rattle.theory.specs.declared.Task.{Task}
use Rattle.theory.specs.Model.Schedule.{none, budget, rank}
use Rattle.theory.specs.Model.Recurrence.{quotient, claim}
use Rattle.theory.proofs.Analysis.RecurrenceLaws.{share_most}
use Rattle.sheet.specs.declared.Sheet.{Sheet}
use Rattle.sheet.specs.Sound.{Sound}
use Rattle.sheet.specs.Tasks.{tasks_of}
use Rattle.sheet.specs.TaskLaws.{Allowed, budget_at, rank_at_lem, task_allowed, tasks_length}
use Rattle.recurrence.specs.Conditions.{most_period, most_share, most_claim, higher, Placed, claim_in}

-- ---- the tasks that outrank one

-- They are at most sixteen, each as the sheet's tasks are allowed to be.
pub higher_allowed : (s : Sheet) → Sound s → (own : ℕ) {outranking : List Task} → outranking ≡ higher (tasks_of s) own
    → (length outranking ≤ 16) × All Allowed outranking
higher_allowed s ok own e = subst (λ ts. (length ts ≤ 16) × All Allowed ts) (sym e) (
  omega (arith, length-filter test (tasks_of s), count_by-le-length test (tasks_of s), tasks_length s ok, ok.count_most),
  All-filter test Allowed (tasks_of s) (All-from_get_or Allowed (tasks_of s) none (task_allowed s ok)),
)
  where
    test : Task → Bool
    test t = ltb own t.rank

-- They are found once all tasks are looked at.
pub higher_is : (s : Sheet) (own : ℕ) {ts : List Task} → ts ≡ tasks_of s → (n : ℕ) → length ts ≤ n → filter (λ t. ltb own t.rank) (take n ts) ≡ higher (tasks_of s) own
higher_is s own {ts} e n m = ap (filter (λ t. ltb own t.rank)) (take_all n ts m ∙ e)

-- ---- the claim

-- A budget that is at most its period, times a quotient by it, is at most what was divided.
pub product_most : (b T y : ℕ) → b ≤ T → b * (y / T) ≤ y
product_most b T y l = omega (arith, mul-le-mul_right {m = b} {n = T} (y / T) l, mul_comm T (y / T), div-mul-le_self y T)

pub added_most : (t b T y : ℕ) → b ≤ T → t + b * (y / T) ≤ t + y
added_most t b T y l = omega (arith, product_most b T y l)

-- A sum over those of the first n that pass is one over all of these, with nothing for the others.
filter_sum : (f : Task → ℕ) (test : Task → Bool) (ts : List Task) (n : ℕ) → n ≤ length ts
    → sum_by f (filter test (take n ts)) ≡ sum n (λ j. cond (test (get_or ts j none)) (f (get_or ts j none)) 0)
unfolding sum
filter_sum f test ts zero l = refl
filter_sum f test ts (suc n) l =
    ap (λ m. sum_by f (filter test (take m ts))) {x = suc n} {y = n + 1} (omega arith)
    ∙ ap (sum_by f) (filter_more test ts n none l)
    ∙ sum_by-append f (filter test (take n ts)) (cond (test (get_or ts n none)) (get_or ts n none ∷ []) [])
    ∙ ap₂ ◌+◌ (filter_sum f test ts n (omega arith)) (last (test (get_or ts n none)))
  where
    last : (b : Bool) → sum_by f (cond b (get_or ts n none ∷ []) []) ≡ cond b (f (get_or ts n none)) 0
    last true = omega arith
    last false = refl

-- One place more adds what its task claims,
pub claim_more : (ts : List Task) (own x p : ℕ) {ticks : ℕ} → p < length ts → ticks ≡ claim_in (take p ts) own x
    → ticks + (get_or ts p none).budget * quotient x (get_or ts p none).period ≡ claim_in (take (p + 1) ts) own x
unfolding claim_in
claim_more ts own x p l e = omega (arith, sum_by_more (λ t. t.budget * quotient x t.period) ts p none l)

-- and no task claims more than the candidate and its period.
pub claim_most : (ts : List Task) (own x n : ℕ) → All Placed ts → x ≤ most_period → claim_in (take n ts) own x ≤ own + n * most_share
unfolding claim_in
claim_most ts own x n each m = omega (arith, sum_by-le (λ t. t.budget * quotient x t.period) most_share (take n ts) (λ p d k. share p d k), length-take n ts)
  where
    share : (p : ℕ) (d : Task) → p < length (take n ts) → (get_or (take n ts) p d).budget * quotient x (get_or (take n ts) p d).period ≤ most_share
    share p d k =
        let t = each p d (omega (arith, length-take n ts)) in
        rw (get_or-take n ts p d (omega (arith, length-take n ts)))
        (omega (arith, share_most (get_or ts p d).period t.period_positive (get_or ts p d).budget x t.budget_most, t.period_most))

-- A task that is allowed on a sheet is one in a place.
allowed_placed : (t : Task) → Allowed t → Placed t
allowed_placed t a = record { period_positive = a.period_positive; period_most = a.period_most; budget_most = a.budget_most }

-- Sixteen tasks of a sheet, with a budget.
pub claim_small : (ts : List Task) (own x n : ℕ) → length ts ≤ 16 → All Allowed ts → own ≤ most_period → x ≤ most_period → claim_in (take n ts) own x ≤ most_claim
unfolding claim_in
claim_small ts own x n few each l m = omega (
  arith,
  claim_most ts own x (length ts) (λ p d k. allowed_placed (get_or ts p d) (each p d k)) m,
  sum_by-take-le (λ t. t.budget * quotient x t.period) ts n,
  ap (λ xs. sum_by (λ t. t.budget * quotient x t.period) xs) (take_all (length ts) ts (omega arith)),
  mul-le-mul_right {m = length ts} {n = 16} most_share few,
)

-- By those that outrank a task it is the task's own.
pub claim_is : (ts : List Task) (i x : ℕ) → claim_in (higher ts (rank ts i)) (budget ts i) x ≡ claim ts (budget ts) i x
unfolding claim_in claim
claim_is ts i x =
    ap (λ n. budget ts i + n)
    (ap (λ xs. sum_by (λ t. t.budget * quotient x t.period) (filter (λ t. ltb (rank ts i) t.rank) xs)) (sym (take_all (length ts) ts (omega arith)))
    ∙ filter_sum (λ t. t.budget * quotient x t.period) (λ t. ltb (rank ts i) t.rank) ts (length ts) (omega arith))

pub claim_at : (s : Sheet) → Sound s → (i : ℕ) → i < s.count → (x : ℕ) {outranking : List Task} → outranking ≡ higher (tasks_of s) (rank s.tasks i)
    → claim_in outranking (get_or s.tasks i none).budget x ≡ claim (tasks_of s) (budget (tasks_of s)) i x
claim_at s ok i l x e =
    ap₂ (λ ts C. claim_in ts C x) (e ∙ ap (higher (tasks_of s)) (sym (rank_at_lem s ok i l))) (sym (budget_at s ok i l)) ∙ claim_is (tasks_of s) i x
