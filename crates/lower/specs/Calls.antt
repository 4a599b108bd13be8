-- What `compare` answers: the condition of `Below` as a test, with the first that stands in its way. Quotations are from document 02, P10.
use Rattle.std.specs.Prelude.{Bool, true, false, not, cond, List, ℕ, zero, suc, ◌++◌, ltb, eqb, length, get_or, codes, decimal, Option, Some, None, is_some, Result, Ok, Err}
use Rattle.arith.specs.Ranges.{least}
use Rattle.theory.specs.declared.Task.{Task}
use Rattle.theory.specs.Model.Schedule.{period, budget, rank}
use Rattle.answers.specs.Answers.{given, refused, Judgement, fine, after, number_in, values_in, refusal_text}
use Rattle.sheet.specs.declared.Sheet.{Sheet}
use Rattle.sheet.specs.Tasks.{tasks_of, chain_of, rest_of}
use Rattle.schedule.specs.Calls.{most_jobs, responses_of}
use Rattle.lower.specs.declared.answer.Which.{Which}
use Rattle.lower.specs.declared.answer.Which.TheVariants.{Old, New}
use Rattle.lower.specs.declared.answer.Difference.{Difference}
use Rattle.lower.specs.declared.answer.Difference.TheVariants.{OldOnly, NewOnly, Period, Budget, Rank}
use Rattle.lower.specs.declared.answer.Obstacle.{Obstacle}
use Rattle.lower.specs.declared.answer.Obstacle.TheVariants.{Refused, Edition, Chain as OtherChain, Task as OtherTask}

-- "accepted": what the full calculation refuses where its table is never too small, so for a field, with 10, 11 or 15.
abbrev pub acceptance : Sheet → Judgement
acceptance s = after (responses_of s most_jobs) (λ totals. fine)

-- Each of 0 .. n - 1 passes the test.
unfoldable pub every : ℕ → (ℕ → Bool) → Bool
every zero test = true
every (suc n) test = cond (every n test) (test n) false

-- "the same chain": length and entries
abbrev pub same_entries : List ℕ → List ℕ → Bool
same_entries xs ys = cond (eqb (length xs) (length ys)) (every (length xs) (λ place. eqb (get_or xs place 0) (get_or ys place 0))) false

-- "ranked below the whole chain": its first task and those that follow
abbrev pub below : List Task → List ℕ → ℕ → Bool
below ts chain i = every (suc (length (rest_of chain))) (λ place. ltb (rank ts i) (rank ts (get_or chain place 0)))

-- An "index whose task on" this sheet "is not below" chain one.
abbrev pub counts : Sheet → ℕ → Bool
counts s i = cond (ltb i s.count) (not (below (tasks_of s) (chain_of s 1) i)) false

-- In what index i does not hold "the same period, budget and rank on both": the first of these, if there is one.
abbrev pub difference_at : Sheet → Sheet → ℕ → Option Difference
difference_at old new i =
    let ts = tasks_of old in
    let us = tasks_of new in
    cond (ltb i old.count)
    (cond (ltb i new.count)
    (cond (eqb (period ts i) (period us i))
    (cond (eqb (budget ts i) (budget us i))
    (cond (eqb (rank ts i) (rank us i)) None (Some Rank))
    (Some Budget))
    (Some Period))
    (Some OldOnly))
    (Some NewOnly)

-- Only an index that counts on "either sheet" can stand in the way.
abbrev pub way_at : Sheet → Sheet → ℕ → Option Difference
way_at old new i = cond (counts old i) (difference_at old new i) (cond (counts new i) (difference_at old new i) None)

-- What is found: nothing in the way; a sheet that is refused, or is not of edition 2; another chain one; or an index and what differs there.
pub data Finding : Type 0 where
  nothing : Finding
  refused_of : Which → (number : ℕ) (values : List ℕ) → Finding
  edition : Which → Finding
  chain : Finding
  task : (index : ℕ) → Difference → Finding

-- a judgement of one of the sheets, and then the rest
abbrev pub beside : Which → Judgement → Finding → Finding
beside which (given u) next = next
beside which (refused number values) next = refused_of which number values

abbrev pub standing : ℕ → Option Difference → Finding
standing i None = nothing
standing i (Some difference) = task i difference

-- The least index that stands in the way, of the sixteen; the one after them does not.
abbrev pub first_blocked : Sheet → Sheet → ℕ
first_blocked old new = least 16 (λ i. is_some (way_at old new i))

abbrev pub tasks_compared : Sheet → Sheet → Finding
tasks_compared old new = standing (first_blocked old new) (way_at old new (first_blocked old new))

-- "edition 2 sheets with the same chain one"
abbrev pub chains_compared : Sheet → Sheet → Finding
chains_compared old new =
    cond (eqb old.edition 2)
    (cond (eqb new.edition 2)
    (cond (same_entries (chain_of old 1) (chain_of new 1)) (tasks_compared old new) chain)
    (edition New))
    (edition Old)

unfoldable pub compare_of : Sheet → Sheet → Finding
compare_of old new = beside Old (acceptance old) (beside New (acceptance new) (chains_compared old new))

-- The finding for each case of the code's enum.
abbrev pub told_comparison : Result Unit Obstacle → Finding
told_comparison (Ok u) = nothing
told_comparison (Err (Refused which r)) = refused_of which (number_in r) (values_in r)
told_comparison (Err (Edition which)) = edition which
told_comparison (Err OtherChain) = chain
told_comparison (Err (OtherTask i difference)) = task i difference

-- ---- how what stands in the way is printed

abbrev pub which_text : Which → List ℕ
which_text Old = codes "old"
which_text New = codes "new"

abbrev pub difference_text : Difference → List ℕ
difference_text OldOnly = codes "old only"
difference_text NewOnly = codes "new only"
difference_text Period = codes "period"
difference_text Budget = codes "budget"
difference_text Rank = codes "rank"

-- The line that `compare` prints, without its end.
abbrev pub obstacle_text : Obstacle → List ℕ
obstacle_text (Refused which r) = which_text which ++ (codes " " ++ refusal_text r)
obstacle_text (Edition which) = codes "differs edition " ++ which_text which
obstacle_text OtherChain = codes "differs chain"
obstacle_text (OtherTask i difference) = codes "differs task " ++ (decimal i ++ (codes " " ++ difference_text difference))
