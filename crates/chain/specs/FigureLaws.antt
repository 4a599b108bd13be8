-- The path of a chain whose tasks are taken: what the walk reads there gives the chain's figures.
use Rattle.std.specs.Prelude.{◌≡◌, refl, List, [], ◌∷◌, cond, ltb, eqb, length, get_or}
use Rattle.std.proofs.Common.{sym, ◌∙◌, mod-lt, arith}
use Rattle.std.proofs.Math.Path.{ap, ap₂, fun_ext}
use Rattle.std.proofs.Math.Nat.{div-mul_cancel, mul-div_cancel}
use Prim.Native.Nat.{ℕ, suc, ◌+◌, ◌-◌, ◌*◌, ◌/◌, ◌%◌, ◌≤◌, ◌<◌}
use Rattle.theory.specs.declared.Task.{Task}
use Rattle.arith.specs.Whole.{gcd, up}
use Rattle.arith.specs.WholeLaws.{up_divides}
use Rattle.arith.specs.Ranges.{maximum, least}
use Rattle.arith.specs.RangeLaws.{maximum_eq}
use Rattle.theory.specs.Model.Schedule.{period, rank, release}
use Rattle.theory.specs.Model.Responses.{response, jobs, task_response}
use Rattle.theory.proofs.Analysis.Hyperperiod.{jobs_positive, jobs_released}
use Rattle.theory.proofs.Analysis.Repetition.{response_jobs}
use Rattle.theory.specs.Model.Chain.{Chain, walk_next, walk_delay, walk_bound, outranked, delay, sampling, sampling_release, bound}
use Rattle.theory.proofs.Analysis.ChainLaws.{chain_head}
use Rattle.sheet.specs.Tasks.{first_of, rest_of}
use Rattle.schedule.specs.Taken.{Taken}
use Rattle.schedule.specs.Calls.{most_ticks}
use Rattle.chain.specs.declared.answer.Figure.{Figure}
use Rattle.chain.specs.declared.row.Row.{Row}
use Rattle.chain.specs.Calls.{delay_at, figure_of, quick_bound}
use Rattle.chain.specs.Conditions.{TakenChain}
use Rattle.chain.specs.Paths.{response_in, greatest_in, waits_in, next_in, pair_in, period_in, count_in, delay_in, bound_in, IsRow, PathOf, Greatest}

module _ {ts : List Task} (taken : Taken ts) where
  -- A row: its task's period, rank and responses.
  module _ (i : ℕ) (l : i < length ts) (row : Row) (is : IsRow ts i row) where
    pub row_period : row.task.period ≡ period ts i
    row_period = ap (λ (t : Task). t.period) is.task_is

    row_rank : row.task.rank ≡ rank ts i
    row_rank = ap (λ (t : Task). t.rank) is.task_is

    row_response : (k : ℕ) → response_in row k ≡ response ts i k
    row_response k =
        ap (λ n. get_or row.responses.now (k % n) 0) is.count_is
        ∙ is.response_is (k % jobs ts i) (mod-lt k (jobs_positive taken.accepted.proper i l))
        ∙ sym (response_jobs taken.accepted i l k)

    row_greatest : greatest_in row ≡ task_response ts i
    unfolding task_response
    row_greatest = ap (λ n. maximum n (λ k. get_or row.responses.now k 0)) is.count_is ∙ maximum_eq (jobs ts i) _ (response ts i) is.response_is

  -- A pair: its hand-over, and what it adds to the quick bound.
  module _ (i j : ℕ) (li : i < length ts) (lj : j < length ts) (p c : Row) (ip : IsRow ts i p) (ic : IsRow ts j c) where
    pair_waits : waits_in p c ≡ outranked ts i j
    pair_waits = ap₂ ltb (row_rank i li p ip) (row_rank j lj c ic)

    pair_next : (k : ℕ) → next_in p c k ≡ walk_next (period ts) (outranked ts) (response ts) i j (k * period ts i)
    unfolding walk_next
    pair_next k = rw (
      row_period i li p ip,
      row_period j lj c ic,
      pair_waits,
      row_response i li p ip k,
      mul-div_cancel k (taken.accepted.proper.period_positive i li),
    ) refl

    pair_bound_is : pair_in p c ≡ (period ts j - gcd (period ts i) (period ts j)) + cond (outranked ts i j) (up (gcd (period ts i) (period ts j)) (task_response ts i)) 0
    pair_bound_is = rw (row_period i li p ip, row_period j lj c ic, pair_waits, row_greatest i li p ip) refl

  -- Along a chain: its delays, the first task's number of jobs, and its bound.
  path_delay : (p : ℕ) (rest : List ℕ) (path : List Row) → Chain ts p rest → length path ≡ suc (length rest) → PathOf ts (p ∷ rest) (suc (length rest)) path
      → (k : ℕ) → delay_in path k ≡ walk_delay (period ts) (outranked ts) (response ts) p rest (k * period ts p)
  unfolding walk_delay
  path_delay p rest [] known e is k = absurd (omega arith)
  path_delay p [] (row ∷ []) known e is k =
      row_response p known row (is 0 (omega arith) row) k ∙ ap (response ts p) (sym (mul-div_cancel k (taken.accepted.proper.period_positive p known)))
  path_delay p [] (row ∷ next ∷ more) known e is k = absurd (omega arith)
  path_delay p (c ∷ rest) (row ∷ []) known e is k = absurd (omega arith)
  path_delay p (c ∷ rest) (row ∷ next ∷ more) known e is k =
      ap₂ (λ x y. (x - k * y) + delay_in (next ∷ more) (next_in row next k / next.task.period)) first (row_period p known.0 row ip)
      ∙ ap (λ x. (walk_next (period ts) (outranked ts) (response ts) p c (k * period ts p) - k * period ts p) + x) (
      path_delay c rest (next ∷ more) known.2 (omega arith) (λ j l past. is (suc j) (omega arith) past) (next_in row next k / next.task.period)
      ∙ ap (walk_delay (period ts) (outranked ts) (response ts) c rest) (
      ap (λ T. next_in row next k / next.task.period * T) (sym (row_period c lc next ic))
      ∙ div-mul_cancel next.task.period (up_divides next.task.period _) ∙ first
      )
      )
    where
      lc : c < length ts
      lc = chain_head ts c rest known.2

      ip : IsRow ts p row
      ip = is 0 (omega arith) row

      ic : IsRow ts c next
      ic = is 1 (omega arith) next

      first : next_in row next k ≡ walk_next (period ts) (outranked ts) (response ts) p c (k * period ts p)
      first = pair_next p c known.0 lc row next ip ic k

  path_bound : (p : ℕ) (rest : List ℕ) (path : List Row) → Chain ts p rest → length path ≡ suc (length rest) → PathOf ts (p ∷ rest) (suc (length rest)) path
      → bound_in path ≡ walk_bound (period ts) (outranked ts) (task_response ts) p rest
  unfolding walk_bound
  path_bound p rest [] known e is = absurd (omega arith)
  path_bound p [] (row ∷ []) known e is = row_greatest p known row (is 0 (omega arith) row)
  path_bound p [] (row ∷ next ∷ more) known e is = absurd (omega arith)
  path_bound p (c ∷ rest) (row ∷ []) known e is = absurd (omega arith)
  path_bound p (c ∷ rest) (row ∷ next ∷ more) known e is =
      ap₂ ◌+◌ (pair_bound_is p c known.0 (chain_head ts c rest known.2) row next (is 0 (omega arith) row) (is 1 (omega arith) next))
      (path_bound c rest (next ∷ more) known.2 (omega arith) (λ j l past. is (suc j) (omega arith) past))

  -- Of any chain that is not empty
  chain_period : (chain : List ℕ) (path : List Row) → 0 < length chain → Chain ts (first_of chain) (rest_of chain) → length path ≡ length chain → PathOf ts chain (length chain) path
      → period_in path ≡ period ts (first_of chain)
  chain_period [] path some known e is = absurd (omega arith)
  chain_period (p ∷ rest) [] some known e is = absurd (omega arith)
  chain_period (p ∷ rest) (row ∷ more) some known e is = row_period p (chain_head ts p rest known) row (is 0 (omega arith) row)

  chain_jobs : (chain : List ℕ) (path : List Row) → 0 < length chain → Chain ts (first_of chain) (rest_of chain) → length path ≡ length chain → PathOf ts chain (length chain) path
      → count_in path ≡ jobs ts (first_of chain)
  chain_jobs [] path some known e is = absurd (omega arith)
  chain_jobs (p ∷ rest) [] some known e is = absurd (omega arith)
  chain_jobs (p ∷ rest) (row ∷ more) some known e is = (is 0 (omega arith) row).count_is

  chain_delay : (chain : List ℕ) (path : List Row) → 0 < length chain → Chain ts (first_of chain) (rest_of chain) → length path ≡ length chain → PathOf ts chain (length chain) path
      → (k : ℕ) → delay_in path k ≡ walk_delay (period ts) (outranked ts) (response ts) (first_of chain) (rest_of chain) (k * period ts (first_of chain))
  chain_delay [] path some known e is k = absurd (omega arith)
  chain_delay (p ∷ rest) path some known e is k = path_delay p rest path known (omega arith) is k

  chain_bound : (chain : List ℕ) (path : List Row) → 0 < length chain → Chain ts (first_of chain) (rest_of chain) → length path ≡ length chain → PathOf ts chain (length chain) path
      → bound_in path ≡ walk_bound (period ts) (outranked ts) (task_response ts) (first_of chain) (rest_of chain)
  chain_bound [] path some known e is = absurd (omega arith)
  chain_bound (p ∷ rest) path some known e is = path_bound p rest path known (omega arith) is

-- The path of a chain that is taken.
module _ {ts : List Task} {chain : List ℕ} (taken : TakenChain ts chain) (some : 0 < length chain) (path : List Row)
    (long : length path ≡ length chain) (is : PathOf ts chain (length chain) path) where
  -- Its first row is that of the chain's first task,
  pub path_period : period_in path ≡ period ts (first_of chain)
  path_period = chain_period taken.tasks chain path some taken.known long is

  pub path_count : count_in path ≡ jobs ts (first_of chain)
  path_count = chain_jobs taken.tasks chain path some taken.known long is

  -- whose releases before H are early,
  pub path_early : (k : ℕ) → k < jobs ts (first_of chain) → k * period_in path ≤ most_ticks
  path_early k l = rw path_period
      (omega (arith, jobs_released taken.tasks.accepted.proper (first_of chain) (chain_head ts (first_of chain) (rest_of chain) taken.known) k l, taken.tasks.short))

  -- and it gives the chain's delays,
  pub path_delays : (k : ℕ) → delay_in path k ≡ delay_at ts chain (release ts (first_of chain) k)
  unfolding delay
  path_delays k = chain_delay taken.tasks chain path some taken.known long is k

  -- its sampling figure,
  pub path_sampling : (figure : Figure) → Greatest (count_in path) (period_in path) (delay_in path) figure → figure ≡ figure_of ts chain
  unfolding sampling sampling_release
  path_sampling figure g = ap₂ pair (g.ticks_is ∙ ticks) (g.release_is ∙ at)
    where
      pair : ℕ → ℕ → Figure
      pair x y = record { ticks = x; release = y }

      p : ℕ
      p = first_of chain

      same : delay_in path ≡ (λ k. delay_at ts chain (release ts p k))
      same = fun_ext path_delays

      ticks : maximum (count_in path) (delay_in path) ≡ sampling ts (response ts) p (rest_of chain)
      ticks = ap₂ maximum path_count same

      at : least (count_in path) (λ k. eqb (delay_in path k) (maximum (count_in path) (delay_in path))) * period_in path
          ≡ sampling_release ts (response ts) p (rest_of chain)
      at = ap₂ ◌*◌ (ap₂ (λ m f. least m (λ k. eqb (f k) (maximum m f))) path_count same) path_period

  -- and its quick bound.
  pub path_quick : bound_in path ≡ quick_bound ts chain
  unfolding bound
  path_quick = chain_bound taken.tasks chain path some taken.known long is
