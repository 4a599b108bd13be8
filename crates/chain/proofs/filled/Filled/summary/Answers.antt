-- The figure and the bound of the chain's path, and with the flag's wait; none of them is too large.
use Rattle.std.proofs.Common.{◌≡◌, ◌+◌, ◌-◌, ◌<◌, ◌≤◌, ℕ, List, ℤ, refl, sym, ap, ◌∙◌, subst, arith, length, take}
use mir.Syntax.{w32}
use mir.ValLaws.{to_z-of_z}
use Rattle.theory.specs.Model.Flag.{from_flag}
use Rattle.theory.specs.declared.Task.{Task}
use Rattle.theory.specs.Model.Schedule.{period}
use Rattle.sheet.specs.Tasks.{tasks_of, chain_of, first_of, rest_of}
use Rattle.theory.proofs.Analysis.ChainLaws.{chain_head}
use Rattle.schedule.specs.declared.answer.Totals.{Totals}
use Rattle.chain.specs.declared.answer.Figure.{Figure}
use Rattle.chain.specs.declared.row.Row.{Row}
use Rattle.chain.specs.Calls.{figure_of, quick_bound, less, report_limit, summary_of}
use Rattle.chain.specs.Conditions.{TakenChain}
use Rattle.sheet.specs.declared.sound.Judged.{Judged}
use Rattle.schedule.specs.Taken.{Taken}
use Rattle.chain.specs.Paths.{RowsOf, PathOf}
use Rattle.chain.specs.CallLaws.{sheet_chain}
use Rattle.chain.specs.Largest.{sampling_most, quick_most, worst_most}
use Rattle.chain.specs.FigureLaws.{path_sampling, path_quick}
use Rattle.chain.proofs.Lent.{lent_path, lent_some}
use Rattle.chain.proofs.filled.Filled.summary.Goals.{After-first_period-wait}
use Rattle.chain.proofs.filled.Filled.summary.Goals as goal

-- The summary is made of its parts.
summary_is : (ts : List Task) (chain : List ℕ) (totals : Totals) (limit : ℕ) {figure : Figure} {quick w b : ℕ} {z : ℤ}
    → figure ≡ figure_of ts chain → quick ≡ quick_bound ts chain → w ≡ from_flag ts (first_of chain) figure.ticks → b ≡ from_flag ts (first_of chain) quick → z ≡ less limit w
    → summary_of ts chain limit totals ≡ record { totals = totals; sampling = figure; sampling_bound = quick; worst = w; bound = b; margin = z }
summary_is ts chain totals limit f q w b z = rw (z, b, w, q, f) refl

module _ (c : After-first_period-wait) where
  abbrev ts : List Task
  ts = tasks_of c.args.chain.judged.sheet

  abbrev chain : List ℕ
  chain = chain_of c.args.chain.judged.sheet c.args.chain.number

  abbrev path : List Row
  path = take (length c.tasks-tasks.result.now) c.path-path.result

  -- The chain is one of the sheet whose table is filled.
  same_taken : Taken ts
  same_taken = subst (λ (s : Judged). Taken (tasks_of s.sheet)) (sym c.requires) c.args.self.now.taken

  same_noted : RowsOf ts (length ts) c.args.self.now.rows
  same_noted = subst (λ (s : Judged). RowsOf (tasks_of s.sheet) (length (tasks_of s.sheet)) c.args.self.now.rows) (sym c.requires) c.args.self.now.noted

  taken : TakenChain ts chain
  taken = sheet_chain c.args.chain.judged.sheet c.args.chain.judged.sound same_taken c.args.chain.number c.args.chain.known

  some : 0 < length chain
  some = lent_some c.args.chain.judged.sheet c.args.chain.judged.sound c.args.chain.number c.args.chain.known c.chain-c.result c.chain-c.ensures (omega arith)

  is : (length path ≡ length chain) × PathOf ts chain (length chain) path
  is = lent_path c.args.chain.judged.sheet c.args.chain.judged.sound c.args.chain.number c.args.chain.known c.chain-c.result c.chain-c.ensures (omega arith)
      c.tasks-tasks.ensures c.args.self.now.rows c.path-path.result same_noted (omega arith) c.path-path.ensures

  sampling_is : c.sampling-sampling.result ≡ figure_of ts chain
  sampling_is = path_sampling taken some path is.0 is.1 c.sampling-sampling.result c.sampling-sampling.ensures

  quick_is : c.bound-sampling_bound.result ≡ quick_bound ts chain
  quick_is = c.bound-sampling_bound.ensures ∙ path_quick taken some path is.0 is.1

  period_is : c.first_period-wait.result ≡ period ts (first_of chain)
  period_is = c.first_period-wait.ensures.0

  period_most : period ts (first_of chain) ≤ 100000
  period_most = taken.tasks.period_most (first_of chain) (chain_head ts (first_of chain) (rest_of chain) taken.known)

pub overflow_add-worst : goal.overflow_add-worst
overflow_add-worst c =
    let at = (goal.at.overflow_add-worst c).After-first_period-wait in
    omega (arith, ap (λ (f : Figure). f.ticks) (sampling_is at), sampling_most (taken at), period_is at, period_most at)

pub overflow_add-bound : goal.overflow_add-bound
overflow_add-bound c =
    let at = (goal.at.overflow_add-bound c).After-first_period-wait in omega (arith, quick_is at, quick_most (taken at), period_is at, period_most at)

pub less_of-margin-requires : goal.less_of-margin-requires
less_of-margin-requires c =
    let at = (goal.at.less_of-margin-requires c).After-first_period-wait in
    (c.report_limit.ensures.1, omega (arith, ap (λ (f : Figure). f.ticks) (sampling_is at), worst_most (taken at), period_is at))

pub returns : goal.returns
returns c =
    let at = (goal.at.returns c).After-first_period-wait in
    let s = c.args.chain.judged.sheet in
    let number = c.args.chain.number in
    let ticks = c.sampling-sampling.result.ticks in
    let wait = ap (λ t. t - 1) (period_is at) in
    let worst_is = ap (λ w. ticks + w) wait in
    let margin_is = c.less_of-margin.ensures ∙ ap (λ x. less x (ticks + (c.first_period-wait.result - 1))) c.report_limit.ensures.0 in
    let read = to_z-of_z w32 c.less_of-margin.result (record { sfits = c.less_of-margin.type_inv }) in
    rw read (sym (summary_is (tasks_of s) (chain_of s number) c.args.totals (report_limit s number) (sampling_is at) (quick_is at) worst_is
    (ap (λ w. c.bound-sampling_bound.result + w) wait) margin_is))
