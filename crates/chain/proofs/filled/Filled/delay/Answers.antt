-- The rows that are copied along the chain are its path, and the path has the chain's own delay.
use Rattle.std.proofs.Common.{◌≡◌, ◌<◌, ℕ, List, sym, ◌∙◌, subst, arith, length, take}
use Rattle.theory.specs.declared.Task.{Task}
use Rattle.sheet.specs.declared.sound.Judged.{Judged}
use Rattle.sheet.specs.Tasks.{tasks_of, chain_of}
use Rattle.schedule.specs.Taken.{Taken}
use Rattle.chain.specs.declared.row.Row.{Row}
use Rattle.chain.specs.Paths.{RowsOf, PathOf}
use Rattle.chain.specs.Conditions.{TakenChain}
use Rattle.chain.specs.CallLaws.{sheet_chain}
use Rattle.chain.specs.FigureLaws.{path_early, path_delays}
use Rattle.chain.proofs.Lent.{lent_path, lent_some}
use Rattle.chain.proofs.filled.Filled.delay.Goals.{After-path-path}
use Rattle.chain.proofs.filled.Filled.delay.Goals as goal

module _ (c : After-path-path) where
  abbrev ts : List Task
  ts = tasks_of c.args.chain.judged.sheet

  abbrev chain : List ℕ
  chain = chain_of c.args.chain.judged.sheet c.args.chain.number

  abbrev path : List Row
  path = take (length c.tasks-tasks.result.now) c.path-path.result

  -- The chain is one of the sheet whose table is filled.
  same_taken : Taken ts
  same_taken = subst (λ (s : Judged). Taken (tasks_of s.sheet)) (sym c.requires.sheet_value) c.args.self.now.taken

  same_noted : RowsOf ts (length ts) c.args.self.now.rows
  same_noted = subst (λ (s : Judged). RowsOf (tasks_of s.sheet) (length (tasks_of s.sheet)) c.args.self.now.rows) (sym c.requires.sheet_value) c.args.self.now.noted

  taken : TakenChain ts chain
  taken = sheet_chain c.args.chain.judged.sheet c.args.chain.judged.sound same_taken c.args.chain.number c.args.chain.known

  some : 0 < length chain
  some = lent_some c.args.chain.judged.sheet c.args.chain.judged.sound c.args.chain.number c.args.chain.known c.chain-c.result c.chain-c.ensures (omega arith)

  is : (length path ≡ length chain) × PathOf ts chain (length chain) path
  is = lent_path c.args.chain.judged.sheet c.args.chain.judged.sound c.args.chain.number c.args.chain.known c.chain-c.result c.chain-c.ensures (omega arith)
      c.tasks-tasks.ensures c.args.self.now.rows c.path-path.result same_noted (omega arith) c.path-path.ensures

pub walk-requires : goal.walk-requires
walk-requires c =
    let at = (goal.at.walk-requires c).After-path-path in
    omega (arith, path_early (taken at) (some at) (path at) (is at).0 (is at).1 c.args.k c.requires.k_bound, (is at).0, (taken at).few)

pub returns : goal.returns
returns c =
    let at = (goal.at.returns c).After-path-path in
    c.walk.ensures ∙ path_delays (taken at) (some at) (path at) (is at).0 (is at).1 c.args.k
