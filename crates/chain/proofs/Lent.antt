-- The chain of a number, which lends its tasks: the first `length` of its sixteen entries.
use Rattle.std.proofs.Common.{◌≡◌, ℕ, ◌-◌, ◌<◌, List, length, get_or, take, sym, ap, ◌∙◌, arith, get_or-take}
use Rattle.answers.specs.Answers.{fine}
use Rattle.sheet.specs.declared.Chain.{Chain}
use Rattle.sheet.specs.declared.Sheet.{Sheet}
use Rattle.sheet.specs.Sound.{Sound}
use Rattle.sheet.specs.Tasks.{tasks_of, lacks, chain_at, chain_of, first_of}
use Rattle.sheet.specs.TaskLaws.{chain_place, chain_length, chain_most, entry_listed}
use Rattle.chain.specs.declared.row.Row.{Row}
use Rattle.chain.specs.Paths.{RowsOf, PathOf, Copied}
use Rattle.chain.specs.RowLaws.{front_path}

module _ (s : Sheet) (sound : Sound s) (number : ℕ) (known : lacks s number ≡ fine) (c : Chain) (is : c ≡ chain_at s number) (whole : length c.entries ≡ 16) where
  abbrev entries : List ℕ
  entries = take c.length c.entries

  pub lent : entries ≡ chain_of s number
  lent = ap (λ (x : Chain). take x.length x.entries) is

  same : c.length ≡ (chain_at s number).length
  same = ap (λ (x : Chain). x.length) is

  long : length (chain_of s number) ≡ (chain_at s number).length
  long = chain_length _ sound number known (ap (λ (x : Chain). length x.entries) (sym is) ∙ whole)

  pub lent_some : 0 < length (chain_of s number)
  lent_some = omega (arith, long, sound.length_least (number - 1) (chain_place _ sound number known))

  pub lent_first : get_or c.entries 0 0 ≡ first_of (chain_of s number)
  lent_first = sym (get_or-take c.length c.entries 0 0 (omega (arith, same, long, lent_some))) ∙ ap (λ xs. get_or xs 0 0) lent

  -- The rows of its tasks are its path.
  pub lent_path : {tasks : List ℕ} → tasks ≡ entries → (rows path : List Row) → RowsOf (tasks_of s) (length (tasks_of s)) rows → length path ≡ 16 → Copied tasks rows (length tasks) path
      → (length (take (length tasks) path) ≡ length (chain_of s number)) × PathOf (tasks_of s) (chain_of s number) (length (chain_of s number)) (take (length tasks) path)
  lent_path {tasks} same rows path all room copied =
      front_path (tasks_of s) (chain_of s number) tasks rows path (same ∙ lent) (omega (arith, chain_most _ sound number known)) all (λ j l. entry_listed _ sound number known j l) copied
