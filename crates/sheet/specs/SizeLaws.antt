-- How long a sheet is: 7 to 94 bytes, and 12 to 178 of the second edition.
use Rattle.std.specs.Prelude.{◌∷◌, ℕ, zero, suc, ◌+◌, ◌*◌, ◌≤◌, ◌<◌, min}
use Rattle.std.proofs.Common.{arith}
use Rattle.bits.specs.Bits.{bytes_for}
use Rattle.sheet.specs.declared.Field.TheVariants.{Chains}
use Rattle.sheet.specs.Fields.{Values, Kind, old, new, kind_of, fields, tasks, entries, task_fields, entry_fields, chain_fields, ordered, widths}
use Rattle.sheet.specs.Calls.{extra}
use Rattle.sheet.specs.FormatLaws.{widths_append, widths_entries, widths_tasks}
use Rattle.sheet.specs.Sound.{Within}

abbrev pub least : Kind → ℕ
least new = 12
least old = 7

abbrev pub most : Kind → ℕ
most new = 178
most old = 94

-- each chain of at least so many entries
chains_range : (kind : Kind) (v : Values) (m c k : ℕ) → ((j : ℕ) → j < c + k → m ≤ entries v j)
    → ((extra kind 22 + 5 + 4 * m) * k ≤ widths (chain_fields kind v c k)) × (widths (chain_fields kind v c k) ≤ (extra kind 22 + 69) * k)
unfolding chain_fields widths
chains_range kind v m c zero h = (omega arith, omega arith)
chains_range new v m c (suc k) h =
    let n = entries v c in
    let both = widths_append (entry_fields c 0 n) (chain_fields new v (suc c) k) in
    let later = chains_range new v m (suc c) k (λ j l. h j (omega arith)) in
    (omega (arith, both, later, widths_entries c 0 n, h c (omega arith)), omega (arith, both, later, widths_entries c 0 n))
chains_range old v m c (suc k) h =
    let n = entries v c in
    let both = widths_append (entry_fields c 0 n) (chain_fields old v (suc c) k) in
    let later = chains_range old v m (suc c) k (λ j l. h j (omega arith)) in
    (omega (arith, both, later, widths_entries c 0 n, h c (omega arith)), omega (arith, both, later, widths_entries c 0 n))

-- no sheet takes more, whatever stands in it
pub size_most : (kind : Kind) (v : Values) → widths (ordered kind v) ≤ most kind * 8
unfolding widths
size_most new v =
    let chain = chains_range new v 0 0 (min (v Chains) 8) (λ c l. omega arith) in
    omega (arith, chain, widths_append (task_fields 0 (tasks v)) (Chains ∷ chain_fields new v 0 (min (v Chains) 8)), widths_tasks 0 (tasks v))
size_most old v =
    let chain = chains_range old v 0 0 1 (λ c l. omega arith) in
    omega (arith, chain, widths_append (task_fields 0 (tasks v)) (chain_fields old v 0 1), widths_tasks 0 (tasks v))

pub size_least : (kind : Kind) (v : Values) → Within kind v → least kind ≤ bytes_for (widths (ordered kind v))
unfolding widths
size_least new v s =
    let chain = chains_range new v 1 0 (min (v Chains) 8) (λ c l. omega (arith, s.length_least c (omega arith))) in
    omega (arith, s, chain, widths_append (task_fields 0 (tasks v)) (Chains ∷ chain_fields new v 0 (min (v Chains) 8)), widths_tasks 0 (tasks v))
size_least old v s =
    let chain = chains_range old v 1 0 1 (λ c l. omega (arith, s.length_least c (omega arith))) in
    omega (arith, s, chain, widths_append (task_fields 0 (tasks v)) (chain_fields old v 0 1), widths_tasks 0 (tasks v))

-- every field ends by the 178th byte
pub ends_by : (v : Values) → widths (fields v) ≤ 1424
ends_by v = omega (arith, size_most (kind_of v) v, go (kind_of v))
  where
    go : (kind : Kind) → most kind ≤ 178
    go new = omega arith
    go old = omega arith
