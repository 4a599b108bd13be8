use Rattle.std.proofs.Common.{◌≡◌, ◌+◌, ◌≤◌, drop}
use Rattle.text.specs.Run.{line_after, column_after}
use Rattle.text.proofs.Fault.after.Given as goal

-- The line and the column after the bytes that are left are those after all.
abbrev pub invariant-loop-b : goal.invariant-loop-b
invariant-loop-b l =
    (l.line ≤ l.b-index + 1) × (l.column ≤ l.b-index + 1) × (line_after 1 l.front ≡ line_after l.line (drop l.b-index l.front)) × (column_after 1 l.front ≡ column_after l.column (drop l.b-index l.front))
