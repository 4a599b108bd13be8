use Rattle.std.proofs.Common.{◌≡◌}
use Rattle.std.proofs.lemmas.List.Edits.{sets}
use Rattle.bits.specs.Bits.{list_of}
use Rattle.bellkettle.specs.Fields.{entries_in}
use Rattle.bellkettle.proofs.spread_entries.Given as goal

abbrev pub invariant-loop-i : goal.invariant-loop-i
invariant-loop-i l = l.entries ≡ sets l.initial.entries 0 (list_of l.i (entries_in l.s))
