use Rattle.std.proofs.Common.{◌≡◌, ◌≤◌, drop, length, map}
use Rattle.text.specs.declared.Place.TheVariants.{Between}
use Rattle.text.specs.Grammar.{fresh}
use Rattle.text.specs.Run.{run, nameless}
use Rattle.text.proofs.scan.Given as goal

-- Reading what is left gives what reading all gives.
abbrev pub invariant-loop-at : goal.invariant-loop-at
invariant-loop-at l =
    (length l.text ≤ 16384)
    × (run nameless Between fresh l.text ≡ run (map (λ n. n.now) l.reading.names) l.reading.place l.reading.draft (drop l.at l.text))
