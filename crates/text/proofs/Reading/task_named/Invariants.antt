use Rattle.std.proofs.Common.{◌≡◌, map, min}
use Rattle.text.specs.Words.{index}
use Rattle.text.proofs.Reading.task_named.Given as goal

-- None that was passed has the name.
abbrev pub invariant-loop-i : goal.invariant-loop-i
invariant-loop-i l = index (map (λ n. n.now) l.self.names) (min l.self.draft.count 16) l.word ≡ index (map (λ n. n.now) l.self.names) l.i l.word
