use Rattle.std.proofs.Common.{◌≡◌, drop}
use Rattle.text.specs.Words.{number}
use Rattle.text.proofs.number_of.Given as goal

abbrev pub invariant-loop-b : goal.invariant-loop-b
invariant-loop-b l = number 0 l.word ≡ number l.n (drop l.b-index l.word)
