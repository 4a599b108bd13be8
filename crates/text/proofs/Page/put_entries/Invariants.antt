use Rattle.text.specs.Shown.{entry_words}
use Rattle.text.specs.Conditions.{Puts}
use Rattle.text.proofs.Page.put_entries.Given as goal

-- The entries so far stand on the page.
abbrev pub invariant-loop-entry : goal.invariant-loop-entry
invariant-loop-entry l = Puts l.initial.self (entry_words l.fn.chain.entries l.entry-index) l.self
