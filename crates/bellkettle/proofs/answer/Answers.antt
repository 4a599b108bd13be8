-- The figures of a chain are told as the summary in them, and leave the table as that does.
use Rattle.std.proofs.Common.{rules}
use Rattle.chain.specs.Calls.{task_figures_of}
use Rattle.bellkettle.proofs.answer.Goals as goal

pub returns-in-Figures-clause-returned : goal.returns-in-Figures-clause-returned
unfolding task_figures_of
returns-in-Figures-clause-returned c = search rules

pub returns-in-Figures-clause-table_after : goal.returns-in-Figures-clause-table_after
unfolding task_figures_of
returns-in-Figures-clause-table_after c = search rules
