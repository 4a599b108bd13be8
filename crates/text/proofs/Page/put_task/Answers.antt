-- Each part stands where the one before it ends.
use Rattle.std.proofs.Common.{ap, ◌∷◌, ◌++◌}
use Rattle.text.specs.Shown.{numeral, task_word, rank_word, spaced, task_line}
use Rattle.text.specs.ShownLaws.{puts_is, puts_more}
use Rattle.text.proofs.Page.put_task.Goals as goal

pub returns : goal.returns
unfolding task_line
returns c =
    puts_more (puts_is (ap (λ k. (task_word ++ (32 ∷ task_word)) ++ numeral k) c.from.ensures) c.put_number.ensures)
    (puts_more c.put_number-2.ensures
    (puts_more c.put_number-3.ensures
    (puts_more (puts_is (ap (λ k. spaced rank_word ++ numeral k) c.from-2.ensures) c.put_number-4.ensures) c.put.ensures)))
