-- What the judgement finds of the fields is what is known of them.
use mathlib.Core.Path.{sym, ap, ◌∙◌}
use Rattle.answers.specs.Answers.{told}
use Rattle.sheet.specs.SoundLaws.{judged_sound}
use Rattle.sheet.proofs.judged.Goals as goal

pub invariant_of-result : goal.invariant_of-result
invariant_of-result c = record { sound = judged_sound c.args.s (sym c.judge.ensures ∙ ap told c.in_ok-judge.was) }
