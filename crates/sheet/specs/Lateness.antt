-- The refusal of a sheet with a late task.
use Rattle.std.specs.Prelude.{[], ◌∷◌}
use Rattle.theory.specs.Model.Schedule.{Slot, idle, busy}
use Rattle.answers.specs.Answers.{Judgement, fine, refused}

-- "15 also returns the index of the greatest-ranked late task": busy with it, or idle where no task is late.
abbrev pub lateness : Slot → Judgement
lateness idle = fine
lateness (busy i) = refused 15 (i ∷ [])
