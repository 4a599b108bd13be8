-- What each call promises of its inputs and its answer.
use Rattle.std.specs.Prelude.{◌≡◌, ℕ, List, Result}
use Rattle.answers.specs.declared.Refusal.{Refusal}
use Rattle.answers.specs.Answers.{told}
use Rattle.clocklog.specs.declared.answer.Entry.{Entry}
use Rattle.clocklog.specs.Format.{count, task, kind, kind_in, gap, log_judged}

abbrev pub CountPromise : List ℕ → ℕ → Type 0
CountPromise bytes n = n ≡ count bytes

abbrev pub EntryPromise : List ℕ → ℕ → Entry → Type 0
EntryPromise bytes r e = (e.task ≡ task bytes r) × (kind_in e.kind ≡ kind bytes r) × (e.gap ≡ gap bytes r)

abbrev pub JudgePromise : List ℕ → ℕ → Result Unit Refusal → Type 0
JudgePromise bytes tasks v = told v ≡ log_judged bytes tasks
