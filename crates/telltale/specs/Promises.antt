-- What each call promises of its inputs, its answer and the record: was before the call, left after it.
use Rattle.std.specs.Prelude.{◌≡◌, ℕ, Result}
use Rattle.answers.specs.declared.Refusal.{Refusal}
use Rattle.answers.specs.Answers.{told}
use Rattle.telltale.specs.declared.Record.{Record}
use Rattle.telltale.specs.Calls.{fresh, begun_of, stamp_of, record_after}

abbrev pub FreshPromise : Record → Type 0
FreshPromise r = r ≡ fresh

abbrev pub BeginPromise : Record → ℕ → Record → Type 0
BeginPromise was counter left = left ≡ begun_of was counter

abbrev pub StampPromise : Record → ℕ → Result ℕ Refusal → Record → Type 0
StampPromise was counter answer left = (told answer ≡ stamp_of was counter) × (left ≡ record_after (stamp_of was counter) was)
