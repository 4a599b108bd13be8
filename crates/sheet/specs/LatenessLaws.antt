-- A sheet is refused for a late task only where there is one, and with 15.
use Rattle.std.specs.Prelude.{◌≡◌, refl, ◌≢◌, [], ◌∷◌, ℕ}
use Rattle.std.proofs.Common.{arith}
use Rattle.theory.specs.Model.Schedule.{Slot, idle, busy}
use Rattle.answers.specs.Answers.{fine}
use Rattle.answers.specs.AnswerLaws.{refused_given}
use Rattle.answers.specs.NumberLaws.{Numbered, given_numbered, refused_numbered, Never, given_only, refused_only}
use Rattle.sheet.specs.Lateness.{lateness}

pub lateness_fine : (x : Slot) → lateness x ≡ fine → x ≡ idle
lateness_fine idle e = refl
lateness_fine (busy i) e = refused_given e

pub lateness_numbered : (x : Slot) → Numbered 15 15 (lateness x)
lateness_numbered idle = given_numbered tt
lateness_numbered (busy i) = refused_numbered 15 (i ∷ []) (omega arith) (omega arith)

pub lateness_never : {n : ℕ} → 15 ≢ n → (x : Slot) → Never n (lateness x)
lateness_never d idle = given_only tt
lateness_never d (busy i) = refused_only 15 (i ∷ []) d
