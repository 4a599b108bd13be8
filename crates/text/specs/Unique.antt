-- One input, one answer and one content of lent memory: two that meet a call's promise are equal.
use Rattle.std.specs.Prelude.{◌≡◌, List, ℕ, Result}
use Rattle.std.proofs.Common.{sym, ap, ◌∙◌}
use Rattle.answers.specs.declared.Refusal.{Refusal}
use Rattle.answers.specs.Answers.{told}
use Rattle.answers.specs.AnswerLaws.{told_unique}
use Rattle.sheet.specs.declared.Sheet.{Sheet}
use Rattle.text.specs.declared.Wrong.{Wrong}
use Rattle.text.specs.declared.Fault.{Fault}
use Rattle.text.specs.Calls.{page_after}
use Rattle.text.specs.Promises.{ShowPromise, ParsePromise, NumberPromise}

pub parse_unique : (text : List ℕ) (x y : Result Sheet Fault) → ParsePromise text x → ParsePromise text y → x ≡ y
parse_unique text x y h g = h ∙ sym g

pub show_unique : (s : Sheet) (old new other : List ℕ) (v w : Result ℕ Refusal) → ShowPromise s old v new → ShowPromise s old w other → (v ≡ w) × (new ≡ other)
show_unique s old new other v w h g =
    let e : v ≡ w = told_unique v w (h.0 ∙ sym g.0) in
    (e, h.1 ∙ ap (λ x. page_after (told x) s old) e ∙ sym g.1)

pub number_unique : (wrong : Wrong) (m n : ℕ) → NumberPromise wrong m → NumberPromise wrong n → m ≡ n
number_unique wrong m n h g = h ∙ sym g
