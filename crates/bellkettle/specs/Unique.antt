-- One returned number and one content of lent memory for each input of each call.
use Rattle.std.specs.Prelude.{◌≡◌, List, ℕ, ℤ}
use Rattle.std.proofs.Common.{sym, ap, ◌∙◌}
use Rattle.std.proofs.lemmas.List.Edits.{sets}
use Rattle.answers.specs.Answers.{Answer, given, refused}
use Rattle.sheet.specs.declared.Sheet.{Sheet}
use Rattle.sheet.specs.Calls.{read_of}
use Rattle.night.specs.Unique.{replay_unique}
use Rattle.telltale.specs.declared.Record.{Record}
use Rattle.bellkettle.specs.declared.Question.{Question}
use Rattle.bellkettle.specs.Numbers.{number_of, values_of, told_of}
use Rattle.bellkettle.specs.Promises.{SheetAsked, QuickAsked, SheetRead, SheetWritten, ReplayOf, ReplayAsked, RecordBegun, RecordStamped}

-- Two ends that meet a call's promise are equal: the returned numbers x and y, the values v and w, what is left in the other slices.

same : {A : Type 0} {x y z : A} → x ≡ z → y ≡ z → x ≡ y
same p q = p ∙ sym q

module _ (bytes : List ℕ) (x y : ℕ) (values v w : List ℤ) where
  pub asked_unique : (question : Question) (table t u : List ℕ) → SheetAsked question bytes x values v table t → SheetAsked question bytes y values w table u
      → ((x ≡ y) × (v ≡ w)) × (t ≡ u)
  asked_unique question table t u p q = ((same p.0.0 q.0.0, same p.0.1 q.0.1), same p.1 q.1)

  pub quick_unique : (number : ℕ) → QuickAsked bytes number x values v → QuickAsked bytes number y values w → (x ≡ y) × (v ≡ w)
  quick_unique number p q = (same p.0 q.0, same p.1 q.1)

  pub read_unique : (periods p p' budgets b b' ranks r r' limits l l' lengths m m' entries e e' : List ℕ)
      → SheetRead bytes x values v periods p budgets b ranks r limits l lengths m entries e
      → SheetRead bytes y values w periods p' budgets b' ranks r' limits l' lengths m' entries e'
      → ((x ≡ y) × (v ≡ w)) × (p ≡ p') × (b ≡ b') × (r ≡ r') × (l ≡ l') × (m ≡ m') × (e ≡ e')
  read_unique periods p p' budgets b b' ranks r r' limits l l' lengths m m' entries e e' g h = (
    (same g.0.0 h.0.0, same g.0.1 h.0.1),
    same g.1 h.1,
    same g.2 h.2,
    same g.3 h.3,
    same g.4 h.4,
    same g.5 h.5,
    same g.6 h.6,
  )

pub write_unique : (edition : ℕ) (periods budgets ranks limits lengths entries : List ℕ) (x y : ℕ) (values v w : List ℤ) (out t u : List ℕ)
    → SheetWritten edition periods budgets ranks limits lengths entries x values v out t → SheetWritten edition periods budgets ranks limits lengths entries y values w out u
    → ((x ≡ y) × (v ≡ w)) × (t ≡ u)
write_unique edition periods budgets ranks limits lengths entries x y values v w out t u p q = ((same p.0.0 q.0.0, same p.0.1 q.0.1), same p.1 q.1)

-- The answer of a replay is one, so what is told of it is.
replay_of_unique : (source : Answer Sheet) (log : List ℕ) (x y : ℕ) (values v w : List ℤ) (table t u : List ℕ)
    → ReplayOf source log x values v table t → ReplayOf source log y values w table u → ((x ≡ y) × (v ≡ w)) × (t ≡ u)
replay_of_unique (given s) log x y values v w table t u (a, p, h) (b, q, g) =
    let one = replay_unique s log table t u a b h g in
    ((p.0 ∙ ap (λ r. number_of (told_of r)) one.0 ∙ sym q.0, p.1 ∙ ap (λ r. sets values 0 (values_of (told_of r))) one.0 ∙ sym q.1), one.1)
replay_of_unique (refused number bits) log x y values v w table t u p q = ((same p.0.0 q.0.0, same p.0.1 q.0.1), same p.1 q.1)

pub replay_asked_unique : (bytes log : List ℕ) (x y : ℕ) (values v w : List ℤ) (table t u : List ℕ)
    → ReplayAsked bytes log x values v table t → ReplayAsked bytes log y values w table u → ((x ≡ y) × (v ≡ w)) × (t ≡ u)
replay_asked_unique bytes log x y values v w table t u p q = replay_of_unique (read_of bytes) log x y values v w table t u p q

-- The tell-tale's record is left as r and as s.

pub begin_unique : (was : Record) (counter : ℕ) (r s : Record) → RecordBegun was counter r → RecordBegun was counter s → r ≡ s
begin_unique was counter r s p q = same p q

pub stamp_unique : (was : Record) (counter x y : ℕ) (values v w : List ℤ) (r s : Record) → RecordStamped was counter x values v r → RecordStamped was counter y values w s
    → ((x ≡ y) × (v ≡ w)) × (r ≡ s)
stamp_unique was counter x y values v w r s p q = ((same p.0.0 q.0.0, same p.0.1 q.0.1), same p.1 q.1)
