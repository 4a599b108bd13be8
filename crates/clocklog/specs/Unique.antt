-- One input, one answer: two that meet a call's promise are equal.
use Rattle.std.specs.Prelude.{◌≡◌, ℕ, List, Result, refl}
use Rattle.std.proofs.Common.{sym, ap, ap₂, ◌∙◌, arith}
use Rattle.answers.specs.declared.Refusal.{Refusal}
use Rattle.answers.specs.AnswerLaws.{told_unique}
use Rattle.clocklog.specs.declared.answer.Entry.{Entry}
use Rattle.clocklog.specs.declared.answer.Kind.{Kind}
use Rattle.clocklog.specs.declared.answer.Kind.TheVariants.{Start, Finish}
use Rattle.clocklog.specs.Format.{kind_in}
use Rattle.clocklog.specs.Promises.{CountPromise, EntryPromise, JudgePromise}

pub count_unique : (bytes : List ℕ) (m n : ℕ) → CountPromise bytes m → CountPromise bytes n → m ≡ n
count_unique bytes m n p q = p ∙ sym q

-- The number tells the kind.
kind_unique : (k l : Kind) → kind_in k ≡ kind_in l → k ≡ l
kind_unique Start Start e = refl
kind_unique Start Finish e = absurd (omega arith)
kind_unique Finish Start e = absurd (omega arith)
kind_unique Finish Finish e = refl

pub entry_unique : (bytes : List ℕ) (r : ℕ) (d e : Entry) → EntryPromise bytes r d → EntryPromise bytes r e → d ≡ e
entry_unique bytes r d e p q =
    ap₂ (λ t k. record { task = t; kind = k; gap = d.gap }) (p.0 ∙ sym q.0) (kind_unique d.kind e.kind (p.1 ∙ sym q.1))
    ∙ ap (λ g. record { task = e.task; kind = e.kind; gap = g }) (p.2 ∙ sym q.2)

pub judge_unique : (bytes : List ℕ) (tasks : ℕ) (v w : Result Unit Refusal) → JudgePromise bytes tasks v → JudgePromise bytes tasks w → v ≡ w
judge_unique bytes tasks v w p q = told_unique v w (p ∙ sym q)
