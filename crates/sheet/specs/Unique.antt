-- One input, one answer and one content of lent memory: two that meet a call's promise are equal.
use Rattle.std.specs.Prelude.{◌≡◌, List, ℕ, Result, Ok, Err}
use Rattle.std.proofs.Common.{sym, ap, ◌∙◌}
use Rattle.std.specs.Coded.{le_prop, Coded-set, coded_ℕ}
use mathlib.Core.HLevel.{is_prop→PathP}
use Rattle.answers.specs.declared.Refusal.{Refusal}
use Rattle.answers.specs.Answers.{Answer, given, told}
use Rattle.answers.specs.AnswerLaws.{refused_given, refusal_unique, told_unique}
use Rattle.theory.specs.declared.Task.{Task}
use Rattle.sheet.specs.declared.Chain.{Chain}
use Rattle.sheet.specs.declared.Sheet.{Sheet}
use Rattle.sheet.specs.declared.sound.Judged.{Judged}
use Rattle.sheet.specs.Calls.{buffer_after}
use Rattle.sheet.specs.Sound.{Sound}
use Rattle.sheet.specs.Promises.{JudgePromise, JudgedPromise, ReadPromise, ToSecondPromise, ToFirstPromise, WritePromise, ChainCountPromise, NumberedPromise, ChainPromise, TasksPromise, EntriesPromise}

pub judge_unique : (s : Sheet) (v w : Result Unit Refusal) → JudgePromise s v → JudgePromise s w → v ≡ w
judge_unique s v w h g = told_unique v w (h ∙ sym g)

pub read_unique : (bytes : List ℕ) (x y : Result Sheet Refusal) → ReadPromise bytes x → ReadPromise bytes y → x ≡ y
read_unique bytes x y h g = told_unique x y (h ∙ sym g)

pub to_second_unique : (s : Sheet) (x y : Result Sheet Refusal) → ToSecondPromise s x → ToSecondPromise s y → x ≡ y
to_second_unique s x y h g = told_unique x y (h ∙ sym g)

pub to_first_unique : (s : Sheet) (x y : Result Sheet Refusal) → ToFirstPromise s x → ToFirstPromise s y → x ≡ y
to_first_unique s x y h g = told_unique x y (h ∙ sym g)

pub chain_count_unique : (s : Sheet) (x y : ℕ) → ChainCountPromise s x → ChainCountPromise s y → x ≡ y
chain_count_unique s x y h g = h ∙ sym g

pub numbered_unique : (s : Sheet) (number : ℕ) (v w : Result Unit Refusal) → NumberedPromise s number v → NumberedPromise s number w → v ≡ w
numbered_unique s number v w h g = told_unique v w (h ∙ sym g)

pub write_unique : (s : Sheet) (old new other : List ℕ) (v w : Result ℕ Refusal) → WritePromise s old v new → WritePromise s old w other → (v ≡ w) × (new ≡ other)
write_unique s old new other v w h g =
    let e : v ≡ w = told_unique v w (h.0 ∙ sym g.0) in
    (e, h.1 ∙ ap (λ x. buffer_after (told x) s old) e ∙ sym g.1)

-- what is known of a sheet has one proof, so a sheet that is judged fine is one
sound_prop : (s : Sheet) → IsProp (Sound s)
sound_prop s = hlevel (le_prop, Coded-set coded_ℕ)

judged_same : (x y : Judged) → x.sheet ≡ y.sheet → x ≡ y
judged_same x y e = λ i. record { sheet = e i; sound = is_prop→PathP (λ j. Sound (e j)) (λ j. sound_prop (e j)) x.sound y.sound i }

pub judged_unique : (s : Sheet) (x y : Result Judged Refusal) → JudgedPromise s x → JudgedPromise s y → x ≡ y
judged_unique s (Ok x) (Ok y) h g =
    let e : ◌≡◌ {A = Answer Sheet} (given x.sheet) (given y.sheet) = h ∙ sym g in
    ap Ok (judged_same x y cc)
judged_unique s (Ok x) (Err q) h g = refused_given (sym (h ∙ sym g))
judged_unique s (Err r) (Ok y) h g = refused_given (h ∙ sym g)
judged_unique s (Err r) (Err q) h g = ap Err (refusal_unique r q (h ∙ sym g))

pub chain_of_unique : (s : Judged) (number : ℕ) (x y : Result Chain Refusal) → ChainPromise s number x → ChainPromise s number y → x ≡ y
chain_of_unique s number x y h g = told_unique x y (h ∙ sym g)

pub tasks_unique : (s : Judged) (x y : List Task) → TasksPromise s x → TasksPromise s y → x ≡ y
tasks_unique s x y h g = h ∙ sym g

pub entries_unique : (c : Chain) (x y : List ℕ) → EntriesPromise c x → EntriesPromise c y → x ≡ y
entries_unique c x y h g = h ∙ sym g
