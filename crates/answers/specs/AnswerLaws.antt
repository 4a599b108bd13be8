-- The laws of answers: what a refusal, or none, on the way comes to, and that an answer tells its refusal.
use Rattle.std.specs.Prelude.{◌≡◌, refl, Bool, true, false, List, [], ◌∷◌, get_or, ℕ, Result, Ok, Err}
use Rattle.std.proofs.Common.{sym, ap, ◌∙◌, arith}
use Rattle.answers.specs.declared.Refusal.{Refusal}
use Rattle.answers.specs.declared.Refusal.TheVariants.{Cut, Count, Period, Budget, Rank, Length, Entry, Repeat, Surplus, Hyperperiod, Jobs, Release, Limit, Room, Late, Edition, Chain, OldEdition, LogTask, LogKind, LogTime, NoReading, LongReading}
use Rattle.answers.specs.Answers.{Answer, given, refused, Judgement, fine, when, with_value, after, also, number_in, values_in, refusal, told}

-- What is refused is not given.
pub refused_given : {A B : Type 0} {number : ℕ} {values : List ℕ} {a : A} → ◌≡◌ {A = Answer A} (refused number values) (given a) → B
refused_given e = let z : ◌≡◌ {A = ℕ} 0 1 = cc in absurd (omega arith)

-- What is given at the end was given on the way.
pub after_given : {A B : Type 0} (source : Answer A) (next : A → Answer B) {b : B} → after source next ≡ given b → (a : A) × (source ≡ given a) × (next a ≡ given b)
after_given (given a) next e = (a, refl, e)
after_given (refused number values) next e = refused_given e

pub also_given : {A : Type 0} (j : Judgement) (a : Answer A) {x : A} → also j a ≡ given x → (j ≡ fine) × (a ≡ given x)
also_given (given u) a e = (refl, e)
also_given (refused number values) a e = refused_given e

-- What is refused, where nothing that comes after refuses, was refused on the way.
pub after_refused : {A B : Type 0} (source : Answer A) (next : A → B) (r : Refusal) → after source (λ a. given (next a)) ≡ refusal r → source ≡ refusal r
after_refused (given a) next r e = refused_given (sym e)
after_refused (refused number values) next r e = let p : number ≡ number_in r = cc in let q : values ≡ values_in r = cc in cc

pub when_fine : (b : Bool) (number : ℕ) → when b number ≡ fine → b ≡ false
when_fine true number e = refused_given e
when_fine false number e = refl

-- A value changes nothing where there is no refusal.
pub with_value_fine : (value : ℕ) (j : Judgement) → with_value value j ≡ fine → j ≡ fine
with_value_fine value (given u) e = refl
with_value_fine value (refused number values) e = refused_given e

-- ---- what a call answers, and what would come after it

pub also_no : {A : Type 0} {v : Result Unit Refusal} {r : Refusal} {j : Judgement} (a : Answer A) → told v ≡ j → v ≡ Err r → also j a ≡ refusal r
also_no a e q = ap (λ j. also j a) (sym e ∙ ap told q)

pub also_fine : {A : Type 0} {v : Result Unit Refusal} {u : Unit} {j : Judgement} (a : Answer A) → told v ≡ j → v ≡ Ok u → also j a ≡ a
also_fine a e q = ap (λ j. also j a) (sym e ∙ ap told q)

pub after_no : {A B : Type 0} {v : Result A Refusal} {r : Refusal} {a : Answer A} (next : A → Answer B) → told v ≡ a → v ≡ Err r → after a next ≡ refusal r
after_no next e q = ap (λ a. after a next) (sym e ∙ ap told q)

pub after_fine : {A B : Type 0} {v : Result A Refusal} {x : A} {a : Answer A} (next : A → Answer B) → told v ≡ a → v ≡ Ok x → after a next ≡ next x
after_fine next e q = ap (λ a. after a next) (sym e ∙ ap told q)

-- ---- document 01's answer tells the code's

-- The refusal of a number, with a value where it has one.
refusal_from : ℕ → ℕ → Refusal
refusal_from number value = get_or (NoReading ∷ Cut value ∷ Count value ∷ Period value ∷ Budget value ∷ Rank value ∷ Length value ∷ Entry value ∷ Repeat value ∷ Surplus value ∷ Hyperperiod ∷ Jobs ∷ Release ∷ Limit ∷ Room ∷ Late value ∷ Edition ∷ Chain ∷ OldEdition ∷ LogTask ∷ LogKind ∷ LogTime ∷ NoReading ∷ NoReading ∷ NoReading ∷ NoReading ∷ LongReading ∷ []) number NoReading

value_from : List ℕ → ℕ
value_from [] = 0
value_from (value ∷ values) = value

restored : (r : Refusal) → refusal_from (number_in r) (value_from (values_in r)) ≡ r
unfolding refusal_from value_from
restored (Cut value) = refl
restored (Count value) = refl
restored (Period value) = refl
restored (Budget value) = refl
restored (Rank value) = refl
restored (Length value) = refl
restored (Entry value) = refl
restored (Repeat value) = refl
restored (Surplus value) = refl
restored Hyperperiod = refl
restored Jobs = refl
restored Release = refl
restored Limit = refl
restored Room = refl
restored (Late value) = refl
restored Edition = refl
restored Chain = refl
restored OldEdition = refl
restored LogTask = refl
restored LogKind = refl
restored LogTime = refl
restored NoReading = refl
restored LongReading = refl

pub refusal_unique : {A : Type 0} (r q : Refusal) → ◌≡◌ {A = Answer A} (refusal r) (refusal q) → r ≡ q
refusal_unique r q e = sym (restored r) ∙ (same (number_in r) (values_in r) (number_in q) (values_in q) e ∙ restored q)
  where
    same : {A : Type 0} (m : ℕ) (xs : List ℕ) (n : ℕ) (ys : List ℕ) → ◌≡◌ {A = Answer A} (refused m xs) (refused n ys) → refusal_from m (value_from xs) ≡ refusal_from n (value_from ys)
    same m xs n ys e = let p : m ≡ n = cc in let q : xs ≡ ys = cc in cc

pub told_unique : {A : Type 0} (v w : Result A Refusal) → told v ≡ told w → v ≡ w
told_unique (Ok a) (Ok b) e = cc
told_unique (Ok a) (Err q) e = refused_given (sym e)
told_unique (Err r) (Ok b) e = refused_given e
told_unique (Err r) (Err q) e = ap Err (refusal_unique r q e)
