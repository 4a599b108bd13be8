-- The numbers of refusal: the least and the greatest that an answer may have, those that it has only, and one that it never has, kept by
-- each way to put judgements together.
use Rattle.std.specs.Prelude.{◌≡◌, refl, ◌≢◌, Bool, true, false, ℕ, ◌≤◌}
use Rattle.std.proofs.Common.{sym, subst, arith}
use mathlib.Core.List.{List, [], ◌∷◌}
use Rattle.answers.specs.Answers.{Answer, given, refused, Judgement, when, with_value, after, also, first}
use Rattle.answers.specs.AnswerLaws.{refused_given}

-- Where an answer is refused, the number is at least low and at most high.
pub record Numbered {A : Type 0} (low high : ℕ) (a : Answer A) : Type 0 where
  pub least : {number : ℕ} {values : List ℕ} → a ≡ refused number values → low ≤ number
  pub most : {number : ℕ} {values : List ℕ} → a ≡ refused number values → number ≤ high

module _ {A : Type 0} {low high : ℕ} where
  pub given_numbered : (x : A) → Numbered low high (given x)
  given_numbered x = record { least = λ e. refused_given (sym e); most = λ e. refused_given (sym e) }

  pub refused_numbered : (number : ℕ) (values : List ℕ) → low ≤ number → number ≤ high → Numbered {A = A} low high (refused number values)
  refused_numbered number values l h = record { least = λ e. omega (arith, same e); most = λ e. omega (arith, same e) }
    where
      same : {n : ℕ} {vs : List ℕ} → ◌≡◌ {A = Answer A} (refused number values) (refused n vs) → number ≡ n
      same e = cc

  pub numbered_wider : {l h : ℕ} {a : Answer A} → Numbered l h a → low ≤ l → h ≤ high → Numbered low high a
  numbered_wider n p q = record { least = λ e. omega (arith, n.least e); most = λ e. omega (arith, n.most e) }

-- ---- judgements put together

module _ {low high : ℕ} where
  pub when_numbered : (b : Bool) (number : ℕ) → low ≤ number → number ≤ high → Numbered low high (when b number)
  when_numbered true number l h = refused_numbered number [] l h
  when_numbered false number l h = given_numbered tt

  pub with_value_numbered : (value : ℕ) {j : Judgement} → Numbered low high j → Numbered low high (with_value value j)
  with_value_numbered value {j = given u} n = given_numbered u
  with_value_numbered value {j = refused number values} n = refused_numbered number (value ∷ []) (n.least refl) (n.most refl)

  pub after_numbered : {A B : Type 0} {a : Answer A} {next : A → Answer B} → Numbered low high a → ((x : A) → Numbered low high (next x)) → Numbered low high (after a next)
  after_numbered {a = given x} n m = m x
  after_numbered {a = refused number values} n m = refused_numbered number values (n.least refl) (n.most refl)

  pub also_numbered : {A : Type 0} {j : Judgement} {a : Answer A} → Numbered low high j → Numbered low high a → Numbered low high (also j a)
  also_numbered n m = after_numbered n (λ u. m)

  pub first_numbered : {F : Type 0} {judge : F → Judgement} (fs : List F) → ((f : F) → Numbered low high (judge f)) → Numbered low high (first judge fs)
  unfolding first
  first_numbered [] n = given_numbered tt
  first_numbered (f ∷ fs) n = also_numbered (n f) (first_numbered fs n)

-- ---- the numbers that an answer may have, by a property of them

-- Where an answer is refused, P holds of its number.
pub record Only {A : Type 0} (P : ℕ → Type 0) (a : Answer A) : Type 0 where
  pub holds : {number : ℕ} {values : List ℕ} → a ≡ refused number values → P number

module _ {A : Type 0} {P : ℕ → Type 0} where
  pub given_only : (x : A) → Only P (given x)
  given_only x = record { holds = λ e. refused_given (sym e) }

  pub refused_only : (number : ℕ) (values : List ℕ) → P number → Only {A = A} P (refused number values)
  refused_only number values p = record { holds = λ e. subst P (same e) p }
    where
      same : {n : ℕ} {vs : List ℕ} → ◌≡◌ {A = Answer A} (refused number values) (refused n vs) → number ≡ n
      same e = cc

module _ {P : ℕ → Type 0} where
  pub when_only : (b : Bool) (number : ℕ) → P number → Only P (when b number)
  when_only true number p = refused_only number [] p
  when_only false number p = given_only tt

  pub after_only : {A B : Type 0} {a : Answer A} {next : A → Answer B} → Only P a → ((x : A) → Only P (next x)) → Only P (after a next)
  after_only {a = given x} n m = m x
  after_only {a = refused number values} n m = refused_only number values (n.holds refl)

  pub also_only : {A : Type 0} {j : Judgement} {a : Answer A} → Only P j → Only P a → Only P (also j a)
  also_only n m = after_only n (λ u. m)

-- ---- a number that is never given

-- Where P says more than Q.
pub only_wider : {A : Type 0} {P Q : ℕ → Type 0} {a : Answer A} → ((number : ℕ) → P number → Q number) → Only P a → Only Q a
only_wider h n = record { holds = λ e. h _ (n.holds e) }

-- Where an answer is refused, the number is not n.
abbrev pub Never : {A : Type 0} → ℕ → Answer A → Type 0
Never n = Only (λ number. number ≢ n)
