-- The law of `greatest`: of the tasks that pass a test it gives the one of greatest rank.
use Rattle.std.specs.Prelude.{◌≡◌, refl, Bool, true, false, cond, ℕ, zero, suc, ◌≤◌, ltb}
use Rattle.std.proofs.Common.{sym, ◌∙◌, le_refl, arith, ltb-true, ltb-false}
use Rattle.std.proofs.lemmas.Bool.{false≢true}
use Rattle.arith.specs.RangeLaws.{below_suc}
use Rattle.theory.specs.Model.Schedule.{Slot, idle, busy}
use Rattle.theory.specs.Model.Greatest.{outranking, greatest}
use Rattle.theory.specs.Analysis.GreatestLaws.{IsGreatest}

pub greatest_is : (rank : ℕ → ℕ) (test : ℕ → Bool) (n : ℕ) → IsGreatest rank test n (greatest rank test n)
unfolding greatest
greatest_is rank test zero = λ j l. absurd (omega arith)
greatest_is rank test (suc n) = go (test n) refl (greatest rank test n) (greatest_is rank test n)
  where
    lower : ℕ → ℕ → Type 0
    lower i j = test j ≡ true → rank j ≤ rank i

    go : (b : Bool) → test n ≡ b → (x : Slot) → IsGreatest rank test n x → IsGreatest rank test (suc n) (cond b (outranking rank n x) x)
    go false e idle h = below_suc (λ j. test j ≡ false) h e
    go false e (busy i) h = (omega (arith, h.0), h.1, below_suc (lower i) h.2 (λ q. absurd (false≢true (sym e ∙ q))))
    go true e idle h = (omega arith, e, below_suc (lower n) (λ j l q. absurd (false≢true (sym (h j l) ∙ q))) (λ q. le_refl _))
    go true e (busy i) h = pick (ltb (rank i) (rank n)) refl
      where
        pick : (b : Bool) → ltb (rank i) (rank n) ≡ b → IsGreatest rank test (suc n) (cond b (busy n) (busy i))
        pick true q =
            (omega arith, e, below_suc (lower n) (λ j l z. omega (arith, h.2 j l z, ltb-true (rank i) (rank n) q)) (λ z. le_refl _))
        pick false q = (omega (arith, h.0), h.1, below_suc (lower i) h.2 (λ z. ltb-false (rank i) (rank n) q))
