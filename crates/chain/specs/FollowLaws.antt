-- The longest delay of the jobs so far, where of those that go to one job only the first is followed.
use Rattle.std.specs.Prelude.{◌≡◌, List, ℕ, ◌+◌, ◌≤◌, ◌<◌, refl, Bool, true, false, not, eqb, Option, Some, None}
use Rattle.std.specs.Option.{option_eq}
use Rattle.std.proofs.Common.{sym, ap, le_trans, eqb-true, arith}
use Rattle.chain.specs.declared.row.Row.{Row}
use Rattle.chain.specs.declared.row.HandOver.{HandOver}
use Rattle.chain.specs.Paths.{delay_in, FirstHandedOver}
use Rattle.chain.specs.GreatestLaws.{GreatestTo, greatest_none, greatest_new, greatest_kept}
use Rattle.chain.specs.PathLaws.{handed_together}

pub same_followed : (followed : Option ℕ) (job : ℕ) → not (option_eq eqb followed (Some job)) ≡ false → followed ≡ Some job
same_followed None job e = cc
same_followed (Some m) job e = ap Some (eqb-true m job (go (eqb m job) e))
  where
    go : (b : Bool) → not b ≡ false → b ≡ true
    go true q = refl
    go false q = sym q

module _ (path rest : List Row) where
  -- Of the first k jobs the longest delay is `ticks`, first that of job `at`; none that is still to come and goes to the job
  -- `followed` takes longer.
  pub record Followed (k ticks at : ℕ) (followed : Option ℕ) : Type 0 where
    pub greatest : GreatestTo (delay_in path) k ticks at
    pub none_longer : (j : ℕ) (x : HandOver) → k ≤ j → FirstHandedOver path rest j x → followed ≡ Some x.job → delay_in path j ≤ ticks

  pub followed_none : Followed 0 0 0 None
  followed_none = record { greatest = greatest_none (delay_in path); none_longer = λ j x l o e. cc }

  module _ {k ticks at : ℕ} {followed : Option ℕ} (f : Followed k ticks at followed) {next : HandOver} (handed : FirstHandedOver path rest k next) where
    -- The path from job k goes where the last one that was followed went,
    pub followed_again : followed ≡ Some next.job → Followed (k + 1) ticks at followed
    followed_again e = record {
      greatest = greatest_kept (delay_in path) k ticks at f.greatest (f.none_longer k next (omega arith) handed e);
      none_longer = λ j x l o q. f.none_longer j x (omega arith) o q;
    }

    together : (t : ℕ) → delay_in path k ≤ t → (j : ℕ) (x : HandOver) → k + 1 ≤ j → FirstHandedOver path rest j x → Some next.job ≡ Some x.job → delay_in path j ≤ t
    together t m j x l o q = le_trans (handed_together path rest (omega arith) handed o cc) m

    -- or it is followed, and takes longer than those before it, or not.
    pub followed_longer : ticks < delay_in path k → Followed (k + 1) (delay_in path k) k (Some next.job)
    followed_longer l = record { greatest = greatest_new (delay_in path) k ticks at f.greatest l; none_longer = together (delay_in path k) (omega arith) }

    pub followed_shorter : delay_in path k ≤ ticks → Followed (k + 1) ticks at (Some next.job)
    followed_shorter l = record { greatest = greatest_kept (delay_in path) k ticks at f.greatest l; none_longer = together ticks l }
