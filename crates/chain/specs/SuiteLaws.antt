-- The limits that a report goes by.
use Rattle.std.specs.Prelude.{◌≡◌, Bool, true, false, cond, ℕ, ◌-◌, ◌≤◌, ◌<◌, eqb}
use Rattle.std.proofs.Common.{arith}
use Rattle.answers.specs.Answers.{fine}
use Rattle.sheet.specs.declared.Sheet.{Sheet}
use Rattle.sheet.specs.Conversions.{old_limit}
use Rattle.sheet.specs.Fields.{old, new, chains, value}
use Rattle.sheet.specs.EachLaws.{If}
use Rattle.sheet.specs.Sound.{Sound}
use Rattle.sheet.specs.Tasks.{lacks, limit_of}
use Rattle.sheet.specs.TaskLaws.{chain_place}
use Rattle.chain.specs.Calls.{most_limit, report_limit}

-- A limit that a report goes by is allowed.
pub report_most : (s : Sheet) → Sound s → (number : ℕ) → lacks s number ≡ fine → report_limit s number ≤ most_limit
report_most s sound number known = go (eqb s.edition 1) (sound.limit_most (number - 1)) (chain_place _ sound number known)
  where
    go : (b : Bool) → (If (cond (eqb (cond b 0 31) 31) new old) → number - 1 < chains (cond (eqb (cond b 0 31) 31) new old) (value s) → limit_of s number ≤ most_limit)
        → number - 1 < chains (cond (eqb (cond b 0 31) 31) new old) (value s) → cond b old_limit (limit_of s number) ≤ most_limit
    go true limits place = omega arith
    go false limits place = limits tt place
