-- What a sheet that is judged fine is known to be.
use Rattle.std.specs.Prelude.{◌≡◌, ℕ, ◌≤◌, ◌<◌}
use Rattle.sheet.specs.declared.Sheet.{Sheet}
use Rattle.sheet.specs.declared.Field.TheVariants.{Edition, Count, Period, Budget, Rank, Chains, Limit, Length, Entry}
use Rattle.sheet.specs.Fields.{Values, Kind, kind_of, chains, value}
use Rattle.sheet.specs.EachLaws.{If}

-- Values that are "allowed", field by field.
pub record Within (kind : Kind) (v : Values) : Type 0 where
  pub edition_is : If kind → v Edition ≡ 2
  pub count_least : 1 ≤ v Count
  pub count_most : v Count ≤ 16
  pub period_least : (i : ℕ) → i < v Count → 1 ≤ v (Period i)
  pub period_most : (i : ℕ) → i < v Count → v (Period i) ≤ 100000
  pub budget_least : (i : ℕ) → i < v Count → 1 ≤ v (Budget i)
  pub budget_most : (i : ℕ) → i < v Count → v (Budget i) ≤ v (Period i)
  pub ranks_differ : (i j : ℕ) → i < v Count → j < v Count → v (Rank i) ≡ v (Rank j) → i ≡ j
  pub chains_least : 1 ≤ chains kind v
  pub chains_are : If kind → chains kind v ≡ v Chains
  pub limit_most : (c : ℕ) → If kind → c < chains kind v → v (Limit c) ≤ 4000000
  pub length_least : (c : ℕ) → c < chains kind v → 1 ≤ v (Length c)
  pub length_most : (c : ℕ) → c < chains kind v → v (Length c) ≤ v Count
  pub entry_below : (c i : ℕ) → c < chains kind v → i < v (Length c) → v (Entry c i) < v Count
  pub entries_differ : (c : ℕ) → c < chains kind v → (i j : ℕ) → i < v (Length c) → j < v (Length c) → v (Entry c i) ≡ v (Entry c j) → i ≡ j

-- The numbers of a sheet that is judged fine.
abbrev pub Sound : Sheet → Type 0
Sound s = Within (kind_of (value s)) (value s)
