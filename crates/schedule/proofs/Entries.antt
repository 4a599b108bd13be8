-- A table that is filled from the front, row after row.
use mathlib.Core.Path.{◌≡◌, sym, ap, ap₂, ◌∙◌}
use mathlib.Core.List.{List, ◌++◌}
use Prim.Native.Nat.{ℕ, suc, ◌+◌, ◌-◌, ◌≤◌}
use native.Mathlib.Omega.{arith}
use lib.ListN.{length, take, drop, length-drop}
use lib.Seq.{length-take-le, drop-drop, take-append-add, take_at}
use borrow.Rule.Slice.PartMut.{put_mid, post_of, drop_put, same_len_mid}
use Rattle.theory.specs.declared.Task.{Task}
use Rattle.std.specs.Prelude.{Option, Result}
use Rattle.schedule.specs.declared.cycle.Lowest.{Lowest}
use Rattle.schedule.specs.Calls.{rows}
use Rattle.schedule.specs.Conditions.{RowFilled, FoundTo, Filled}
use Rattle.schedule.proofs.Notes.{none_late_before}

-- The part of n entries from a on.
pub part_length : (a n : ℕ) (xs : List ℕ) → a + n ≤ length xs → length (take (a + n - a) (drop a xs)) ≡ n
part_length a n xs room = length-take-le (a + n - a) (drop a xs) (rw length-drop (omega arith)) ∙ omega arith

-- One row more: ys stands where n entries from a on were lent.
module _ (ts : List Task) (i a n : ℕ) (old xs ys : List ℕ) (room : a + n ≤ length xs) (size : length ys ≡ n) where
  abbrev new : List ℕ
  new = put_mid a (a + n - a) xs ys

  within : length ys ≡ a + n - a
  within = omega arith

  up_to : take (a + n) new ≡ take a xs ++ ys
  up_to =
      ap (λ k. take (k + n) new) (sym (length-take-le a xs (omega arith)))
      ∙ take-append-add (take a xs) (ys ++ post_of a (a + n - a) xs) n ∙ ap (λ zs. take a xs ++ zs) (take_at ys (post_of a (a + n - a) xs) n size)

  from_on : drop a xs ≡ drop a old → drop (a + n) new ≡ drop (a + n) old
  from_on e = drop_put a (a + n) xs ys (omega arith) room within ∙ sym (drop-drop n a xs) ∙ ap (drop n) e ∙ drop-drop n a old

  pub row_more : {found found' : Result Lowest ℕ} {r : Option ℕ} → Filled ts i a old xs found → RowFilled ts i ys r → FoundTo ts (suc i) found' → Filled ts (suc i) (a + n) old new found'
  unfolding rows
  row_more f r told = record {
    told = told;
    same_length = same_len_mid a (a + n - a) xs ys (size ∙ sym (part_length a n xs room)) ∙ f.same_length;
    untouched = from_on f.untouched;
    filled = λ e. let x = none_late_before ts i e in up_to ∙ ap₂ ◌++◌ (f.filled x.0) (r.filled x.1);
  }
