-- A sheet that is written takes at most 178 bytes.
use Rattle.std.specs.Prelude.{◌≡◌, ℕ, ◌≤◌, Result, Ok}
use Rattle.std.proofs.Common.{sym, ap, ◌∙◌, arith}
use Rattle.answers.specs.declared.Refusal.{Refusal}
use Rattle.answers.specs.Answers.{told}
use Rattle.sheet.specs.declared.Sheet.{Sheet}
use Rattle.sheet.specs.Fields.{Kind, old, new, kind_of, value}
use Rattle.sheet.specs.Calls.{write_of}
use Rattle.sheet.specs.SizeLaws.{most}
use Rattle.sheet.specs.RoundTrip.{written_range}

pub size_most : (s : Sheet) (room : ℕ) (w : Result ℕ Refusal) {n : ℕ} → told w ≡ write_of s room → w ≡ Ok n → n ≤ 178
size_most s room w {n = n} e q = go (kind_of (value s)) (written_range s room n (sym e ∙ ap told q)).1
  where
    go : (kind : Kind) → n ≤ most kind → n ≤ 178
    go old l = omega arith
    go new l = omega arith
