-- A sheet that is judged fine takes its size in bytes; its fields and then zeros to the end of the byte are put at the front.
use mathlib.Core.Path.{◌≡◌, refl, sym, ap, ap₂, ◌∙◌}
use mathlib.Core.List.{◌++◌}
use Prim.Native.Nat.{ℕ, ◌+◌, ◌-◌, ◌*◌, ◌≤◌, min}
use native.Mathlib.Omega.{arith}
use lib.Dec.{ltb}
use lib.ListN.{length, length-append}
use lib.Seq.{sets}
use borrow.Author.Tests.{lt-ltb, le-ltb}
use Rattle.std.proofs.Common.{rules}
use Rattle.std.proofs.lemmas.Result.{err_from_is_err_and}
use Rattle.bits.specs.Bits.{bits, unpack}
use Rattle.bits.specs.Laws.{length_bits, zero_bits}
use Rattle.bits.specs.Lists.{sets_append}
use Rattle.bits.specs.Bytes.{written_is}
use Rattle.sheet.specs.declared.Sheet.{Sheet}
use Rattle.answers.specs.Answers.{Answer, given, when, also}
use Rattle.sheet.specs.EncodedLaws.{length_packed}
use Rattle.sheet.specs.Fields.{fields, widths, value, in_order}
use Rattle.sheet.specs.Calls.{judged_in, packed, end_of, size_of, judge_of, write_of}
use Rattle.sheet.specs.SizeLaws.{ends_by}
use Rattle.sheet.specs.InOrderLaws.{roomy, judged_no, judged_fine}
use Rattle.sheet.proofs.write.Goals as goal

-- what is answered after the fields are judged
abbrev afterwards : Sheet → ℕ → Answer ℕ
afterwards s room = also (when (ltb room (size_of s)) 14) (given (size_of s))

-- no field is short
whole : (s : Sheet) → judge_of s ≡ in_order (judged_in 1424 (value s)) 0 (fields (value s))
unfolding judge_of
whole s = sym (roomy 1424 (value s) (fields (value s)) 0 (omega (arith, ends_by (value s))))

pub returns-in_err-end : goal.returns-in_err-end
unfolding write_of
returns-in_err-end c =
    let s = c.args.s in
    let v = value s in
    let p = err_from_is_err_and c.from_residual.result c.from_residual.ensures.1 in
    let no = judged_no (in_order (judged_in 1424 v) 0 (fields v)) (widths (fields v)) c.judge_fields.ensures c.in_err-end.was in
    rw (p.1, p.2) (sym (ap (λ j. also j (afterwards s (length c.args.out.now))) (whole s ∙ no)), refl)

pub returns-then-out-size : goal.returns-then-out-size
unfolding write_of
returns-then-out-size c =
    let s = c.args.s in
    let v = value s in
    let room = length c.args.out.now in
    let fine = judged_fine (in_order (judged_in 1424 v) 0 (fields v)) (widths (fields v)) c.judge_fields.ensures c.in_ok-end.was in (
      sym (ap (λ j. also j (afterwards s room)) (whole s ∙ fine.0)
          ∙ ap (λ b. also (when b 14) (given (size_of s))) (lt-ltb room (size_of s) (omega (arith, fine.1, c.div_ceil-size.ensures)))),
      refl,
    )

pub overflow_mul-size : goal.overflow_mul-size
overflow_mul-size c =
    let v = value c.args.s in
    let fine = judged_fine (in_order (judged_in 1424 v) 0 (fields v)) (widths (fields v)) c.judge_fields.ensures c.in_ok-end.was in
    omega (arith, fine.1, ends_by v, c.div_ceil-size.ensures)

pub returns : goal.returns
unfolding write_of
returns c =
    let s = c.args.s in
    let v = value s in
    let old = c.args.out.now in
    let fine = judged_fine (in_order (judged_in 1424 v) 0 (fields v)) (widths (fields v)) c.judge_fields.ensures c.in_ok-end.was in
    let end : ℕ = c.in_ok-end.end in
    let end_is : end ≡ end_of s = fine.1 in
    let size_is : c.div_ceil-size.result ≡ size_of s = omega (arith, end_is, c.div_ceil-size.ensures) in
    let fits : size_of s ≤ length old = omega (arith, size_is, c.if-out-size.false) in
    let bs = packed s in
    let z : ℕ = c.div_ceil-size.result * 8 - end in
    let pad = bits z 0 in
    let long : length bs ≡ end = length_packed s ∙ sym end_is in
    let put : unpack c.put.new.out ≡ sets (unpack old) 0 (bs ++ pad) =
    c.put.ensures
    ∙ ap₂ (λ x w. sets x end (bits w 0)) {u = min z 32} {v = z} c.put_fields.ensures (omega (arith, c.div_ceil-size.ensures))
    ∙ ap (λ k. sets (sets (unpack old) 0 bs) k pad) {x = end} {y = 0 + length bs} (omega (arith, long))
    ∙ sym (sets_append bs pad (unpack old) 0) in (
      ap given size_is
          ∙ sym (ap (λ j. also j (afterwards s (length old))) (whole s ∙ fine.0)
          ∙ ap (λ b. also (when b 14) (given (size_of s))) (le-ltb (length old) (size_of s) fits)),
      written_is bs pad (length-append bs pad ∙ omega (arith, long, length_bits z 0, c.div_ceil-size.ensures)) (zero_bits z) old _
          (λ i. search rules) (λ i. omega (arith, c.type_inv.out i)) (omega (arith, long, end_is)) put,
    )
