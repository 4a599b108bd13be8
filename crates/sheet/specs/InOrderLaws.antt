-- Laws of judging fields in order: what is fine, what is left, and what room does.
use Rattle.std.specs.Prelude.{◌≡◌, ℕ, ◌+◌, ◌≤◌, ◌<◌, ltb, Result, Ok, Err}
use Rattle.std.proofs.Math.Path.{refl, ap₂}
use Rattle.std.proofs.Common.{sym, ap, ◌∙◌, ltb-false, lt-ltb, le-ltb}
use mathlib.Core.List.{List, [], ◌∷◌}
use native.Mathlib.Omega.{arith}
use Rattle.sheet.specs.declared.Field.{Field}
use Rattle.answers.specs.declared.Refusal.{Refusal}
use Rattle.answers.specs.Answers.{Answer, given, refused, Judgement, fine, when, also, number_in, values_in, refusal, told}
use Rattle.answers.specs.AnswerLaws.{refused_given, when_fine, also_given}
use Rattle.sheet.specs.Fields.{Values, kind_of, width, widths, judged, with_offset, in_order}
use Rattle.sheet.specs.Calls.{judged_on, judged_in, judged_whole}
use Rattle.sheet.specs.EachLaws.{All}

-- An offset changes nothing where there is no refusal.
pub with_offset_fine : (at : ℕ) (j : Judgement) → with_offset at j ≡ fine → j ≡ fine
with_offset_fine at (given u) e = refl
with_offset_fine at (refused number values) e = refused_given e

-- the refusal of the fields, or none, where the end is answered beside it
pub judged_no : {w : Result ℕ Refusal} {r : Refusal} (j : Judgement) (end : ℕ) → told w ≡ also j (given end) → w ≡ Err r → j ≡ refusal r
judged_no (given u) end e p = refused_given (ap told (sym p) ∙ e)
judged_no {r = r} (refused number values) end e p =
    let q : ◌≡◌ {A = Answer ℕ} (refused number values) (refusal r) = sym e ∙ ap told p in
    let n : number ≡ number_in r = cc in
    let vs : values ≡ values_in r = cc in
    ap₂ refused n vs

pub judged_fine : {w : Result ℕ Refusal} {k : ℕ} (j : Judgement) (end : ℕ) → told w ≡ also j (given end) → w ≡ Ok k → (j ≡ fine) × (k ≡ end)
judged_fine {k = k} j end e p = let both = also_given j (given end) (sym e ∙ ap told p) in let g = both.1 in (both.0, cc)

-- ---- fields in order

module _ (g : ℕ → Field → Judgement) where
  pub in_order_same : (h : ℕ → Field → Judgement) (fs : List Field) (at : ℕ) → All (λ f. (a : ℕ) → g a f ≡ h a f) fs → in_order g at fs ≡ in_order h at fs
  unfolding in_order
  in_order_same h [] at e = refl
  in_order_same h (f ∷ fs) at e = ap₂ also (e.0 at) (in_order_same h fs (at + width f) e.1)

  pub in_order_fine : (fs : List Field) (at : ℕ) → in_order g at fs ≡ fine → All (λ f. (a : ℕ) × (g a f ≡ fine)) fs
  unfolding in_order
  in_order_fine [] at e = tt
  in_order_fine (f ∷ fs) at e = let both = also_given (g at f) (in_order g (at + width f) fs) e in ((at, both.0), in_order_fine fs (at + width f) both.1)

  pub fine_in_order : (fs : List Field) (at : ℕ) → All (λ f. (a : ℕ) → g a f ≡ fine) fs → in_order g at fs ≡ fine
  unfolding in_order
  fine_in_order [] at e = refl
  fine_in_order (f ∷ fs) at e = ap₂ also (e.0 at) (fine_in_order fs (at + width f) e.1)

-- the first of the fields that are left
pub in_order_step : {f : Field} {fs rest : List Field} → fs ≡ f ∷ rest → (judge : ℕ → Field → Judgement) (at : ℕ)
    → in_order judge at fs ≡ also (judge at f) (in_order judge (at + width f) rest)
unfolding in_order
in_order_step e judge at = ap (in_order judge at) e

pub in_order_none : {fs : List Field} → fs ≡ [] → (judge : ℕ → Field → Judgement) (at : ℕ) → in_order judge at fs ≡ fine
unfolding in_order
in_order_none e judge at = ap (in_order judge at) e

-- ---- in bytes, which may end inside a field

module _ (room : ℕ) (v : Values) where
  pub judged_short : (at : ℕ) (f : Field) → room < at + width f → judged_in room v at f ≡ refused 1 (at ∷ [])
  judged_short at f h = ap (λ b. with_offset at (also (when b 1) (judged (kind_of v) v f))) (lt-ltb room (at + width f) h)

  pub judged_whole_lem : (at : ℕ) (f : Field) → at + width f ≤ room → judged_in room v at f ≡ judged_on v at f
  judged_whole_lem at f h = ap (λ b. with_offset at (also (when b 1) (judged (kind_of v) v f))) (le-ltb room (at + width f) h)

  -- in room for all of them the fields are judged as in memory
  pub roomy : (fs : List Field) (at : ℕ) → at + widths fs ≤ room → in_order (judged_in room v) at fs ≡ in_order (judged_on v) at fs
  unfolding in_order widths
  roomy [] at h = refl
  roomy (f ∷ fs) at h = ap₂ also (judged_whole_lem at f (omega arith)) (roomy fs (at + width f) (omega arith))

  -- and only there are they taken
  pub taken_inside : (fs : List Field) (at : ℕ) → at ≤ room → in_order (judged_in room v) at fs ≡ fine → at + widths fs ≤ room
  unfolding in_order widths
  taken_inside [] at h e = omega arith
  taken_inside (f ∷ fs) at h e =
      let both = also_given (judged_in room v at f) (in_order (judged_in room v) (at + width f) fs) e in
      let whole = also_given (when (ltb room (at + width f)) 1) (judged (kind_of v) v f) (with_offset_fine at (judged_whole room v at f) both.0) in
      omega (arith, taken_inside fs (at + width f) (ltb-false room (at + width f) (when_fine _ 1 whole.0)) both.1)
