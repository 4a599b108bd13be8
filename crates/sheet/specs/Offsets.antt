-- What the bit offset of a refusal is: where the judged field begins, and for 9 the first bit that is wrong.
use Rattle.std.proofs.Math.Path.{◌≡◌, refl, sym, ap, ap₂}
use Rattle.std.proofs.Common.{◌∙◌, inl, inr}
use Rattle.std.specs.Prelude.{◌↔◌, ◌⊎◌, Bool, true, false, ℕ, ◌+◌, ◌-◌, ◌*◌, ◌≤◌, ◌<◌, ltb, leb, length}
use mathlib.Core.List.{List, [], ◌∷◌, ◌++◌}
use native.Mathlib.Omega.{arith}
use Rattle.std.proofs.Math.Decide.{dec_lt}
use Rattle.bits.specs.Bits.{unpack, bytes_for}
use Rattle.bits.specs.Bytes.{bit_at}
use Rattle.answers.specs.Answers.{given, refused, Judgement, fine, when, with_value, also}
use Rattle.answers.specs.AnswerLaws.{refused_given, also_given}
use Rattle.sheet.specs.declared.Sheet.{Sheet}
use Rattle.sheet.specs.declared.Field.{Field}
use Rattle.sheet.specs.declared.Field.TheVariants.{Mark, Edition, Count, Period, Budget, Rank, Chains, Limit, Length, Entry}
use Rattle.sheet.specs.Fields.{Values, Kind, kind_of, fields, width, widths, value, outside, among, judged, offset, with_offset, in_order}
use Rattle.sheet.specs.Calls.{judge_of, end_of, size_of, write_of, sheet_of, spelt, judged_whole, judged_in, wrong_bit, tail_of, read_of}
use Rattle.sheet.specs.InOrderLaws.{with_offset_fine}
use Rattle.sheet.specs.TailLaws.{first_one_least, first_one_most, first_one_zeros, first_one_is, tail_wrong, tail_longer, tail_fine, first_one_unique}

-- Of these fields in their order one is refused: those before it are taken, and it begins where they end. Numbers 1 to 9 come with that bit.
pub record FieldRefused (judge : ℕ → Field → Judgement) (fs : List Field) (number : ℕ) (values : List ℕ) : Type 0 where
  pub earlier : List Field
  pub field : Field
  pub later : List Field
  pub listed : fs ≡ earlier ++ field ∷ later
  pub taken : in_order judge 0 earlier ≡ fine
  pub wrong : judge (widths earlier) field ≡ refused number []
  pub begins : values ≡ offset number (widths earlier)

-- After a last field that ends at bit `end`, a bit that is 1 before its byte ends, or the first bit of a byte after the last needed.
abbrev pub WrongAt : List ℕ → ℕ → ℕ → Type 0
WrongAt bytes end offset = ((offset < bytes_for end * 8) × (bit_at bytes offset ≡ true)) ⊎ ((offset ≡ bytes_for end * 8) × (bytes_for end < length bytes))

-- What follows the last field is refused: the offset is that of such a bit, and every bit from the last field's end up to it is 0.
pub record TailRefused (bytes : List ℕ) (end number : ℕ) (values : List ℕ) : Type 0 where
  pub offset : ℕ
  pub number_is : number ≡ 9
  pub value_is : values ≡ offset ∷ []
  pub past_the_fields : end ≤ offset
  pub zeros : (k : ℕ) → end ≤ k → k < offset → bit_at bytes k ≡ false
  pub wrong : WrongAt bytes end offset

-- Bytes are refused: for a field that they end inside or that is not allowed, or, where all fields are taken, for what follows them.
abbrev pub ReadRefused : List ℕ → ℕ → List ℕ → Type 0
ReadRefused bytes number values =
    let s = sheet_of (spelt (unpack bytes)) in
    let judge = judged_whole (length bytes * 8) (value s) in
    FieldRefused judge (fields (value s)) number values ⊎ ((in_order judge 0 (fields (value s)) ≡ fine) × TailRefused bytes (end_of s) number values)

-- ---- a judgement's number comes alone

abbrev Alone : Judgement → Type 0
Alone j = (number : ℕ) (values : List ℕ) → j ≡ refused number values → values ≡ []

when_alone : (b : Bool) (number : ℕ) → Alone (when b number)
when_alone true number n vs e = cc
when_alone false number n vs e = refused_given (sym e)

also_alone : (j k : Judgement) → Alone j → Alone k → Alone (also j k)
also_alone (given u) k a b n vs e = b n vs e
also_alone (refused m ws) k a b n vs e = a n vs e

judged_alone : (kind : Kind) (v : Values) (f : Field) → Alone (judged kind v f)
judged_alone kind v Mark = λ n vs e. refused_given (sym e)
judged_alone kind v Edition = when_alone (outside 2 2 (v Edition)) 16
judged_alone kind v Count = when_alone (outside 1 16 (v Count)) 2
judged_alone kind v (Period i) = when_alone (outside 1 100000 (v (Period i))) 3
judged_alone kind v (Budget i) = when_alone (outside 1 (v (Period i)) (v (Budget i))) 4
judged_alone kind v (Rank i) = when_alone (among (λ j. v (Rank j)) i (v (Rank i))) 5
judged_alone kind v Chains = when_alone (outside 1 8 (v Chains)) 17
judged_alone kind v (Limit c) = when_alone (outside 0 4000000 (v (Limit c))) 13
judged_alone kind v (Length c) = when_alone (outside 1 (v Count) (v (Length c))) 6
judged_alone kind v (Entry c i) =
    also_alone (when (leb (v Count) (v (Entry c i))) 7) (when (among (λ j. v (Entry c j)) i (v (Entry c i))) 8)
    (when_alone (leb (v Count) (v (Entry c i))) 7) (when_alone (among (λ j. v (Entry c j)) i (v (Entry c i))) 8)

whole_alone : (room : ℕ) (v : Values) (at : ℕ) (f : Field) → Alone (judged_whole room v at f)
whole_alone room v at f =
    let short = ltb room (at + width f) in
    also_alone (when short 1) (judged (kind_of v) v f) (when_alone short 1) (judged_alone (kind_of v) v f)

-- ---- the first of the fields that is refused, and what is said of it

record Found (judge : ℕ → Field → Judgement) (fs : List Field) (at number : ℕ) (values : List ℕ) : Type 0 where
  before : List Field
  field : Field
  after : List Field
  listed : fs ≡ before ++ field ∷ after
  taken : in_order judge at before ≡ fine
  wrong : judge (at + widths before) field ≡ refused number []
  value_is : values ≡ offset number (at + widths before)

module _ (judge : ℕ → Field → Judgement) (alone : (at : ℕ) (f : Field) → Alone (judge at f)) where
  abbrev told_at : ℕ → Field → Judgement
  told_at at f = with_offset at (judge at f)

  found : (fs : List Field) (at number : ℕ) (values : List ℕ) → in_order told_at at fs ≡ refused number values → Found judge fs at number values
  unfolding in_order widths
  found [] at number values e = refused_given (sym e)
  found (f ∷ fs) at number values e = go (judge at f) refl e (found fs (at + width f) number values)
    where
      go : (j : Judgement) → judge at f ≡ j → also (with_offset at j) (in_order told_at (at + width f) fs) ≡ refused number values
          → (in_order told_at (at + width f) fs ≡ refused number values → Found judge fs (at + width f) number values) → Found judge (f ∷ fs) at number values
      go (given u) q h rest =
          let x = rest h in
          let here : at + width f + widths x.before ≡ at + (width f + widths x.before) = omega arith in
          record {
            before = f ∷ x.before;
            field = x.field;
            after = x.after;
            listed = ap (λ l. f ∷ l) x.listed;
            taken = ap₂ also q x.taken;
            wrong = ap (λ a. judge a x.field) (sym here) ∙ x.wrong;
            value_is = x.value_is ∙ ap (offset number) here;
          }
      go (refused n vs) q h rest =
          let same : n ≡ number = cc in
          let place_is : offset n at ≡ values = cc in
          let here : at ≡ at + 0 = omega arith in
          record {
            before = [];
            field = f;
            after = fs;
            listed = refl;
            taken = refl;
            wrong = ap (λ a. judge a f) (sym here) ∙ q ∙ ap (refused n) (alone at f n vs q) ∙ ap (λ k. refused k []) same;
            value_is = sym place_is ∙ ap₂ offset same here;
          }

  field_refused : (fs : List Field) (number : ℕ) (values : List ℕ) → in_order told_at 0 fs ≡ refused number values → FieldRefused judge fs number values
  field_refused fs number values e =
      let x = found fs 0 number values e in
      let here : 0 + widths x.before ≡ widths x.before = omega arith in
      record {
        earlier = x.before;
        field = x.field;
        later = x.after;
        listed = x.listed;
        taken = x.taken;
        wrong = ap (λ a. judge a x.field) (sym here) ∙ x.wrong;
        begins = x.value_is ∙ ap (offset number) here;
      }

  -- and back: where those before a field are taken and it is not, it is the first
  first_wrong : (xs : List Field) (f : Field) (ys : List Field) (at number : ℕ) → in_order judge at xs ≡ fine → judge (at + widths xs) f ≡ refused number []
      → in_order told_at at (xs ++ f ∷ ys) ≡ refused number (offset number (at + widths xs))
  unfolding in_order widths
  first_wrong [] f ys at number a h =
      let here : at ≡ at + 0 = omega arith in
      ap (λ j. also (with_offset at j) (in_order told_at (at + width f) ys)) (ap (λ k. judge k f) here ∙ h) ∙ ap (λ k. refused number (offset number k)) here
  first_wrong (x ∷ xs) f ys at number a h =
      let both = also_given (judge at x) (in_order judge (at + width x) xs) a in
      let here : at + width x + widths xs ≡ at + (width x + widths xs) = omega arith in
      ap (λ j. also (with_offset at j) (in_order told_at (at + width x) (xs ++ f ∷ ys))) both.0
      ∙ first_wrong xs f ys (at + width x) number both.1 (ap (λ k. judge k f) here ∙ h)
      ∙ ap (λ k. refused number (offset number k)) here

  refused_field : (fs : List Field) (number : ℕ) (values : List ℕ) → FieldRefused judge fs number values → in_order told_at 0 fs ≡ refused number values
  refused_field fs number values x =
      let here : widths x.earlier ≡ 0 + widths x.earlier = omega arith in
      ap (in_order told_at 0) x.listed
      ∙ first_wrong x.earlier x.field x.later 0 number x.taken (ap (λ k. judge k x.field) (sym here) ∙ x.wrong)
      ∙ ap (λ k. refused number (offset number k)) (sym here)
      ∙ ap (refused number) (sym x.begins)

  -- none is refused where none is before its place is added, and back
  fine_told : (fs : List Field) (at : ℕ) → in_order judge at fs ≡ fine → in_order told_at at fs ≡ fine
  unfolding in_order
  fine_told [] at e = refl
  fine_told (f ∷ fs) at e =
      let both = also_given (judge at f) (in_order judge (at + width f) fs) e in
      ap₂ (λ j k. also (with_offset at j) k) both.0 (fine_told fs (at + width f) both.1)

  told_fine : (fs : List Field) (at : ℕ) → in_order told_at at fs ≡ fine → in_order judge at fs ≡ fine
  unfolding in_order
  told_fine [] at e = refl
  told_fine (f ∷ fs) at e =
      let both = also_given (told_at at f) (in_order told_at (at + width f) fs) e in
      ap₂ also (with_offset_fine at (judge at f) both.0) (told_fine fs (at + width f) both.1)

-- ---- the calls

-- A sheet in memory is refused exactly for the first field that is not allowed, with the offset that it would have if written.
pub judge_offset : (s : Sheet) (number : ℕ) (values : List ℕ)
    → (judge_of s ≡ refused number values) ↔ FieldRefused (λ at. judged (kind_of (value s)) (value s)) (fields (value s)) number values
unfolding judge_of
judge_offset s number values =
    let judge : ℕ → Field → Judgement = λ at. judged (kind_of (value s)) (value s) in
    let alone : (at : ℕ) (f : Field) → Alone (judge at f) = λ at. judged_alone (kind_of (value s)) (value s) in
    (field_refused judge alone (fields (value s)) number values, refused_field judge alone (fields (value s)) number values)

-- The writer's refusal is the same, or 14 without a value.
pub write_offset : (s : Sheet) (room number : ℕ) (values : List ℕ) → write_of s room ≡ refused number values
    → FieldRefused (λ at. judged (kind_of (value s)) (value s)) (fields (value s)) number values ⊎ ((number ≡ 14) × (values ≡ []))
unfolding write_of
write_offset s room number values e = go (judge_of s) refl e
  where
    small : (b : Bool) → also (when b 14) (given (size_of s)) ≡ refused number values → (number ≡ 14) × (values ≡ [])
    small true h = (cc, cc)
    small false h = refused_given (sym h)

    go : (j : Judgement) → judge_of s ≡ j → also j (also (when (ltb room (size_of s)) 14) (given (size_of s))) ≡ refused number values
        → FieldRefused (λ at. judged (kind_of (value s)) (value s)) (fields (value s)) number values ⊎ ((number ≡ 14) × (values ≡ []))
    go (given u) q h = inr (small (ltb room (size_of s)) h)
    go (refused n vs) q h =
        let same : ◌≡◌ {A = Judgement} (refused n vs) (refused number values) = cc in
        inl ((judge_offset s number values).0 (q ∙ same))

-- What follows the last field.
tail_offset : (bytes : List ℕ) (end number : ℕ) (values : List ℕ) → tail_of bytes end ≡ refused number values → TailRefused bytes end number values
tail_offset bytes end number values e = go (dec_lt wrong (bytes_for end * 8)) (dec_lt (bytes_for end) (length bytes))
  where
    bs : List Bool
    bs = unpack bytes

    pad : ℕ
    pad = bytes_for end * 8 - end

    wrong : ℕ
    wrong = wrong_bit (unpack bytes) end

    with9 : (a b : Bool) → with_value wrong (also (when a 9) (when b 9)) ≡ refused number values → (number ≡ 9) × (values ≡ wrong ∷ [])
    with9 true b h = (cc, cc)
    with9 false true h = (cc, cc)
    with9 false false h = refused_given (sym h)

    told : (number ≡ 9) × (values ≡ wrong ∷ [])
    told = with9 (ltb wrong (bytes_for end * 8)) (ltb (bytes_for end) (length bytes)) e

    there : WrongAt bytes end wrong → TailRefused bytes end number values
    there w =
        record {
          offset = wrong;
          number_is = told.0;
          value_is = told.1;
          past_the_fields = first_one_least bs end pad;
          zeros = first_one_zeros bs end pad;
          wrong = w;
        }

    go : Dec (wrong < bytes_for end * 8) → Dec (bytes_for end < length bytes) → TailRefused bytes end number values
    go (yes a) b = there (inl (a, first_one_is bs end pad (omega arith)))
    go (no a) (yes b) = there (inr (omega (arith, first_one_most bs end pad), b))
    go (no a) (no b) = refused_given (sym e ∙ tail_fine bytes end (omega arith) (omega arith))

offset_tail : (bytes : List ℕ) (end number : ℕ) (values : List ℕ) → TailRefused bytes end number values → tail_of bytes end ≡ refused number values
offset_tail bytes end number values x = go x.wrong ∙ ap (λ k. refused 9 (k ∷ [])) same ∙ ap₂ refused (sym x.number_is) (sym x.value_is)
  where
    pad : ℕ
    pad = bytes_for end * 8 - end

    either : WrongAt bytes end x.offset → ((x.offset < end + pad) × (bit_at bytes x.offset ≡ true)) ⊎ (x.offset ≡ end + pad)
    either (inl (a, b)) = inl (omega arith, b)
    either (inr (a, b)) = inr (omega arith)

    same : wrong_bit (unpack bytes) end ≡ x.offset
    same = first_one_unique (unpack bytes) end pad x.offset x.past_the_fields x.zeros (either x.wrong)

    go : WrongAt bytes end x.offset → tail_of bytes end ≡ refused 9 (wrong_bit (unpack bytes) end ∷ [])
    go (inl (a, b)) = tail_wrong bytes end (omega (arith, same))
    go (inr (a, b)) = tail_longer bytes end b

module _ (bytes : List ℕ) (number : ℕ) (values : List ℕ) where
  abbrev s : Sheet
  s = sheet_of (spelt (unpack bytes))

  abbrev room : ℕ
  room = length bytes * 8

  abbrev judge : ℕ → Field → Judgement
  judge = judged_whole room (value s)

  abbrev fs : List Field
  fs = fields (value s)

  refused_at_lem : read_of bytes ≡ refused number values → ReadRefused bytes number values
  unfolding read_of
  refused_at_lem e = go (in_order (judged_in room (value s)) 0 fs) refl e
    where
      tail : (j : Judgement) → tail_of bytes (end_of s) ≡ j → also j (given s) ≡ refused number values → TailRefused bytes (end_of s) number values
      tail (given u) q h = refused_given (sym h)
      tail (refused n vs) q h =
          let same : ◌≡◌ {A = Judgement} (refused n vs) (refused number values) = cc in
          tail_offset bytes (end_of s) number values (q ∙ same)

      go : (j : Judgement) → in_order (judged_in room (value s)) 0 fs ≡ j → also j (also (tail_of bytes (end_of s)) (given s)) ≡ refused number values
          → FieldRefused judge fs number values ⊎ ((in_order judge 0 fs ≡ fine) × TailRefused bytes (end_of s) number values)
      go (given u) q h = inr (told_fine judge (whole_alone room (value s)) fs 0 q, tail (tail_of bytes (end_of s)) refl h)
      go (refused n vs) q h =
          let same : ◌≡◌ {A = Judgement} (refused n vs) (refused number values) = cc in
          inl (field_refused judge (whole_alone room (value s)) fs number values (q ∙ same))

  at_refused : ReadRefused bytes number values → read_of bytes ≡ refused number values
  unfolding read_of
  at_refused (inl x) = ap (λ j. also j (also (tail_of bytes (end_of s)) (given s))) (refused_field judge (whole_alone room (value s)) fs number values x)
  at_refused (inr (a, x)) =
      ap₂ (λ j t. also j (also t (given s))) (fine_told judge (whole_alone room (value s)) fs 0 a) (offset_tail bytes (end_of s) number values x)

-- Bytes are refused exactly for the first field that they end inside or that is not allowed, or else for what follows the fields.
pub read_offset : (bytes : List ℕ) (number : ℕ) (values : List ℕ) → (read_of bytes ≡ refused number values) ↔ ReadRefused bytes number values
read_offset bytes number values = (refused_at_lem bytes number values, at_refused bytes number values)
