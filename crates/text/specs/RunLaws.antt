-- Laws of the reading, byte by byte: what is left of a text gives the whole.
use Rattle.std.specs.Prelude.{◌≡◌, refl, Bool, true, false, List, [], eqb, length, get_or, take, drop, Result, Ok, Err}
use Rattle.std.proofs.Common.{sym, ◌∙◌, arith, length-drop, drop-cons, drop_of_length-le, take_all, eq-eqb, ne_eqb}
use Rattle.std.proofs.Math.Path.{ap, ap₂}
use Rattle.std.proofs.Math.Bool.{cond}
use Rattle.std.proofs.lemmas.Bool.{false≢true}
use Prim.Native.Nat.{ℕ, suc, ◌+◌, ◌-◌, ◌≤◌, ◌<◌}
use Rattle.text.specs.declared.Wrong.{Wrong}
use Rattle.text.specs.declared.Fault.{Fault}
use Rattle.text.specs.declared.Draft.{Draft}
use Rattle.text.specs.declared.Place.{Place}
use Rattle.text.specs.Words.{word}
use Rattle.text.specs.Grammar.{text_end}
use Rattle.text.specs.Conditions.{passes}
use Rattle.text.specs.Run.{Stop, placed, goes_on, place_after, begins, turn, named, run, line_after, column_after, faulty, located}

-- what a byte leads to
abbrev led : List (List ℕ) → Place → Draft → ℕ → List ℕ → List ℕ → Result Draft Stop
led names p d b l rest = goes_on l (turn names p d b (word l)) (λ e. run (named names p d b (word l)) (place_after p b) e rest)

module _ (names : List (List ℕ)) (p : Place) (d : Draft) (text : List ℕ) (at : ℕ) (rest : List ℕ) (h : at < length text) (are : rest ≡ drop at text) where
  run_at : run names p d (drop at text) ≡ led names p d (get_or text at 0) rest (drop (at + 1) text)
  unfolding run
  run_at =
      ap (run names p d) (drop-cons text at 0 h)
      ∙ ap₂ (λ l k. led names p d (get_or text at 0) l (drop k text)) {u = suc at} {v = at + 1} (sym (drop-cons text at 0 h) ∙ sym are) (omega arith)

  located_at : (wrong : Wrong) → located text (Err (record { wrong = wrong; rest = rest })) ≡ Err (faulty wrong (take at text))
  located_at wrong = ap (λ k. Err (faulty wrong (take k text))) {x = length text - length rest} {y = at} (omega (arith, length-drop at text, ap length are))

  led_by : Result Draft Wrong → Result Draft Stop
  led_by r = goes_on rest r (λ e. run (named names p d (get_or text at 0) (word rest)) (place_after p (get_or text at 0)) e (drop (at + 1) text))

  pub run_stops : (wrong : Wrong) → turn names p d (get_or text at 0) (word rest) ≡ Err wrong → run names p d (drop at text) ≡ Err (record { wrong = wrong; rest = rest })
  unfolding led_by
  run_stops wrong q = run_at ∙ ap led_by q

  pub run_stop : (r : Result Draft Wrong) (fault : Fault) → r ≡ turn names p d (get_or text at 0) (word rest) → placed (take at text) r ≡ Err fault
      → located text (run names p d (drop at text)) ≡ Err fault
  run_stop (Ok e) fault q s = cc
  run_stop (Err wrong) fault q s = ap (located text) (run_stops wrong (sym q)) ∙ located_at wrong ∙ s

  pub run_on : (r : Result Draft Wrong) (e : Draft) → r ≡ turn names p d (get_or text at 0) (word rest) → placed (take at text) r ≡ Ok e
      → run names p d (drop at text) ≡ run (named names p d (get_or text at 0) (word rest)) (place_after p (get_or text at 0)) e (drop (at + 1) text)
  unfolding led_by
  run_on (Ok x) e q s = run_at ∙ ap led_by (sym q) ∙ ap (λ y. run (named names p d (get_or text at 0) (word rest)) (place_after p (get_or text at 0)) y (drop (at + 1) text)) (same s)
    where
      same : ◌≡◌ {A = Result Draft Fault} (Ok x) (Ok e) → x ≡ e
      same z = cc
  run_on (Err wrong) e q s = cc

  -- A byte that is passed over.
  pub run_past : passes p (get_or text at 0) ≡ true → run names p d (drop at text) ≡ run names (place_after p (get_or text at 0)) d (drop (at + 1) text)
  unfolding passes turn named
  run_past e = go (eqb b 10) (begins p b) refl refl e
    where
      b : ℕ
      b = get_or text at 0

      go : (x y : Bool) → eqb b 10 ≡ x → begins p b ≡ y → cond x false (cond y false true) ≡ true → run names p d (drop at text) ≡ run names (place_after p b) d (drop (at + 1) text)
      go false false f g h = run_on (Ok d) d (rw (f, g) refl) refl ∙ ap (λ t. run t (place_after p b) d (drop (at + 1) text)) (rw g refl)
      go false true f g h = absurd (false≢true h)
      go true y f g h = absurd (false≢true h)

-- ---- lines and columns

pub line_on : (l : List ℕ) (i line : ℕ) → i < length l → line_after line (drop i l) ≡ line_after (cond (eqb (get_or l i 0) 10) (line + 1) line) (drop (i + 1) l)
unfolding line_after
line_on l i line h =
    ap (line_after line) (drop-cons l i 0 h) ∙ ap (λ k. line_after (cond (eqb (get_or l i 0) 10) (line + 1) line) (drop k l)) {x = suc i} {y = i + 1} (omega arith)

pub column_on : (l : List ℕ) (i column : ℕ) → i < length l → column_after column (drop i l) ≡ column_after (cond (eqb (get_or l i 0) 10) 1 (column + 1)) (drop (i + 1) l)
unfolding column_after
column_on l i column h =
    ap (column_after column) (drop-cons l i 0 h) ∙ ap (λ k. column_after (cond (eqb (get_or l i 0) 10) 1 (column + 1)) (drop k l)) {x = suc i} {y = i + 1} (omega arith)

-- a byte that ends the line, and any other
module _ (l : List ℕ) (i x y : ℕ) (h : i < length l) where
  pub line_ends : get_or l i 0 ≡ 10 → y ≡ x + 1 → line_after x (drop i l) ≡ line_after y (drop (i + 1) l)
  line_ends e q = line_on l i x h ∙ ap₂ (λ t z. line_after (cond t z x) (drop (i + 1) l)) (eq-eqb (get_or l i 0) 10 e) (sym q)

  pub line_stays : (get_or l i 0 ≡ 10 → ⊥) → y ≡ x → line_after x (drop i l) ≡ line_after y (drop (i + 1) l)
  line_stays e q = line_on l i x h ∙ ap₂ (λ t z. line_after (cond t (x + 1) z) (drop (i + 1) l)) (ne_eqb (get_or l i 0) 10 e) (sym q)

  pub column_ends : get_or l i 0 ≡ 10 → y ≡ 1 → column_after x (drop i l) ≡ column_after y (drop (i + 1) l)
  column_ends e q = column_on l i x h ∙ ap₂ (λ t z. column_after (cond t z (x + 1)) (drop (i + 1) l)) (eq-eqb (get_or l i 0) 10 e) (sym q)

  pub column_stays : (get_or l i 0 ≡ 10 → ⊥) → y ≡ x + 1 → column_after x (drop i l) ≡ column_after y (drop (i + 1) l)
  column_stays e q = column_on l i x h ∙ ap₂ (λ t z. column_after (cond t 1 z) (drop (i + 1) l)) (ne_eqb (get_or l i 0) 10 e) (sym q)

pub line_none : (l : List ℕ) (i line : ℕ) → length l ≤ i → line_after line (drop i l) ≡ line
unfolding line_after
line_none l i line h = ap (line_after line) (drop_of_length-le l h)

pub column_none : (l : List ℕ) (i column : ℕ) → length l ≤ i → column_after column (drop i l) ≡ column
unfolding column_after
column_none l i column h = ap (column_after column) (drop_of_length-le l h)

-- ---- the end

pub run_end : (names : List (List ℕ)) (p : Place) (d : Draft) (text : List ℕ) (at : ℕ) → length text ≤ at → located text (run names p d (drop at text)) ≡ placed text (text_end d)
unfolding run
run_end names p d text at h = ap (λ l. located text (run names p d l)) (drop_of_length-le text h) ∙ go (text_end d)
  where
    go : (r : Result Draft Wrong) → located text (goes_on [] r (λ e. Ok e)) ≡ placed text r
    go (Ok e) = refl
    go (Err wrong) = ap (λ l. Err (faulty wrong l)) (take_all (length text - 0) text (omega arith))
