-- What a word, a space and the end of a line do to a reading that goes on.
use Rattle.std.specs.Prelude.{◌≡◌, refl, Bool, true, false, cond, not, List, [], ◌∷◌, ◌++◌, ℕ, ◌≤◌, eqb, length, Ok}
use Rattle.std.proofs.Common.{sym, ap, ap₂, ◌∙◌, arith, ne_eqb}
use Rattle.text.specs.declared.Draft.{Draft}
use Rattle.text.specs.declared.Place.{Place}
use Rattle.text.specs.declared.Place.TheVariants.{Between, Word as InWord, Comment}
use Rattle.text.specs.Words.{ends, word, every, says}
use Rattle.text.specs.Grammar.{step, line_end}
use Rattle.text.specs.Run.{goes_on, place_after, begins, turn, named_at, named, run}

-- A word ends here.
unfoldable pub stops : List ℕ → Bool
stops [] = true
stops (b ∷ bs) = ends b

-- No byte of it ends a word.
abbrev pub Plain : List ℕ → Type 0
Plain w = every (λ b. not (ends b)) w ≡ true

-- The names with this word, where a name is wanted.
abbrev pub kept : List (List ℕ) → Draft → List ℕ → List (List ℕ)
kept names d w = named_at d.want names d.count w

pub plain_parts : (b : ℕ) (w : List ℕ) → Plain (b ∷ w) → (ends b ≡ false) × Plain w
unfolding every
plain_parts b w h = go (ends b) refl h
  where
    go : (t : Bool) → ends b ≡ t → cond (not t) (every (λ x. not (ends x)) w) false ≡ true → (ends b ≡ false) × Plain w
    go true e q = let z : ◌≡◌ {A = ℕ} 0 1 = cc in absurd (omega arith)
    go false e q = (e, q)

pub word_plain : (w rest : List ℕ) → Plain w → stops rest ≡ true → word (w ++ rest) ≡ w
unfolding word stops
word_plain [] [] h s = refl
word_plain [] (b ∷ bs) h s = ap (λ t. cond t [] (b ∷ word bs)) s
word_plain (b ∷ w) rest h s =
    let p = plain_parts b w h in
    ap (λ t. cond t [] (b ∷ word (w ++ rest))) p.0 ∙ ap (λ l. b ∷ l) (word_plain w rest p.1 s)

-- a byte that does not end a word is neither a line's end nor a #
not_end : (b x : ℕ) → ends b ≡ false → ends x ≡ true → eqb b x ≡ false
not_end b x e t = ne_eqb b x (λ q. let z : true ≡ false = sym t ∙ ap ends (sym q) ∙ e in let y : ◌≡◌ {A = ℕ} 0 1 = cc in omega arith)

byte_run : (names ns : List (List ℕ)) (p q : Place) (d e : Draft) (b : ℕ) (l : List ℕ) → turn names p d b (word (b ∷ l)) ≡ Ok e → named names p d b (word (b ∷ l)) ≡ ns
    → place_after p b ≡ q → run names p d (b ∷ l) ≡ run ns q e l
unfolding run
byte_run names ns p q d e b l t n a =
    ap (λ x. goes_on (b ∷ l) x (λ y. run (named names p d b (word (b ∷ l))) (place_after p b) y l)) t
    ∙ ap₂ (λ x y. run x y e l) n a

inside_run : (names : List (List ℕ)) (d : Draft) (w rest : List ℕ) → Plain w → run names InWord d (w ++ rest) ≡ run names InWord d rest
unfolding turn named begins place_after
inside_run names d [] rest h = refl
inside_run names d (b ∷ w) rest h =
    let p = plain_parts b w h in
    byte_run names names InWord InWord d d b (w ++ rest) (ap (λ t. cond t (line_end d) (Ok d)) (not_end b 10 p.0 refl)) refl
    (ap₂ (λ t u. cond t Between (cond u Comment (cond (ends b) Between InWord))) (not_end b 10 p.0 refl) (not_end b 35 p.0 refl) ∙ ap (λ t. cond t Between InWord) p.0)
    ∙ inside_run names d w rest p.1

pub word_run : (names : List (List ℕ)) (d e : Draft) (w rest : List ℕ) → 1 ≤ length w → Plain w → stops rest ≡ true → step (says names d.count w) d ≡ Ok e
    → run names Between d (w ++ rest) ≡ run (kept names d w) InWord e rest
unfolding turn named begins place_after
word_run names d e [] rest l h s q = absurd (omega arith)
word_run names d e (b ∷ w) rest l h s q =
    let p = plain_parts b w h in
    let whole : word ((b ∷ w) ++ rest) ≡ b ∷ w = word_plain (b ∷ w) rest h s in
    byte_run names (kept names d (b ∷ w)) Between InWord d e b (w ++ rest)
    (ap₂ (λ t u. cond t (line_end d) (cond (cond u false true) (step (says names d.count (word (b ∷ (w ++ rest)))) d) (Ok d))) (not_end b 10 p.0 refl) p.0
    ∙ ap (λ x. step (says names d.count x) d) whole ∙ q)
    (ap (λ u. cond (cond u false true) (kept names d (word (b ∷ (w ++ rest)))) names) p.0 ∙ ap (kept names d) whole)
    (ap₂ (λ t u. cond t Between (cond u Comment (cond (ends b) Between InWord))) (not_end b 10 p.0 refl) (not_end b 35 p.0 refl) ∙ ap (λ t. cond t Between InWord) p.0)
    ∙ inside_run (kept names d (b ∷ w)) e w rest p.1

pub space_run : (names : List (List ℕ)) (d : Draft) (rest : List ℕ) → run names InWord d (32 ∷ rest) ≡ run names Between d rest
unfolding turn named begins place_after
space_run names d rest = byte_run names names InWord Between d d 32 rest refl refl refl

pub next_run : (names : List (List ℕ)) (d e : Draft) (w rest : List ℕ) → 1 ≤ length w → Plain w → stops rest ≡ true → step (says names d.count w) d ≡ Ok e
    → run names InWord d (32 ∷ (w ++ rest)) ≡ run (kept names d w) InWord e rest
next_run names d e w rest l h s q = space_run names d (w ++ rest) ∙ word_run names d e w rest l h s q

pub line_run : (names : List (List ℕ)) (d e : Draft) (rest : List ℕ) → line_end d ≡ Ok e → run names InWord d (10 ∷ rest) ≡ run names Between e rest
unfolding turn named begins place_after
line_run names d e rest q = byte_run names names InWord Between d e 10 rest q refl refl
