-- Laws of the places: sixteen of tasks and of entries, eight of chains.
use Rattle.std.specs.Prelude.{◌≡◌, refl, ◌≢◌, Bool, true, false, cond, List, ℕ, ◌+◌, ◌<◌, min, ltb, length, get_or, set}
use Rattle.std.proofs.Common.{sym, ap, ◌∙◌, subst, arith, length-set, ext_get_or, get_or-set_same, get_or-set_other, lt-ltb, le-ltb}
use Rattle.std.proofs.Math.Decide.{ℕ_discrete, dec_lt}
use Rattle.std.proofs.Math.ListN.{get_or-eq_default}
use Rattle.bits.specs.Bits.{list_of}
use Rattle.bits.specs.Lists.{length_list_of, get_d_list_of, list_of_same}
use Rattle.std.specs.Array.{AllOfLen}
use Rattle.theory.specs.declared.Task.{Task}
use Rattle.theory.specs.Model.Schedule.{none}
use Rattle.sheet.specs.declared.Chain.{Chain}
use Rattle.sheet.specs.Calls.{places, unused}

module _ {A : Type 0} (room : ℕ) (blank : A) (f : ℕ → A) where
  pub length_places : (k : ℕ) → length (places room blank k f) ≡ room
  length_places k = length_list_of room (λ i. cond (ltb i k) (f i) blank)

  get_d_places : (k i : ℕ) (d : A) → i < room → get_or (places room blank k f) i d ≡ cond (ltb i k) (f i) blank
  get_d_places k i d h = get_d_list_of room (λ j. cond (ltb j k) (f j) blank) i d h

  -- a place that is taken
  pub places_taken : (k : ℕ) (d : A) (i : ℕ) → i < k → i < room → get_or (places room blank k f) i d ≡ f i
  places_taken k d i h g = get_d_places k i d g ∙ ap (λ b. cond b (f i) blank) (lt-ltb i k h)

  -- what holds of a blank and of every f i, holds in every place
  pub places_every : (P : A → Type 0) (k : ℕ) → P blank → ((i : ℕ) → P (f i)) → (i : ℕ) → P (get_or (places room blank k f) i blank)
  places_every P k b h i = go (dec_lt i room)
    where
      either : (t : Bool) → P (cond t (f i) blank)
      either true = h i
      either false = b

      go : Dec (i < room) → P (get_or (places room blank k f) i blank)
      go (yes l) = subst P (sym (get_d_places k i blank l)) (either (ltb i k))
      go (no l) = subst P (sym (get_or-eq_default (places room blank k f) blank (omega (arith, length_places k)))) b

  -- one more is taken
  pub places_set : (k : ℕ) → k < room → set (places room blank k f) k (f k) ≡ places room blank (k + 1) f
  places_set k h =
      ext_get_or blank (set (places room blank k f) k (f k)) (places room blank (k + 1) f) (length-set (places room blank k f) k (f k) ∙ length_places k ∙ sym (length_places (k + 1)))
      (λ i g. at i (omega (arith, length-set (places room blank k f) k (f k), length_places k)) (ℕ_discrete i k))
    where
      same : (i : ℕ) → i ≢ k → ltb i k ≡ ltb i (k + 1)
      same i q = go (dec_lt i k)
        where
          go : Dec (i < k) → ltb i k ≡ ltb i (k + 1)
          go (yes l) = lt-ltb i k l ∙ sym (lt-ltb i (k + 1) (omega arith))
          go (no l) = le-ltb i k (omega arith) ∙ sym (le-ltb i (k + 1) (omega arith))

      at : (i : ℕ) → i < room → Dec (i ≡ k) → get_or (set (places room blank k f) k (f k)) i blank ≡ get_or (places room blank (k + 1) f) i blank
      at i g (yes e) =
          ap (λ j. get_or (set (places room blank k f) k (f k)) j blank) e
          ∙ get_or-set_same (places room blank k f) k (f k) blank (omega (arith, length_places k))
          ∙ sym (ap (λ j. get_or (places room blank (k + 1) f) j blank) e ∙ places_taken (k + 1) blank k (omega arith) h)
      at i g (no e) =
          get_or-set_other (places room blank k f) k i (f k) blank e ∙ get_d_places k i blank g
          ∙ ap (λ b. cond b (f i) blank) (same i e) ∙ sym (get_d_places (k + 1) i blank g)

  -- no more than there are
  pub places_most : (k : ℕ) → places room blank (min k room) f ≡ places room blank k f
  places_most k = list_of_same room (λ i. cond (ltb i (min k room)) (f i) blank) (λ i. cond (ltb i k) (f i) blank) (λ i h. ap (λ b. cond b (f i) blank) (go i h (dec_lt i k)))
    where
      go : (i : ℕ) → i < room → Dec (i < k) → ltb i (min k room) ≡ ltb i k
      go i h (yes l) = lt-ltb i (min k room) (omega arith) ∙ sym (lt-ltb i k l)
      go i h (no l) = le-ltb i (min k room) (omega arith) ∙ sym (le-ltb i k (omega arith))

pub places_same : {A : Type 0} (room : ℕ) (blank : A) (k : ℕ) (f g : ℕ → A) → ((i : ℕ) → i < k → i < room → f i ≡ g i) → places room blank k f ≡ places room blank k g
places_same room blank k f g h = list_of_same room (λ i. cond (ltb i k) (f i) blank) (λ i. cond (ltb i k) (g i) blank) (λ i l. go i l (dec_lt i k))
  where
    go : (i : ℕ) → i < room → Dec (i < k) → cond (ltb i k) (f i) blank ≡ cond (ltb i k) (g i) blank
    go i l (yes q) = ap (λ x. cond (ltb i k) x blank) (h i q l)
    go i l (no q) = ap (λ b. cond b (f i) blank) (le-ltb i k (omega arith)) ∙ sym (ap (λ b. cond b (g i) blank) (le-ltb i k (omega arith)))

-- none is taken of none
pub places_none : {A : Type 0} (room : ℕ) (blank : A) (f : ℕ → A) → places room blank 0 f ≡ list_of room (λ i. blank)
places_none room blank f = list_of_same room (λ i. cond (ltb i 0) (f i) blank) (λ i. blank) (λ i h. ap (λ b. cond b (f i) blank) (le-ltb i 0 (omega arith)))

-- ---- what derived blanks are

pub task_none : (t : Task) → t.period ≡ 0 → t.budget ≡ 0 → t.rank ≡ 0 → t ≡ none
task_none t a b c = λ i. record { period = a i; budget = b i; rank = c i }

entries_none : (xs : List ℕ) → AllOfLen (λ x. x ≡ 0) xs 16 → xs ≡ places 16 0 0 (λ i. 0)
entries_none xs h =
    ext_get_or 0 xs (places 16 0 0 (λ i. 0)) (h.long ∙ sym (length_places 16 0 (λ i. 0) 0))
    (λ i l. h.at i 0 (omega (arith, h.long)) ∙ sym (places_every 16 0 (λ i. 0) (λ x. x ≡ 0) 0 refl (λ i. refl) i))

pub chain_unused : (x : Chain) → AllOfLen (λ x. x ≡ 0) x.entries 16 → x.length ≡ 0 → x.limit ≡ 0 → x ≡ unused
chain_unused x a b c = let e = entries_none x.entries a in λ i. record { entries = e i; length = b i; limit = c i }
