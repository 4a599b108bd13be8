-- The readings at the places of the chain.
use Rattle.std.proofs.Common.{◌≡◌, ◌≢◌, refl, ap, ◌∙◌, sym, subst, arith, List, [], ◌∷◌, ℕ, ◌+◌, ◌≤◌, ◌<◌, cond, eqb, le-leb, eq-eqb, ne_eqb, le_refl, length, get_or, set, get_or-set_same, get_or-set_other, add-one}
use native.Mathlib.Decide.{ℕ_discrete}
use Rattle.sheet.specs.Tasks.{first_of, rest_of}
use Rattle.night.specs.declared.state.Place.{Place}
use Rattle.night.specs.Follow.{stands, ready}
use Rattle.night.specs.Conditions.{unused, read_in, written_in}
use Rattle.night.proofs.Laws.{field_kept}

-- The task stands at a place exactly where the chain's entry is the task.
pub stands_at : (chain : List ℕ) (task q : ℕ) → q < length chain → stands (first_of chain) (rest_of chain) task q ≡ eqb (get_or chain q 0) task
stands_at [] task q l = absurd (omega arith)
stands_at (x ∷ xs) task q l = rw (le-leb q (length xs) (omega arith))

-- A sweep over the places: below q they are new where the task stands, from q on as they were.
pub record Swept (chain : List ℕ) (task : ℕ) (new old xs : ℕ → ℕ) (q : ℕ) : Type 0 where
  pub below : (j : ℕ) → j < q → xs j ≡ cond (stands (first_of chain) (rest_of chain) task j) (new j) (old j)
  pub above : (j : ℕ) → q ≤ j → xs j ≡ old j

-- One place more.
pub swept_next : (chain : List ℕ) (task : ℕ) (new old xs ys : ℕ → ℕ) (q : ℕ) → q < length chain → Swept chain task new old xs q
    → ys q ≡ cond (eqb (get_or chain q 0) task) (new q) (old q) → ((j : ℕ) → j ≢ q → ys j ≡ xs j) → Swept chain task new old ys (q + 1)
swept_next chain task new old xs ys q l s here other = record {
  below = λ j m. go j m (ℕ_discrete j q);
  above = λ j m. other j (λ e. omega arith) ∙ s.above j (omega arith);
}
  where
    go : (j : ℕ) → j < q + 1 → Dec (j ≡ q) → ys j ≡ cond (stands (first_of chain) (rest_of chain) task j) (new j) (old j)
    go j m (yes e) =
        subst (λ j. ys j ≡ cond (stands (first_of chain) (rest_of chain) task j) (new j) (old j)) (sym e)
        (here ∙ ap (λ b. cond b (new q) (old q)) (sym (stands_at chain task q l)))
    go j m (no e) = other j e ∙ s.below j (omega arith)

-- What is ready at the next place is what was written at this one.
pub ready_next : (writes xs : ℕ → ℕ) (q : ℕ) → ((j : ℕ) → xs j ≡ writes j) → xs q ≡ ready writes (q + 1)
ready_next writes xs q h = rw add-one (h q)

module _ (chain : List ℕ) (task : ℕ) (was now : List Place) (q next : ℕ) (whole : length now ≡ 16) (most : length chain ≤ 16) (l : q < length chain)
    (swept : Swept chain task (ready (written_in was)) (read_in was) (read_in now) q) (same : (j : ℕ) → written_in now j ≡ written_in was j) where
  abbrev more : List Place
  more = set now q (record { read = next; written = written_in now q })

  -- Where the task stands it reads,
  pub reads_here : next ≡ ready (written_in was) q → get_or chain q 0 ≡ task → Swept chain task (ready (written_in was)) (read_in was) (read_in more) (q + 1)
  reads_here e h =
      swept_next chain task (ready (written_in was)) (read_in was) (read_in now) (read_in more) q l swept
      (ap (λ (p : Place). p.read) (get_or-set_same now q (record { read = next; written = written_in now q }) unused (omega arith)) ∙ e
      ∙ ap (λ b. cond b (ready (written_in was) q) (read_in was q)) (sym (eq-eqb (get_or chain q 0) task h)))
      (λ j n. ap (λ (p : Place). p.read) (get_or-set_other now q j (record { read = next; written = written_in now q }) unused n))

  pub writes_same : (j : ℕ) → written_in more j ≡ written_in was j
  writes_same j = ap (λ (f : ℕ → ℕ). f j) (field_kept (λ (p : Place). p.written) unused now q (record { read = next; written = written_in now q }) (omega arith) refl) ∙ same j

  -- and elsewhere nothing changes.
  pub reads_past : get_or chain q 0 ≢ task → Swept chain task (ready (written_in was)) (read_in was) (read_in now) (q + 1)
  reads_past h =
      swept_next chain task (ready (written_in was)) (read_in was) (read_in now) (read_in now) q l swept
      (swept.above q (le_refl q) ∙ ap (λ b. cond b (ready (written_in was) q) (read_in was q)) (sym (ne_eqb (get_or chain q 0) task h)))
      (λ j n. refl)
