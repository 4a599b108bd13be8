-- Sheets of document 01, by evaluation of the backlog: Trio, Radio and Quartet with their figures and rows of responses, and one that is late.
use Rattle.std.specs.Prelude.{◌≡◌, refl, List, [], ◌∷◌, ℕ, T, ltb, eqb, length}
use Rattle.std.proofs.Common.{◌∙◌, arith, ltb→lt, eqb→eq}
use Rattle.std.proofs.Math.Bool.{decide}
use Rattle.theory.specs.declared.Task.{Task}
use Rattle.arith.specs.Ranges.{sum, maximum}
use Rattle.theory.specs.Model.Responses.{LateTask, hyperperiod, jobs, all_jobs, idle_ticks, Accepted}
use Rattle.theory.proofs.Analysis.Idle.{idle_adds_up}
use Rattle.theory.specs.Analysis.Evaluation.{Row}
use Rattle.theory.proofs.Analysis.Evaluation.{delay_clearing, chain?, sampling_clearing, sampling_release_clearing, bound_clearing, decided, proper?, clears?, clears_accepted, row?, cleared_row}
use Rattle.theory.specs.Model.Chain.{delay, sampling, sampling_release, bound}
use Rattle.theory.specs.Analysis.Clearing.{clearing}
use Rattle.theory.proofs.Analysis.Clearing.{clearing_late}
use Rattle.theory.specs.Results.Examples.{trio, radio, quartet, crowded, Figures, radio_delay}

-- Accepted, or late

accepted : (ts : List Task) → T (decide (proper? ts)) → T (decide (clears? ts)) → Accepted ts
accepted ts good clears = clears_accepted (decided (proper? ts) good) (decided (clears? ts) clears)

pub trio_accepted : Accepted trio
unfolding decide proper? clears?
trio_accepted = accepted trio tt tt

pub radio_accepted : Accepted radio
unfolding decide proper? clears?
radio_accepted = accepted radio tt tt

pub quartet_accepted : Accepted quartet
unfolding decide proper? clears?
quartet_accepted = accepted quartet tt tt

pub crowded_late : LateTask crowded 1
unfolding decide proper? clearing hyperperiod
crowded_late = (0, omega arith, clearing_late (decided (proper? crowded) tt) 1 0 (omega arith) (omega arith))

-- Hyperperiod, jobs and idle ticks

pub trio_figures : (hyperperiod trio ≡ 8) × (all_jobs trio ≡ 7) × (idle_ticks trio ≡ 1)
unfolding hyperperiod all_jobs sum
trio_figures = (refl, refl, omega (arith, idle_adds_up trio_accepted))

pub radio_figures : (hyperperiod radio ≡ 60) × (all_jobs radio ≡ 18) × (idle_ticks radio ≡ 20)
unfolding hyperperiod all_jobs sum
radio_figures = (refl, refl, omega (arith, idle_adds_up radio_accepted))

pub quartet_figures : (hyperperiod quartet ≡ 6) × (all_jobs quartet ≡ 5) × (idle_ticks quartet ≡ 1)
unfolding hyperperiod all_jobs sum
quartet_figures = (refl, refl, omega (arith, idle_adds_up quartet_accepted))

-- Rows

row : {ts : List Task} → Accepted ts → (i : ℕ) (xs : List ℕ) → T (ltb i (length ts)) → T (eqb (length xs) (jobs ts i))
    → T (decide (row? ts i xs)) → Row ts i xs
row {ts} ok i xs known whole each =
    cleared_row ok.proper i xs (ltb→lt i (length ts) known) (eqb→eq (length xs) (jobs ts i) whole) (decided (row? ts i xs) each)

pub trio_rows : Row trio 0 (4 ∷ []) × Row trio 1 (1 ∷ 1 ∷ 1 ∷ 1 ∷ []) × Row trio 2 (2 ∷ 2 ∷ [])
unfolding decide row? hyperperiod
trio_rows = (row trio_accepted 0 _ tt tt tt, row trio_accepted 1 _ tt tt tt, row trio_accepted 2 _ tt tt tt)

pub radio_rows : Row radio 0 (10 ∷ 9 ∷ 6 ∷ []) × Row radio 1 (1 ∷ 1 ∷ 1 ∷ 1 ∷ 1 ∷ 1 ∷ 1 ∷ 1 ∷ 1 ∷ 1 ∷ []) × Row radio 2 (4 ∷ 4 ∷ 4 ∷ 4 ∷ 4 ∷ [])
unfolding decide row? hyperperiod
radio_rows = (row radio_accepted 0 _ tt tt tt, row radio_accepted 1 _ tt tt tt, row radio_accepted 2 _ tt tt tt)

pub quartet_rows : Row quartet 0 (1 ∷ []) × Row quartet 1 (2 ∷ []) × Row quartet 2 (3 ∷ 1 ∷ []) × Row quartet 3 (5 ∷ [])
unfolding decide row? hyperperiod
quartet_rows =
    (row quartet_accepted 0 _ tt tt tt, row quartet_accepted 1 _ tt tt tt, row quartet_accepted 2 _ tt tt tt, row quartet_accepted 3 _ tt tt tt)

-- The sampling figure, its release and the quick bound of a chain

figures : {ts : List Task} → Accepted ts → (p : ℕ) (rest : List ℕ) → T (decide (chain? ts p rest)) → {figure release quick : ℕ}
    → sampling ts (clearing ts) p rest ≡ figure → sampling_release ts (clearing ts) p rest ≡ release
    → bound ts (λ i. maximum (jobs ts i) (clearing ts i)) p rest ≡ quick
    → Figures ts p rest figure release quick
figures {ts} ok p rest chain w r b = record {
  is_sampling = sampling_clearing ok.proper p rest (decided (chain? ts p rest) chain) ∙ w;
  is_release = sampling_release_clearing ok.proper p rest (decided (chain? ts p rest) chain) ∙ r;
  is_bound = bound_clearing ok.proper p rest (decided (chain? ts p rest) chain) ∙ b;
}

pub trio_chain : Figures trio 0 (1 ∷ 2 ∷ []) 6 0 8
unfolding decide chain? sampling sampling_release bound clearing
trio_chain = figures trio_accepted 0 (1 ∷ 2 ∷ []) tt refl refl refl

pub radio_chain : Figures radio 0 (1 ∷ 2 ∷ []) 20 20 24
unfolding decide chain? sampling sampling_release bound clearing
radio_chain = figures radio_accepted 0 (1 ∷ 2 ∷ []) tt refl refl refl

pub radio_short_chain : Figures radio 0 (1 ∷ []) 13 0 15
unfolding decide chain? sampling sampling_release bound clearing
radio_short_chain = figures radio_accepted 0 (1 ∷ []) tt refl refl refl

pub quartet_chain : Figures quartet 2 (3 ∷ []) 8 3 8
unfolding decide chain? sampling sampling_release bound clearing
quartet_chain = figures quartet_accepted 2 (3 ∷ []) tt refl refl refl

pub radio_delays : (radio_delay 0 ≡ 16) × (radio_delay 20 ≡ 20) × (radio_delay 40 ≡ 12)
unfolding decide chain? delay clearing
radio_delays = (walk 0, walk 20, walk 40)
  where
    walk : (r : ℕ) → radio_delay r ≡ delay radio (clearing radio) 0 (1 ∷ 2 ∷ []) r
    walk = delay_clearing radio_accepted.proper 0 (1 ∷ 2 ∷ []) (decided (chain? radio 0 (1 ∷ 2 ∷ [])) tt)
