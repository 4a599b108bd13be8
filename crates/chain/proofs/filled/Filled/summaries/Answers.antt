-- After c turns the first c places hold the summaries of their chains.
use Rattle.std.proofs.Common.{◌≡◌, ◌+◌, ap, ap₂, ◌∙◌, arith, set, ℕ, ℤ, pos, refl, replicate}
use Rattle.bits.specs.Bits.{list_of}
use Rattle.sheet.specs.PlaceLaws.{places_set}
use Rattle.sheet.specs.TaskLaws.{chains_most}
use Rattle.chain.specs.declared.answer.Summary.{Summary}
use Rattle.chain.specs.Calls.{summary_at, no_summary}
use Rattle.chain.proofs.filled.Filled.summaries.Goals as goal

-- Zeros are the blank summary.
zeros : {h j i t r q w b : ℕ} {m : ℤ} → h ≡ 0 → j ≡ 0 → i ≡ 0 → t ≡ 0 → r ≡ 0 → q ≡ 0 → w ≡ 0 → b ≡ 0 → m ≡ pos 0
    → ◌≡◌ {A = Summary} (record { totals = record { hyperperiod = h; jobs = j; idle = i }; sampling = record { ticks = t; release = r }; sampling_bound = q; worst = w; bound = b; margin = m }) no_summary
zeros h j i t r q w b m = rw (h, j, i, t, r, q, w, b, m) refl

pub loop-c-init : goal.loop-c-init
unfolding list_of
loop-c-init c = ap (replicate 8) (let d = c.default-chains.ensures in zeros d.0.0 d.0.1.0 d.0.1.1 d.1.0.0 d.1.0.1 d.1.1.0 d.1.1.1.0 d.1.1.1.1.0 d.1.1.1.1.1)

pub loop-c-preserved : goal.loop-c-preserved
loop-c-preserved c =
    let l = c.loop-c in
    rw c.from.ensures (ap₂ (λ xs x. set xs l.c x) l.invariant c.summary.ensures
    ∙ places_set 8 no_summary (λ k. summary_at c.args.self.now.judged.sheet (k + 1) c.args.totals) l.c (omega (arith, c.chain_count-c-end.ensures, chains_most c.args.self.now.judged.sheet c.args.self.now.judged.sound)))
