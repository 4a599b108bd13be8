-- After c turns the first c places hold the bounds of their chains.
use Rattle.std.proofs.Common.{◌≡◌, sym, ap, ap₂, ◌∙◌, ℕ, ◌+◌, ◌-◌, get_or, replicate, slice_set, subst, arith}
use Rattle.bits.specs.Bits.{list_of}
use Rattle.sheet.specs.declared.Sheet.{Sheet}
use Rattle.sheet.specs.Fields.{idle}
use Rattle.sheet.specs.PlaceLaws.{places_set}
use Rattle.sheet.specs.Tasks.{tasks_of, chain_at, chain_of, entries_of}
use Rattle.sheet.specs.TaskLaws.{chains_most, number_known}
use Rattle.recurrence.specs.Calls.{bounds_of, no_bounds}
use Rattle.recurrence.specs.Conditions.{ChainIn}
use Rattle.recurrence.specs.BoundLaws.{chain_in}
use Rattle.recurrence.proofs.Responses.each_bounds.Goals as goal

-- Chain c + 1 stands in place c.
place_is : (s : Sheet) (c : ℕ) → chain_at s (c + 1) ≡ get_or s.chains c idle
place_is s c = ap (λ n. get_or s.chains n idle) {x = c + 1 - 1} {y = c} (omega arith)

pub loop-c-init : goal.loop-c-init
unfolding list_of
loop-c-init c =
    ap (replicate 8) (ap₂ (λ b f. record { sampling_bound = b; bound = f }) c.default-chains.ensures.0 c.default-chains.ensures.1)

pub bounds_of-requires : goal.bounds_of-requires
bounds_of-requires c =
    let s = c.args.self.now.judged in
    let at = c.loop-c.c in
    subst (ChainIn s.sheet) (place_is s.sheet at)
    (chain_in s.sound (at + 1) (number_known s.sheet (at + 1) (omega arith) (omega (arith, c.loop-c-test.true, c.chain_count.ensures, c.from-n.ensures))))

pub loop-c-preserved : goal.loop-c-preserved
loop-c-preserved c =
    let l = c.loop-c in
    let s = c.args.self.now.judged.sheet in
    ap₂ (λ xs x. slice_set xs l.c x) l.invariant (c.bounds_of.ensures ∙ ap (λ chain. bounds_of (tasks_of s) (entries_of chain)) (sym (place_is s l.c)))
    ∙ places_set 8 no_bounds (λ c. bounds_of (tasks_of s) (chain_of s (c + 1))) l.c (omega (arith, c.chain_count.ensures, c.from-n.ensures, chains_most s c.args.self.now.judged.sound))
