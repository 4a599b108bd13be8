-- After i turns the first i places hold R of their tasks, and their rows are split off what is left of the table.
use Rattle.std.proofs.Common.{◌≡◌, List, ℕ, ◌+◌, ◌≤◌, ◌<◌, refl, ap, ap₂, ◌∙◌, length, get_or, take, drop, length-drop, length-take-le, drop-drop, get_or-take, get_or-drop, add-one, arith}
use Rattle.std.proofs.Math.ListN.{set}
use Rattle.bits.specs.Bits.{list_of}
use Rattle.arith.specs.Ranges.{sum, maximum}
use Rattle.arith.specs.RangeLaws.{maximum_eq}
use Rattle.theory.specs.declared.Task.{Task}
use Rattle.theory.specs.Model.Responses.{response, jobs, task_response}
use Rattle.sheet.specs.PlaceLaws.{places_set}
use Rattle.schedule.specs.Taken.{Holds}
use Rattle.schedule.proofs.Tasks.{jobs_within}
use Rattle.schedule.proofs.cycle.Cycle.greatest.Goals as goal

-- The row of task i is the front of what is left after those before it.
module _ {ts : List Task} {table : List ℕ} (holds : Holds ts table) (i : ℕ) (known : i < length ts) {n : ℕ} (size : n ≡ jobs ts i) {left : List ℕ} (e : left ≡ drop (sum i (jobs ts)) table) where
  room : n ≤ length left
  room = omega (arith, ap length e, length-drop (sum i (jobs ts)) table, size, jobs_within ts i known, holds.enough)

  row_greatest : {row : List ℕ} → row ≡ take n left → maximum (length row) (λ k. get_or row k 0) ≡ task_response ts i
  unfolding task_response
  row_greatest {row} q =
      ap (λ m. maximum m (λ k. get_or row k 0)) (ap length q ∙ length-take-le n left room ∙ size)
      ∙ maximum_eq (jobs ts i) (λ k. get_or row k 0) (response ts i) (λ k l. ap (λ xs. get_or xs k 0) q ∙ get_or-take n left k 0 (omega (arith, size))
      ∙ ap (λ xs. get_or xs k 0) e ∙ get_or-drop (sum i (jobs ts)) table k 0 ∙ holds.entry i k known l)

  next : {rest : List ℕ} → rest ≡ drop n left → rest ≡ drop (sum (i + 1) (jobs ts)) table
  unfolding sum
  next q = rw add-one (q ∙ ap₂ drop size e ∙ drop-drop (jobs ts i) (sum i (jobs ts)) table)

pub loop-i-init : goal.loop-i-init
unfolding sum list_of
loop-i-init c = (refl, refl)

pub split_at-requires : goal.split_at-requires
split_at-requires c = room c.requires c.loop-i.i (omega arith) c.jobs_of.ensures c.loop-i.invariant.0

pub loop-i-preserved : goal.loop-i-preserved
loop-i-preserved c =
    let l = c.loop-i in
    let self = c.args.self.now in
    let ts = self.tasks.now in
    let known : l.i < length ts = omega arith in (
      next c.requires l.i known c.jobs_of.ensures l.invariant.0 c.split_at.ensures.back,
      ap₂ (λ x y. set x l.i y) l.invariant.1 (c.greatest.ensures ∙ row_greatest c.requires l.i known c.jobs_of.ensures l.invariant.0 c.split_at.ensures.front)
          ∙ places_set 16 0 (task_response ts) l.i (omega (arith, self.fine.few)),
    )
