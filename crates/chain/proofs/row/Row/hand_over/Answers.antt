-- The division rounds up to the first job released at or after the tick at which the reading is ready, so that its release is the next release.
use Rattle.std.proofs.Common.{◌≡◌, cond, ◌+◌, ◌-◌, ◌*◌, sym, ap, ◌∙◌, lt-ltb, le-ltb}
use Rattle.std.proofs.Math.Nat.{dvd-mul_left}
use Rattle.std.proofs.lemmas.Grind.{div_ceil_times}
use Rattle.arith.specs.Whole.{up}
use Rattle.arith.specs.WholeLaws.{up_is}
use Rattle.chain.specs.Paths.{response_in, waits_in, next_in}
use Rattle.chain.proofs.row.Row.hand_over.Goals.{then-self-next, else-self-next}
use Rattle.chain.proofs.row.Row.hand_over.Goals as goal

pub returns : goal.returns
returns c =
    let p = c.args.self.now in
    let n = c.args.next.now in
    let release = c.args.k * p.task.period in
    let T = n.task.period in
    -- The reading is ready at the producer's finish where the consumer outranks it, and at its release otherwise.
    let ready_is : c.if-self-next.ready ≡ cond (waits_in p n) (release + response_in p c.args.k) release =
    elim c.if-self-next.branch [
      | then-self-next w ↦ rw (lt-ltb _ _ w.if-self-next.true) (w.ready-is ∙ ap (λ x. release + x) w.response.ensures)
      | else-self-next w ↦ rw (le-ltb _ _ w.if-self-next.false) w.ready-is
    ] in
    let near = div_ceil_times c.if-self-next.ready T n.period_positive in
    let next_is : c.div_ceil-job.result * T ≡ next_in p n c.args.k =
    ap (λ j. j * T) c.div_ceil-job.ensures ∙ sym (up_is T (dvd-mul_left T _) near.0 near.1) ∙ ap (up T) ready_is in
    record { job_is = next_is; wait_is = ap (λ x. x - release) next_is }
