-- A longer path takes the wait for the next release, and then the delay of the rest from there.
use Rattle.std.proofs.Common.{◌+◌, ◌-◌, ℕ, length, take, drop, arith, sym, ap, ◌∙◌, length-drop}
use Rattle.chain.specs.Paths.{FirstHandedOver}
use Rattle.chain.specs.PathLaws.{handed_rest, rest_part, delay_near}
use Rattle.chain.proofs.path.+walk.Goals.{After-hand_over-next}
use Rattle.chain.proofs.path.+walk.Goals as goal

handed : {t : ℕ} (c : After-hand_over-next t) → FirstHandedOver c.args.path.now (take (length c.args.path.now - 1) (drop 1 c.args.path.now)) c.args.k c.hand_over-next.result
handed c = handed_rest c.args.path.now c.args.k c.hand_over-next.result c.row-item.result c.index-rest-0.result (omega arith) c.row-item.is c.index-rest-0.is c.hand_over-next.ensures

pub walk-requires : goal.walk-requires
walk-requires t c =
    let path = c.args.path.now in
    let next = handed c in
    (omega (arith, length-drop 1 path, ap length (rest_part path)), omega (arith, next.meets, next.near, length-drop 1 path, ap length (rest_part path)))

pub overflow_add-result : goal.overflow_add-result
overflow_add-result t c =
    let path = c.args.path.now in
    let next = handed (goal.at.overflow_add-result t c).After-hand_over-next in
    omega (arith, c.requires, next.near, c.walk.ensures, delay_near (take (length path - 1) (drop 1 path)) c.hand_over-next.result.job, length-drop 1 path, ap length (rest_part path))

pub returns-in-len1-up : goal.returns-in-len1-up
returns-in-len1-up t c =
    let next = handed (goal.at.returns-in-len1-up t c).After-hand_over-next in
    ap (λ x. c.hand_over-next.result.wait + x) c.walk.ensures ∙ sym next.delay_is
