-- Of the jobs so far the longest delay is kept with its first; one that is handed over to the job of the last one followed cannot be longer.
use Rattle.std.proofs.Common.{◌≡◌, ℕ, ◌+◌, ◌*◌, List, arith, sym, ap, ◌∙◌, subst}
use Rattle.chain.specs.declared.row.Row.{Row}
use Rattle.chain.specs.declared.row.HandOver.{HandOver}
use Rattle.chain.specs.Paths.{period_in, count_in, delay_in, ahead, FirstHandedOver}
use Rattle.chain.specs.PathLaws.{ahead_few, delay_near, path_none, path_early, path_jobs, path_released}
use Rattle.chain.specs.GreatestLaws.{GreatestTo, greatest_first}
use Rattle.chain.specs.FollowLaws.{same_followed, followed_none, followed_again, followed_longer, followed_shorter}
use Rattle.chain.proofs.path.sampling.Goals.{then-ne+then-ticks-delay, then-ne+else-ticks-delay, else-ne}
use Rattle.chain.proofs.path.sampling.Goals as goal

-- The wait and the rest's delay are the whole delay.
whole : (path rest : List Row) (k : ℕ) (next : HandOver) → rest ≡ ahead path → FirstHandedOver path (ahead path) k next → {left : ℕ} → left ≡ delay_in rest next.job
    → next.wait + left ≡ delay_in path k
whole path rest k next e h q = ap (λ x. next.wait + x) (q ∙ ap (λ r. delay_in r next.job) e) ∙ sym h.delay_is

pub returns-in_default : goal.returns-in_default
returns-in_default c = path_none c.args.path.now c.in_default.len_below c.default.result c.default.ensures

pub loop-k-init : goal.loop-k-init
loop-k-init c = followed_none _ _

pub walk-requires : goal.walk-requires
walk-requires c =
    let path = c.args.path.now in
    let o = c.first_hand_over-next.ensures in
    rw c.onward-rest.ensures
    (omega (arith, o.meets, o.near, ahead_few path c.requires, path_early path c.first-item.result c.in-len1-up.len_at_least c.first-item.is c.loop-k.k (omega arith)))

pub overflow_add-delay : goal.overflow_add-delay
overflow_add-delay c =
    let path = c.args.path.now in
    let all = whole path c.onward-rest.result.now c.loop-k.k c.first_hand_over-next.result c.onward-rest.ensures c.first_hand_over-next.ensures c.walk.ensures in
    omega (arith, all, delay_near path c.loop-k.k, c.requires)

pub loop-k-preserved : goal.loop-k-preserved
loop-k-preserved c =
    let path = c.args.path.now in
    let f = c.loop-k.invariant in
    let o = c.first_hand_over-next.ensures in
    elim c.if-ne.branch [
      | then-ne+then-ticks-delay w ↦
          let all = whole path c.onward-rest.result.now c.loop-k.k c.first_hand_over-next.result c.onward-rest.ensures o w.walk.ensures in
          rw (w.ticks-is ∙ all, w.at-is, w.followed-is) (followed_longer _ _ f o (omega (arith, w.if-ticks-delay.true, all)))
      | then-ne+else-ticks-delay w ↦
          let all = whole path c.onward-rest.result.now c.loop-k.k c.first_hand_over-next.result c.onward-rest.ensures o w.walk.ensures in
          rw (w.ticks-is, w.at-is, w.followed-is) (followed_shorter _ _ f o (omega (arith, w.if-ticks-delay.false, all)))
      | else-ne w ↦ rw (w.ticks-is, w.at-is, w.followed-is) (followed_again _ _ f o (same_followed _ _ (sym c.ne.ensures ∙ w.if-ne.false)))
    ]

pub returns : goal.returns
returns c =
    let path = c.args.path.now in
    let first = c.first-item.result in
    let l = c.loop-k in
    let n : count_in path ≡ l.k = path_jobs path first c.in-len1-up.len_at_least c.first-item.is ∙ omega arith in
    let all : GreatestTo (delay_in path) (count_in path) l.ticks l.at = subst (λ k. GreatestTo (delay_in path) k l.ticks l.at) (sym n) l.invariant.greatest in
    record {
      ticks_is = all.is_greatest;
      release_is =
          ap (λ T. l.at * T) (sym (path_released path first c.in-len1-up.len_at_least c.first-item.is))
          ∙ ap (λ at. at * period_in path) (sym (greatest_first (delay_in path) (count_in path) l.ticks l.at all (omega (arith, path_jobs path first c.in-len1-up.len_at_least c.first-item.is, first.some))));
    }
