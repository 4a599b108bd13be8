-- Each turn judges one record more, and what is expected of each task and the time so far are those of the records before.
use Rattle.std.proofs.Common.{arith, rules}
use Rattle.bits.specs.Bits.{unpack}
use Rattle.bits.specs.Laws.{number_lt}
use Rattle.clocklog.specs.Format.{begin}
use Rattle.clocklog.proofs.Judging.{judged_none, entry_judged_lem, judged_no, judged_time, judged_next, judged_all, counter_next}
use Rattle.clocklog.proofs.judge_records.Goals as goal

pub loop-r-init : goal.loop-r-init
loop-r-init c = let a = c.args in record { judged = judged_none a.log.now a.tasks a.n; counter_is = c.origin-counter.ensures }

pub bounds-expected-i : goal.bounds-expected-i
bounds-expected-i c = omega (arith, c.entry_after-e.ensures.0, number_lt (unpack c.args.log.now) (begin c.loop-r.r) 4)

pub returns-in_err-judge : goal.returns-in_err-judge
returns-in_err-judge c =
    let a = c.args in
    let l = c.loop-r in
    let e = c.entry_after-e in
    let no = judged_no a.log.now a.tasks a.n l.invariant.judged c.loop-r-test.true c.in_err-judge.field-0.0
    (entry_judged_lem a.log.now a.tasks a.n l.invariant.judged e.result e.ensures c.in_err-judge.ensures) in
    search rules

pub overflow_add-time : goal.overflow_add-time
overflow_add-time c =
    let a = c.args in
    let l = c.loop-r in
    let e = c.entry_after-e in
    record {
      fits =
          omega (
            arith,
            judged_time a.log.now a.tasks a.n l.invariant.judged e.result e.ensures
                (entry_judged_lem a.log.now a.tasks a.n l.invariant.judged e.result e.ensures c.in_ok-judge.ensures),
          );
    }

pub bounds-expected-i-in-loop-r : goal.bounds-expected-i-in-loop-r
bounds-expected-i-in-loop-r c = omega (arith, c.entry_after-e.ensures.0, number_lt (unpack c.args.log.now) (begin c.loop-r.r) 4)

pub loop-r-preserved : goal.loop-r-preserved
loop-r-preserved c =
    let a = c.args in
    let l = c.loop-r in
    let e = c.entry_after-e in
    record {
      judged =
          judged_next a.log.now a.tasks a.n l.invariant.judged c.loop-r-test.true e.result c.next.result e.ensures c.next.ensures
          (entry_judged_lem a.log.now a.tasks a.n l.invariant.judged e.result e.ensures c.in_ok-judge.ensures);
      counter_is = counter_next a.log.now l.r l.counter e.result.gap l.invariant.counter_is e.ensures.2;
    }

pub returns : goal.returns
returns c =
    let a = c.args in
    judged_all a.log.now a.tasks a.n c.loop-r.invariant.judged (omega arith)
