-- Each turn settles one place, and what is written there is ready at the next.
use Rattle.std.proofs.Common.{◌≡◌, length, rules}
use Rattle.night.specs.Conditions.{written_in}
use Rattle.night.proofs.Places.{reads_here, writes_same, reads_past, ready_next}
use Rattle.night.proofs.state.Readings.read.Goals.{then-entry-task, else-entry-task}
use Rattle.night.proofs.state.Readings.read.Goals as goal

pub loop-q-preserved : goal.loop-q-preserved
loop-q-preserved c =
    let a = c.args in
    let l = c.loop-q in
    let i = l.invariant in
    let was = a.self.now.places in
    let now = l.self.places in
    let whole : length now ≡ 16 = search rules in
    elim c.if-entry-task.branch [
      | then-entry-task w ↦ rw w.self-is (record {
        reads = reads_here a.self.now.chain.now a.task was now l.q l.ready whole a.self.now.most c.loop-q-test.true i.reads i.writes i.next w.if-entry-task.true;
        writes = writes_same a.self.now.chain.now a.task was now l.q l.ready whole a.self.now.most c.loop-q-test.true i.reads i.writes;
        next = ready_next (written_in was) _ l.q (writes_same a.self.now.chain.now a.task was now l.q l.ready whole a.self.now.most c.loop-q-test.true i.reads i.writes);
        longest = i.longest;
        chain_same = i.chain_same;
        period_same = i.period_same;
      })
      | else-entry-task w ↦ rw w.self-is (record {
        reads = reads_past a.self.now.chain.now a.task was now l.q l.ready whole a.self.now.most c.loop-q-test.true i.reads i.writes w.if-entry-task.false;
        writes = i.writes;
        next = ready_next (written_in was) (written_in now) l.q i.writes;
        longest = i.longest;
        chain_same = i.chain_same;
        period_same = i.period_same;
      })
    ]
