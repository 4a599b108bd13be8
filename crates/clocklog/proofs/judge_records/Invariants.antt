use Rattle.std.proofs.Common.{◌≡◌}
use Rattle.clocklog.specs.Format.{before}
use Rattle.clocklog.proofs.Judging.{Judged}
use Rattle.clocklog.proofs.judge_records.Given as goal

abbrev pub invariant-loop-r : goal.invariant-loop-r
invariant-loop-r l = record { judged : Judged l.log l.tasks l.n l.expected l.time l.r; counter_is : l.counter ≡ before l.log l.r }
