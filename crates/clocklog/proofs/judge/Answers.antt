-- The head, the records and what follows them, one after the other.
use Rattle.std.proofs.Common.{rules, refl}
use Rattle.clocklog.specs.Format.{count}
use Rattle.clocklog.proofs.Judging.{log_parts}
use Rattle.clocklog.proofs.judge.Goals as goal

pub returns-in_err-judge_head : goal.returns-in_err-judge_head
returns-in_err-judge_head c = let parts = log_parts c.args.log.now c.args.tasks {n = count c.args.log.now} refl in search rules

pub returns-in_err-judge_records : goal.returns-in_err-judge_records
returns-in_err-judge_records c = let parts = log_parts c.args.log.now c.args.tasks c.count-n.ensures in search rules

pub returns : goal.returns
returns c = let parts = log_parts c.args.log.now c.args.tasks c.count-n.ensures in search rules
