-- A late task replaces a late one that it outranks, and a task on time the lowest one that it does not outrank.
use Rattle.std.proofs.Common.{subst}
use Rattle.schedule.specs.Conditions.{Noted, FoundTo}
use Rattle.schedule.proofs.Notes.{late_first, late_greater, late_kept, on_time_late, on_time_lowest, on_time_kept}
use Rattle.schedule.proofs.cycle.Cycle.noted.Goals as goal

pub returns-in-Err-Some : goal.returns-in-Err-Some
returns-in-Err-Some c =
    let ts = c.args.self.now.tasks.now in
    let r = c.requires in
    on_time_late ts c.args.i (subst (FoundTo ts c.args.i) c.in-Err-Some.is-0 r.found_before) (subst (Noted ts c.args.i) c.in-Err-Some.is-1 r.row_noted).0

pub returns-in-Err-None : goal.returns-in-Err-None
returns-in-Err-None c =
    let ts = c.args.self.now.tasks.now in
    let r = c.requires in
    late_greater ts c.args.i (subst (FoundTo ts c.args.i) c.in-Err-None.is-0 r.found_before) (subst (Noted ts c.args.i) c.in-Err-None.is-1 r.row_noted) c.if-self-late.true

pub returns-in-Err-None-2 : goal.returns-in-Err-None-2
returns-in-Err-None-2 c =
    let ts = c.args.self.now.tasks.now in
    let r = c.requires in
    late_kept ts c.args.i (subst (FoundTo ts c.args.i) c.in-Err-None.is-0 r.found_before) (subst (Noted ts c.args.i) c.in-Err-None.is-1 r.row_noted) c.if-self-late.false

pub returns-in-Ok-None : goal.returns-in-Ok-None
returns-in-Ok-None c =
    let ts = c.args.self.now.tasks.now in
    let r = c.requires in
    late_first ts c.args.i (subst (FoundTo ts c.args.i) c.in-Ok-None.is-0 r.found_before) (subst (Noted ts c.args.i) c.in-Ok-None.is-1 r.row_noted)

pub returns-in-Ok-Some : goal.returns-in-Ok-Some
returns-in-Ok-Some c =
    let ts = c.args.self.now.tasks.now in
    let r = c.requires in
    on_time_kept ts c.args.i (subst (FoundTo ts c.args.i) c.in-Ok-Some.is-0 r.found_before) (subst (Noted ts c.args.i) c.in-Ok-Some.is-1 r.row_noted).0 c.if-self-lowest.true

pub returns-in-Ok-Some-2 : goal.returns-in-Ok-Some-2
returns-in-Ok-Some-2 c =
    let ts = c.args.self.now.tasks.now in
    let r = c.requires in
    let n = subst (Noted ts c.args.i) c.in-Ok-Some.is-1 r.row_noted in
    on_time_lowest ts c.args.i (subst (FoundTo ts c.args.i) c.in-Ok-Some.is-0 r.found_before) n.0 n.1 c.if-self-lowest.false
