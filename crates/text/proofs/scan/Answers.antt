-- Reading what is left gives what reading all gives, byte by byte.
use Rattle.std.proofs.Common.{◌+◌, ◌-◌, refl, sym, ap, ap₂, ◌∙◌, arith, map, length, drop, length-drop, take_all}
use Rattle.std.proofs.lemmas.Result.{err_from_is_err_and}
use Rattle.text.specs.declared.Place.TheVariants.{Between}
use Rattle.text.specs.Run.{run, nameless, placed, located}
use Rattle.text.specs.RunLaws.{run_stop, run_on, run_past, run_end}
use Rattle.text.proofs.scan.Goals as goal

pub loop-at-init : goal.loop-at-init
loop-at-init c =
    let r = c.new-reading.ensures in
    (c.requires, sym (ap₂ (λ n p. run n p c.new-reading.result.draft c.args.text.now) r.names r.place ∙ ap (λ d. run nameless Between d c.args.text.now) r.draft))

pub returns-in_err-draft : goal.returns-in_err-draft
returns-in_err-draft c =
    let l = c.loop-at in
    let r = l.reading in
    let text = c.args.text.now in
    let rest = take_all (length text - l.at) (drop l.at text) (omega (arith, length-drop l.at text)) in
    let p = err_from_is_err_and c.from_residual.result c.from_residual.ensures.1 in
    rw (p.1, p.2)
    (sym (ap (located text) l.invariant.1
    ∙ run_stop (map (λ n. n.now) r.names) r.place r.draft text l.at _ (omega arith) rest c.read.result c.in_err-draft.field-0.0 c.read.ensures (sym c.placed_after.ensures ∙ c.in_err-draft.was)))

pub loop-at-preserved-then-passes : goal.loop-at-preserved-then-passes
loop-at-preserved-then-passes c =
    let l = c.loop-at in
    let r = l.reading in
    let text = c.args.text.now in (
      l.invariant.0,
      l.invariant.1
          ∙ run_past (map (λ n. n.now) r.names) r.place r.draft text l.at (drop l.at text) (omega arith) refl (sym c.passes.ensures ∙ c.if-passes.true)
          ∙ ap (λ p. run (map (λ n. n.now) r.names) p r.draft (drop (l.at + 1) text)) (sym c.after-reading.ensures),
    )

pub loop-at-preserved : goal.loop-at-preserved
loop-at-preserved c =
    let l = c.loop-at in
    let r = l.reading in
    let on = c.go_on.ensures in
    let text = c.args.text.now in
    let rest = take_all (length text - l.at) (drop l.at text) (omega (arith, length-drop l.at text)) in (
      l.invariant.0,
      l.invariant.1
          ∙ run_on (map (λ n. n.now) r.names) r.place r.draft text l.at _ (omega arith) rest c.read.result c.in_ok-draft.draft c.read.ensures (sym c.placed_after.ensures ∙ c.in_ok-draft.was)
          ∙ ap₂ (λ x y. run x y c.in_ok-draft.draft (drop (l.at + 1) text)) (sym on.names) (sym on.place)
          ∙ ap (λ d. run (map (λ n. n.now) c.go_on.new.self.names) c.go_on.new.self.place d (drop (l.at + 1) text)) (sym on.draft),
    )

pub returns : goal.returns
returns c =
    let l = c.loop-at in
    let r = l.reading in
    let text = c.args.text.now in
    c.placed_after-2.ensures ∙ ap (placed text) c.end_text.ensures
    ∙ sym (ap (located text) l.invariant.1 ∙ run_end (map (λ n. n.now) r.names) r.place r.draft text l.at (omega arith))
