-- The name is set among the words.
use Rattle.std.proofs.Common.{◌≡◌, sym, ap, rules, ap₂, ◌∙◌, set, cond}
use Rattle.std.proofs.lemmas.List.{map-set}
use Rattle.text.specs.Conditions.{names_of}
use Rattle.text.specs.declared.Want.TheVariants.{Name}
use Rattle.text.specs.Words.{word}
use Rattle.text.specs.Run.{named_at, named}
use Rattle.text.proofs.Reading.keep_name.Goals as goal

pub returns-then-eq-clause-names : goal.returns-then-eq-clause-names
unfolding named
returns-then-eq-clause-names c =
    let r = c.args.self.now in
    let names = names_of r.names in
    let w = word c.args.rest.now in
    let is : r.draft.want ≡ Name = search (rules, c.if-eq.true, c.eq.ensures) in
    ap names_of c.set_at.ensures ∙ map-set (λ n. n.now) r.names r.draft.count c.first_word.result
    ∙ ap (set names r.draft.count) c.first_word.ensures
    ∙ sym (ap₂ (λ t want. cond t (named_at want names r.draft.count w) names) (sym c.begins.ensures ∙ c.if-begins.true) is)
