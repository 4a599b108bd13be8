-- Each judgement is made in its turn, the fields, the chain's number and then the values against their periods; after that the bound is added up.
use Rattle.std.proofs.Common.{◌≡◌, sym, ap, ap₂, ◌∙◌, subst}
use Rattle.std.proofs.lemmas.Result.{err_from_is_err_and}
use Rattle.answers.specs.Answers.{given, refusal, fine}
use Rattle.sheet.specs.Calls.{judge_of}
use Rattle.sheet.specs.declared.sound.Judged.{Judged}
use Rattle.sheet.specs.declared.Chain.{Chain}
use Rattle.sheet.specs.Tasks.{tasks_of, lacks, chain_at, entries_of}
use Rattle.recurrence.specs.Calls.{bounds_of, quick_bound_of}
use Rattle.recurrence.specs.Conditions.{ChainIn}
use Rattle.recurrence.specs.BoundLaws.{chain_in}
use Rattle.recurrence.specs.CallLaws.{judged_fine, judged_refused, sheet_judged, quick_refused, quick_lacking, quick_passing, refused_alone, bound_given, quick_fits}
use Rattle.recurrence.proofs.bound.Goals.{In_ok-judged, In_ok-chain}
use Rattle.recurrence.proofs.bound.Goals as goal

-- The sheet that was judged is this one,
sheet_is : (c : In_ok-judged) → let x = c.in_ok-judged.judged in (judge_of x.sheet ≡ fine) × (x.sheet ≡ c.args.s)
sheet_is c = sheet_judged c.args.s c.in_ok-judged.judged c.in_ok-judged.ensures

-- and has the chain.
chain_is : (c : In_ok-chain) → let s = c.in_ok-judged.judged.sheet in (lacks s c.args.number ≡ fine) × (c.in_ok-chain.chain ≡ chain_at s c.args.number)
chain_is c = judged_fine (lacks c.in_ok-judged.judged.sheet c.args.number) c.in_ok-chain.ensures

pub returns-in_err-judged : goal.returns-in_err-judged
returns-in_err-judged c =
    let r = c.in_err-judged.field-0.0 in
    let p = err_from_is_err_and c.from_residual.result c.from_residual.ensures.1 in
    rw (p.1, p.2) (refused_alone c.args.s c.args.number r (quick_refused c.args.s c.args.number r (judged_refused (judge_of c.args.s) c.args.s r c.in_err-judged.ensures)))

pub returns-in_err-chain : goal.returns-in_err-chain
returns-in_err-chain c =
    let s = c.in_ok-judged.judged.sheet in
    let number = c.args.number in
    let r = c.in_err-chain.field-0.0 in
    let j = sheet_is (goal.at.returns-in_err-chain c).In_ok-judged in
    let p = err_from_is_err_and c.from_residual-in_err-chain.result c.from_residual-in_err-chain.ensures.1 in
    rw (p.1, p.2) (subst (λ s. refusal r ≡ quick_bound_of s number) j.1 (refused_alone s number r (quick_lacking s number r j.0 (judged_refused (lacks s number) (chain_at s number) r c.in_err-chain.ensures))))

pub returns-in_err-responses : goal.returns-in_err-responses
returns-in_err-responses c =
    let s = c.in_ok-judged.judged.sheet in
    let number = c.args.number in
    let r = c.in_err-responses.field-0.0 in
    let j = sheet_is (goal.at.returns-in_err-responses c).In_ok-judged in
    let k = chain_is (goal.at.returns-in_err-responses c).In_ok-chain in
    let p = err_from_is_err_and c.from_residual-in_err-responses.result c.from_residual-in_err-responses.ensures.1 in
    rw (p.1, p.2) (subst (λ s. refusal r ≡ quick_bound_of s number) j.1 (refused_alone s number r (quick_passing s number r j.0 k.0 c.in_err-responses.ensures.err)))

pub bounds_of-bounds-requires : goal.bounds_of-bounds-requires
bounds_of-bounds-requires c =
    let x = c.in_ok-judged.judged in
    let k = chain_is (goal.at.bounds_of-bounds-requires c).In_ok-chain in
    subst (λ (t : Judged). ChainIn t.sheet c.in_ok-chain.chain) (sym c.in_ok-responses.ensures.ok.same) (subst (ChainIn x.sheet) (sym k.1) (chain_in x.sound c.args.number k.0))

pub returns : goal.returns
returns c =
    let s = c.in_ok-judged.judged.sheet in
    let number = c.args.number in
    let j = sheet_is (goal.at.returns c).In_ok-judged in
    let k = chain_is (goal.at.returns c).In_ok-chain in
    let timely = c.in_ok-responses.ensures.ok in
    let bounds = c.bounds_of-bounds.ensures ∙ ap₂ (λ (t : Judged) (chain : Chain). bounds_of (tasks_of t.sheet) (entries_of chain)) timely.same k.1 in
    subst (λ s. given (record { bounds = c.bounds_of-bounds.result; responses = c.in_ok-responses.responses.each }) ≡ quick_bound_of s number) j.1
    (bound_given s number (quick_fits s number j.0 k.0 timely.none_late ∙ ap given (sym bounds)) timely.each_is)
