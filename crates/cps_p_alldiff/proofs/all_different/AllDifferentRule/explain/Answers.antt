-- The crowd and the fact that the atom needs were true.
use Rattle.std.proofs.lemmas.List.Elements.{at_from_Contains}
use Rattle.cps_p_alldiff.proofs.NumberTests.{no_not_yes}
use Rattle.cps_p_alldiff.proofs.ExplainedFacts.{explained, is_yes}
use Rattle.cps_p_alldiff.proofs.ImpliedAtoms.{seen_explained}
use Rattle.cps_p_alldiff.proofs.all_different.AllDifferentRule.explain.Goals as goal

pub returns : goal.returns
returns c e =
    let s = c.args.past.now in
    let t = c.args.target in
    let is = c.as_slice-subjects.result.now in
    let at = at_from_Contains is t.subject (c.is_among.ensures c.if-not-is_among.false) in
    seen_explained c.args.self.now c.self.inside.subjects.items is c.self.view_is c.as_slice-subjects.ensures.value s t c.add_near.new.facts.items
    (explained s is c.in-Some.hall t at.0 c.numbers-needed.result c.hold.new.facts.items c.add_near.new.facts.items c.in-Some.ensures c.numbers-needed.ensures.is at.1 (at.2 0)
    (c.in_ok-hold.ensures c.if-not-branch.false) (c.in_ok-given.ensures.yes (is_yes c.in_ok-given.given e)))

pub returns-then-not-branch : goal.returns-then-not-branch
returns-then-not-branch c = λ e. no_not_yes _ e
