-- The facts that give the atom make its reason.
use Rattle.std.proofs.Common.{List, Ok, ap, sym, subst}
use Rattle.cps_literal.specs.declared.atom.Atom.{Atom}
use Rattle.cps_rule.specs.Rules.{AreFacts, IsExplained}
use Rattle.cps_enforce.proofs.Tasks.{force_rule, force_facts}
use Rattle.cps_enforce.proofs.Denials.{no_yes}
use Rattle.cps_enforce.proofs.explain.explain_given.Goals as goal

pub explain-requires : goal.explain-requires
explain-requires g c = record { fits = force_rule c.args.past.now c.args.enforcement.now (g.R.Rule.body c.args.rule.now) c.requires.force }

pub give_by-requires-clause-enforcement : goal.give_by-requires-clause-enforcement
give_by-requires-clause-enforcement g c = force_facts c.args.past.now c.args.enforcement.now (g.R.Rule.body c.args.rule.now) c.requires.force

pub give_by-requires-clause-facts : goal.give_by-requires-clause-facts
give_by-requires-clause-facts g c = subst (λ (l : List Atom). AreFacts c.args.past.now l) (sym c.as_slice-facts.ensures.value) (c.in_ok-is_explained.ensures (ap Ok c.if-not-is_explained.false)).facts

pub returns : goal.returns
returns g c = λ _.
    let b = g.R.Rule.body c.args.rule.now in
    c.in_ok-give_by.ensures b (subst (λ (l : List Atom). IsExplained b c.args.past.now c.args.narrowing.now.target l) (sym c.as_slice-facts.ensures.value) (c.in_ok-is_explained.ensures (ap Ok c.if-not-is_explained.false)))

pub returns-then-not-is_explained : goal.returns-then-not-is_explained
returns-then-not-is_explained g c = λ ok. no_yes _ ok
