-- The denial of the atom that is explained is assumed, and what it overloads gives the atom.
use Rattle.std.proofs.Common.{refl, rules, subst, List}
use Rattle.cps_literal.specs.declared.atom.Atom.{Atom}
use Rattle.cps_instance.specs.Tasks.{HoldsBody, subjects_of_body}
use Rattle.cps_p_cumulative.specs.Running.{body_of}
use Rattle.cps_p_cumulative.specs.Relying.{Relies}
use Rattle.cps_p_cumulative.proofs.SpanDemands.{resource-inside}
use Rattle.cps_p_cumulative.proofs.Levelled.{no_yes}
use Rattle.cps_p_cumulative.proofs.NegatableValues.{tested, negatable_low, negatable_high, negatable_above, negatable_below}
use Rattle.cps_p_cumulative.proofs.Relied.{explained, no_facts}
use Rattle.cps_p_cumulative.proofs.cumulative.CumulativeRule.explain.Goals as goal

pub charge-requires-clause-resource : goal.charge-requires-clause-resource
charge-requires-clause-resource c = resource-inside c.args.past.now.first c.args.self.now.resource c.requires.fits

pub returns : goal.returns
returns c = λ ok.
    let s = c.args.past.now in
    let r = c.args.self.now.resource in
    explained s (body_of r) c.negate.result c.args.target c.charge.new.facts.items c.negate.ensures.subject c.negate.ensures.negated
    (subst (λ (us : List Atom). Relies s c.negate.result (subjects_of_body (body_of r)) (λ xs. HoldsBody (body_of r) xs → ⊥) us c.charge.new.facts.items) c.clear.ensures.items (c.charge.ensures ok))

pub returns-then-not-is_inside : goal.returns-then-not-is_inside
returns-then-not-is_inside c = λ ok. no_yes _ _ ok refl

pub negate-requires-clause-low : goal.negate-requires-clause-low
negate-requires-clause-low c = negatable_low c.args.target.value (tested c.args.target.value (search rules) (c.is_inside.ensures c.if-not-is_inside.false))

pub negate-requires-clause-high : goal.negate-requires-clause-high
negate-requires-clause-high c = negatable_high c.args.target.value (tested c.args.target.value (search rules) (c.is_inside.ensures c.if-not-is_inside.false))

pub negate-requires-clause-above : goal.negate-requires-clause-above
negate-requires-clause-above c = λ _. negatable_above c.args.target.value (tested c.args.target.value (search rules) (c.is_inside.ensures c.if-not-is_inside.false))

pub negate-requires-clause-below : goal.negate-requires-clause-below
negate-requires-clause-below c = λ _. negatable_below c.args.target.value (tested c.args.target.value (search rules) (c.is_inside.ensures c.if-not-is_inside.false))

pub charge-requires-clause-facts : goal.charge-requires-clause-facts
charge-requires-clause-facts c = no_facts c.args.past.now c.clear.new.self.items c.clear.ensures.items
