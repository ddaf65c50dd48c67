-- The denial of the atom that is explained is assumed, and as the level then passes a limit the atom holds.
use Rattle.std.proofs.Common.{refl, rules, subst, List}
use Rattle.cps_literal.specs.declared.atom.Atom.{Atom}
use Rattle.cps_instance.specs.Tasks.{HoldsBody, subjects_of_body}
use Rattle.cps_p_cumulative.specs.Levels.{tank_body}
use Rattle.cps_p_cumulative.specs.Relying.{Relies}
use Rattle.cps_p_cumulative.proofs.Levelled.{tank_inside, no_yes}
use Rattle.cps_p_cumulative.proofs.NegatableValues.{tested, negatable_low, negatable_high, negatable_above, negatable_below}
use Rattle.cps_p_cumulative.proofs.Relied.{explained, no_facts}
use Rattle.cps_p_cumulative.proofs.reservoir.ReservoirRule.explain.Goals as goal

pub charge_level-requires-clause-tank : goal.charge_level-requires-clause-tank
charge_level-requires-clause-tank c = tank_inside c.args.past.now.first c.args.self.now.tank c.requires.fits

pub returns : goal.returns
returns c = λ ok.
    let s = c.args.past.now in
    let b = tank_body c.args.self.now.tank in
    explained s b c.negate.result c.args.target c.charge_level.new.facts.items c.negate.ensures.subject c.negate.ensures.negated
    (subst (λ (us : List Atom). Relies s c.negate.result (subjects_of_body b) (λ xs. HoldsBody b xs → ⊥) us c.charge_level.new.facts.items) c.clear.ensures.items (c.charge_level.ensures ok))

pub returns-then-not-is_inside : goal.returns-then-not-is_inside
returns-then-not-is_inside c = λ ok. no_yes _ _ ok refl

pub negate-requires-clause-low : goal.negate-requires-clause-low
negate-requires-clause-low c = negatable_low c.args.target.value (tested c.args.target.value (search rules) (c.is_inside.ensures c.if-not-is_inside.false))

pub negate-requires-clause-high : goal.negate-requires-clause-high
negate-requires-clause-high c = negatable_high c.args.target.value (tested c.args.target.value (search rules) (c.is_inside.ensures c.if-not-is_inside.false))

pub negate-requires-clause-above : goal.negate-requires-clause-above
negate-requires-clause-above c = λ _. negatable_above c.args.target.value (tested c.args.target.value (search rules) (c.is_inside.ensures c.if-not-is_inside.false))

pub negate-requires-clause-below : goal.negate-requires-clause-below
negate-requires-clause-below c = λ _. negatable_below c.args.target.value (tested c.args.target.value (search rules) (c.is_inside.ensures c.if-not-is_inside.false))

pub charge_level-requires-clause-facts : goal.charge_level-requires-clause-facts
charge_level-requires-clause-facts c = no_facts c.args.past.now c.clear.new.self.items c.clear.ensures.items
