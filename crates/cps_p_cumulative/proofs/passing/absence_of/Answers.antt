-- The denial of an event's atom is on the same subject.
use Rattle.std.proofs.Common.{rules, subst, sym, length, ◌<◌}
use Rattle.cps_p_cumulative.proofs.Levelled.{on_atom, rest-absent}
use Rattle.cps_p_cumulative.proofs.NegatableValues.{tested, negatable_low, negatable_high, negatable_above, negatable_below}
use Rattle.cps_p_cumulative.proofs.passing.absence_of.Goals as goal

pub returns-then-is_known : goal.returns-then-is_known
returns-then-is_known c = rest-absent c.args.past.now.first c.args.case.time c.args.event.now c.in-Some.atom c.negate-denial.result c.requires c.in-Some.is c.negate-denial.ensures.subject c.negate-denial.ensures.negated

pub negate-denial-requires-clause-low : goal.negate-denial-requires-clause-low
negate-denial-requires-clause-low c = negatable_low c.in-Some.atom.value (tested c.in-Some.atom.value (search rules) (c.is_inside.ensures c.if-not-is_inside.false))

pub negate-denial-requires-clause-high : goal.negate-denial-requires-clause-high
negate-denial-requires-clause-high c = negatable_high c.in-Some.atom.value (tested c.in-Some.atom.value (search rules) (c.is_inside.ensures c.if-not-is_inside.false))

pub negate-denial-requires-clause-above : goal.negate-denial-requires-clause-above
negate-denial-requires-clause-above c = λ _. negatable_above c.in-Some.atom.value (tested c.in-Some.atom.value (search rules) (c.is_inside.ensures c.if-not-is_inside.false))

pub negate-denial-requires-clause-below : goal.negate-denial-requires-clause-below
negate-denial-requires-clause-below c = λ _. negatable_below c.in-Some.atom.value (tested c.in-Some.atom.value (search rules) (c.is_inside.ensures c.if-not-is_inside.false))

pub is_known-requires : goal.is_known-requires
is_known-requires c = subst (λ i. i < length c.args.past.now.first) (sym c.negate-denial.ensures.subject) (on_atom (λ i. i < length c.args.past.now.first) c.args.event.now c.in-Some.atom c.in-Some.is c.requires)
