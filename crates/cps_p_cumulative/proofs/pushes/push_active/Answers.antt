-- What is pushed is an event's own atom, or its denial.
use Rattle.std.proofs.Common.{◌<◌, length, sym, subst, rules}
use Rattle.cps_p_cumulative.proofs.Levelled.{on_time, on_atom, active_inside}
use Rattle.cps_p_cumulative.proofs.NegatableValues.{tested, negatable_low, negatable_high, negatable_above, negatable_below}
use Rattle.cps_p_cumulative.proofs.pushes.push_active.Goals as goal

pub is_decided-requires : goal.is_decided-requires
is_decided-requires c = active_inside c.args.past.now.first c.args.event.now c.requires

pub ends-requires : goal.ends-requires
ends-requires c = on_time (λ i. i < length c.args.past.now.first) c.args.event.now c.requires

pub returns-then-bounds-lt0 : goal.returns-then-bounds-lt0
returns-then-bounds-lt0 c = on_atom (λ i. i < length c.args.past.now.first) c.args.event.now c.in-Some.atom c.in-Some.is c.requires

pub negate-requires-clause-low : goal.negate-requires-clause-low
negate-requires-clause-low c = negatable_low c.in-Some.atom.value (tested c.in-Some.atom.value (search rules) (c.is_inside.ensures c.if-not-is_inside.false))

pub negate-requires-clause-high : goal.negate-requires-clause-high
negate-requires-clause-high c = negatable_high c.in-Some.atom.value (tested c.in-Some.atom.value (search rules) (c.is_inside.ensures c.if-not-is_inside.false))

pub negate-requires-clause-above : goal.negate-requires-clause-above
negate-requires-clause-above c = λ _. negatable_above c.in-Some.atom.value (tested c.in-Some.atom.value (search rules) (c.is_inside.ensures c.if-not-is_inside.false))

pub negate-requires-clause-below : goal.negate-requires-clause-below
negate-requires-clause-below c = λ _. negatable_below c.in-Some.atom.value (tested c.in-Some.atom.value (search rules) (c.is_inside.ensures c.if-not-is_inside.false))

pub returns-then-ends-slack : goal.returns-then-ends-slack
returns-then-ends-slack c = subst (λ i. i < length c.args.past.now.first) (sym c.negate.ensures.subject) (on_atom (λ i. i < length c.args.past.now.first) c.args.event.now c.in-Some.atom c.in-Some.is c.requires)
