-- The one open atom can be negated, and is on a subject of the store.
use Rattle.std.proofs.Common.{rules}
use Rattle.cps_p_cumulative.proofs.NegatableValues.{tested, negatable_low, negatable_high, negatable_above, negatable_below}
use Rattle.cps_p_cumulative.proofs.propose.absent.Goals as goal

pub negate-requires-clause-low : goal.negate-requires-clause-low
negate-requires-clause-low c = negatable_low c.in-Some-open_atom.atom.value (tested c.in-Some-open_atom.atom.value (search rules) (c.is_inside.ensures c.if-not-is_inside.false))

pub negate-requires-clause-high : goal.negate-requires-clause-high
negate-requires-clause-high c = negatable_high c.in-Some-open_atom.atom.value (tested c.in-Some-open_atom.atom.value (search rules) (c.is_inside.ensures c.if-not-is_inside.false))

pub negate-requires-clause-above : goal.negate-requires-clause-above
negate-requires-clause-above c = λ _. negatable_above c.in-Some-open_atom.atom.value (tested c.in-Some-open_atom.atom.value (search rules) (c.is_inside.ensures c.if-not-is_inside.false))

pub negate-requires-clause-below : goal.negate-requires-clause-below
negate-requires-clause-below c = λ _. negatable_below c.in-Some-open_atom.atom.value (tested c.in-Some-open_atom.atom.value (search rules) (c.is_inside.ensures c.if-not-is_inside.false))
