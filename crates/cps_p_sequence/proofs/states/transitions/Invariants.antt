-- The transitions so far, and those that are left, are all.
use Rattle.std.proofs.Common.{◌≡◌, ◌++◌, drop}
use Rattle.cps_model.specs.Sequences.{transitions}
use Rattle.cps_p_sequence.proofs.states.transitions.Given as goal

abbrev pub invariant-loop-k : goal.invariant-loop-k
invariant-loop-k l = l.raw.items ++ transitions (drop l.k l.tails) (drop l.k l.heads) (drop l.k l.labels) ≡ transitions l.tails l.heads l.labels
