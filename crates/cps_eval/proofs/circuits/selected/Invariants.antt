-- The arcs so far that are selected, and those that are left, are all.
use Rattle.std.proofs.Common.{◌≡◌, ◌++◌, drop}
use Rattle.cps_model.specs.Circuits.{selected}
use Rattle.cps_eval.proofs.circuits.selected.Given as goal

abbrev pub invariant-loop-k : goal.invariant-loop-k
invariant-loop-k l = l.arcs.items ++ selected l.values (drop l.k l.tails) (drop l.k l.heads) (drop l.k l.literals) ≡ selected l.values l.tails l.heads l.literals
