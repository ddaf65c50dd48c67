use Rattle.std.proofs.Common.{◌≡◌, ◌++◌, take}
use Rattle.cps_clauses.proofs.atoms.AtomList.extend.Given as goal

abbrev pub invariant-loop-atom : goal.invariant-loop-atom
invariant-loop-atom l = l.self ≡ l.initial.self ++ take l.atom-index l.atoms
