use Rattle.std.proofs.Common.{◌≡◌, true, take}
use Rattle.std.specs.List.{list_all}
use Rattle.cps_literal.specs.Truth.{atom_holds}
use Rattle.cps_instance.specs.Tasks.{atom_subjects}
use Rattle.cps_p_span.specs.Citing.{Cites}
use Rattle.cps_p_span.proofs.facts.cite_all.Given as goal

abbrev pub invariant-loop-atom : goal.invariant-loop-atom
invariant-loop-atom l = Cites l.past (atom_subjects l.atoms) l.fn.facts.items l.facts.items (λ xs. list_all (atom_holds xs) (take l.atom-index l.atoms) ≡ true)
