use Rattle.std.proofs.Common.{◌≡◌, true, take}
use Rattle.std.specs.List.{All}
use Rattle.cps_literal.specs.Truth.{atom_holds}
use Rattle.cps_instance.specs.Tasks.{atom_subjects}
use Rattle.cps_p_cumulative.specs.Relying.{Relies}
use Rattle.cps_p_cumulative.proofs.charge.rely_all.Given as goal

abbrev pub invariant-loop-atom : goal.invariant-loop-atom
invariant-loop-atom l = Relies l.past l.case.assumed (atom_subjects l.atoms) (λ xs. All (λ u. atom_holds xs u ≡ true) (take l.atom-index l.atoms)) l.fn.facts.items l.facts.items
