use Rattle.std.proofs.Common.{◌≢◌, take}
use Rattle.std.specs.List.{All}
use Rattle.cps_p_bool.proofs.wakes.is_named.Given as goal

abbrev pub invariant-loop-atom : goal.invariant-loop-atom
invariant-loop-atom l = All (λ u. u.subject ≢ l.subject) (take l.atom-index l.atoms)
