use Rattle.std.specs.Prelude.{◌≡◌, ◌⊎◌, take, All}
use Rattle.cps_conflict.specs.Antecedents.{IsRefuted}
use Rattle.cps_conflict.proofs.certifier.Certifier.is_unit.Given as goal

abbrev pub invariant-loop-atom : goal.invariant-loop-atom
invariant-loop-atom l = All (λ u. (u ≡ l.implied) ⊎ IsRefuted l.store l.self.clause.items l.self.known.items u) (take l.atom-index l.reason)
