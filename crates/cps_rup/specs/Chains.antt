-- Domains that propagation narrowed.
use Rattle.std.specs.Prelude.{◌≡◌, List, length}
use Rattle.cps_literal.specs.declared.atom.Atom.{Atom}
use Rattle.cps_unit.specs.Chains.{Propagates}
use Rattle.cps_rup.specs.Domains.{box_in}
use Rattle.cps_rup.specs.Trailed.{Trailed}

-- domains were narrowed by propagation alone
pub record IsPropagated (clauses : List (List Atom)) (old new : Trailed) : Type 0 where
  pub count : length new.now ≡ length old.now
  pub narrowed : Propagates clauses (box_in old.now) (box_in new.now)
