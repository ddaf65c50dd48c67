-- What the fields of a `RupChecker` mean.
use Rattle.std.specs.Prelude.{◌≡◌, List, length}
use Rattle.cps_domain.specs.Window.{Window}
use Rattle.cps_literal.specs.declared.atom.Atom.{Atom}
use Rattle.cps_rup.specs.declared.checker.RupChecker.TheInside.{Inside}
use Rattle.cps_rup.specs.Known.{Known}
use Rattle.cps_rup.specs.Trailed.{Trailed}
use Rattle.cps_unit.specs.Boxes.{AreOn}
use Rattle.cps_rup.specs.Domains.{box_in}
use Rattle.cps_unit.specs.Chains.{Propagates}

abbrev pub known_of : Inside → Known
known_of i = record { domains = i.given.items; clauses = i.clauses }

-- the domains that calls begin with have the values that propagation leaves of those given
pub record IsSettledIn (given : List Window) (domains : Trailed) (clauses : List (List Atom)) : Type 0 where
  pub restored : domains.now ≡ domains.first
  pub count : length domains.now ≡ length given
  pub on : AreOn (length given) clauses
  pub narrowed : Propagates clauses (box_in given) (box_in domains.now)

abbrev pub IsSettled : Inside → Type 0
IsSettled i = IsSettledIn i.given.items i.domains i.clauses
