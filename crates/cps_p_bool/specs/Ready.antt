-- A rule that may be run: its literals, and that its task is in force, or would be but for its last enforcement atom.
use Rattle.cps_trail.specs.Trail.{Trail}
use Rattle.cps_p_bool.specs.declared.rule.Rule.{Rule}
use Rattle.cps_p_bool.specs.Denying.{AreLiterals}
use Rattle.cps_p_bool.specs.Taking.{IsPlain}
use Rattle.cps_p_bool.specs.Seeking.{IsInForce}

-- literals over subjects that exist, those of the body about different ones; each enforcement atom but the one at the
-- rule's last place is true
pub record IsRuleReady (s : Trail) (r : Rule) : Type 0 where
  pub fits : AreLiterals s.first r.enforcement.now
  pub atoms_fit : AreLiterals s.first r.atoms.now
  pub plain : IsPlain s r.atoms.now
  pub in_force : IsInForce s r.enforcement.now r.last
