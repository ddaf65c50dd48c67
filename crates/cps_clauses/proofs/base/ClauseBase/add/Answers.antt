use Rattle.std.proofs.Common.{◌≡◌, length, ◌∙◌, ap, subst}
use Rattle.cps_clauses.specs.Bases.{Base, in_force_of}
use Rattle.cps_clauses.proofs.DroppedClauses.{in_force_pushed}
use Rattle.cps_clauses.proofs.base.ClauseBase.add.Goals as goal

pub returns-in-Ok-clause-in_force : goal.returns-in-Ok-clause-in_force
returns-in-Ok-clause-in_force c =
    let sizes = subst (λ (b : Base). length b.dropped ≡ length b.clauses) c.self.view_is c.self.invariant.sound.sizes in
    ap (λ (b : Base). in_force_of b) c.in-Ok.ensures.ok ∙ in_force_pushed c.args.self.now.clauses c.args.self.now.dropped c.args.clause sizes
