-- One clause more.
use Rattle.std.proofs.Common.{length, sym, subst}
use Rattle.cps_log.specs.Subjects.{IsClauseOver}
use Rattle.cps_rup.specs.Known.{Known}
use Rattle.cps_rup.proofs.Settling.{settled_clause}
use Rattle.cps_rup.proofs.checker.RupChecker.add_clause.Goals as goal

pub invariant_of-self-2 : goal.invariant_of-self-2
invariant_of-self-2 c =
    let i = c.self.inside in
    let over : IsClauseOver (length i.given.items) c.args.clause.now = subst (λ (k : Known). IsClauseOver (length k.domains) c.args.clause.now) (sym c.self.view_is) c.requires in
    settled_clause i.given.items i.domains i.clauses c.push.new.self c.args.clause.now c.in_ok-push.ensures.ok over c.self.invariant
