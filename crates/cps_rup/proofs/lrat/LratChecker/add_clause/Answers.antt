-- One clause more.
use Rattle.std.proofs.Common.{length, sym, subst}
use Rattle.cps_log.specs.Subjects.{IsClauseOver}
use Rattle.cps_rup.specs.Known.{Known}
use Rattle.cps_rup.proofs.Settling.{pushed_clause}
use Rattle.cps_rup.proofs.lrat.LratChecker.add_clause.Goals as goal

pub invariant_of-self : goal.invariant_of-self
invariant_of-self c =
    let i = c.self.inside in
    let over : IsClauseOver (length i.given.items) c.args.clause.now = subst (λ (k : Known). IsClauseOver (length k.domains) c.args.clause.now) (sym c.self.view_is) c.requires in
    pushed_clause c.push.result i.given.items i.domains i.clauses c.push.new.self c.args.clause.now c.push.ensures.ok c.push.ensures.err over c.self.invariant
