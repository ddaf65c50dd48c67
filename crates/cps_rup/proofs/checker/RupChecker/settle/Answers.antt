-- What propagation forces without assumption stays.
use Rattle.std.proofs.Common.{rules, subst}
use Rattle.cps_unit.specs.Propagation.{LeadsToConflict}
use Rattle.cps_rup.specs.Known.{Known}
use Rattle.cps_rup.specs.Domains.{box_in}
use Rattle.cps_rup.proofs.Settling.{settled_on, settled_conflict}
use Rattle.cps_rup.proofs.checker.RupChecker.settle.Goals as goal

pub invariant_of-self : goal.invariant_of-self
invariant_of-self c =
    let i = c.self.inside in
    settled_on i.given.items i.domains c.propagate.new.domains c.keep.new.self i.clauses c.in-Ok.ensures.propagated c.keep.ensures c.self.invariant

pub returns-in-Ok-clause-conflict : goal.returns-in-Ok-clause-conflict
returns-in-Ok-clause-conflict c = λ found. (
    let i = c.self.inside in
    subst (λ (k : Known). LeadsToConflict k.clauses (box_in k.domains)) c.self.view_is (
    settled_conflict i.given.items i.domains c.propagate.new.domains i.clauses c.in-Ok.ensures.propagated (c.in-Ok.ensures.conflict (search rules)) c.self.invariant))
