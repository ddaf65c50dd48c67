-- What the clause forces without assumption stays.
use Rattle.cps_rup.proofs.Settling.{settled_on}
use Rattle.cps_rup.proofs.lrat.LratChecker.settle.Goals as goal

pub invariant_of-self : goal.invariant_of-self
invariant_of-self c =
    let i = c.self.inside in
    settled_on i.given.items i.domains c.look_at_each.new.domains c.keep.new.self i.clauses c.in-Ok.ensures.propagated c.keep.ensures c.self.invariant
