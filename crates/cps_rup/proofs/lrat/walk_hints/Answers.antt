-- One walk more.
use Rattle.std.proofs.Common.{sym, ◌∙◌}
use Rattle.cps_unit.proofs.Chains.{leads_after, leads_at_once}
use Rattle.cps_rup.specs.Chains.{IsPropagated}
use Rattle.cps_rup.specs.Domains.{box_in}
use Rattle.cps_rup.proofs.Propagated.{propagated_on}
use Rattle.cps_rup.proofs.lrat.walk_hints.Goals as goal

pub returns-then-is_some-clause-leads : goal.returns-then-is_some-clause-leads
returns-then-is_some-clause-leads c = λ _. (
    let clauses = c.args.clauses.now in
    let old = c.args.domains.now in
    let new = c.look_at_each.new.domains in
    let p : IsPropagated clauses old new = propagated_on clauses old c.loop.domains new c.loop.invariant.propagated c.in_ok-look_at_each.ensures.propagated in
    leads_after clauses (box_in old.now) (box_in new.now) p.narrowed (leads_at_once clauses (box_in new.now) (c.in_ok-look_at_each.ensures.conflict (sym c.is_some.ensures ∙ c.if-is_some.true))))

pub loop-preserved : goal.loop-preserved
loop-preserved c = record {
  first = c.in_ok-look_at_each.ensures.first ∙ c.loop.invariant.first;
  propagated = propagated_on c.args.clauses.now c.args.domains.now c.loop.domains c.look_at_each.new.domains c.loop.invariant.propagated c.in_ok-look_at_each.ensures.propagated;
}
