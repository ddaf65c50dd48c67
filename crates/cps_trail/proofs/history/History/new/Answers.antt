-- The domains are added one by one to a history with no entry.
use Rattle.std.proofs.Common.{ap, ◌∙◌}
use Rattle.cps_trail.specs.Changes.{Past}
use Rattle.cps_trail.proofs.Beginning.{history_none, first_more}
use Rattle.cps_trail.proofs.history.History.new.Goals as goal

pub invariant_of-history : goal.invariant_of-history
invariant_of-history c =
    history_none c.new.result.items c.new-2.result.items c.new-3.result.items c.new-4.result.items c.new-5.result.items c.new-6.result.items c.new.ensures.items c.new-2.ensures.items c.new-3.ensures.items c.new-4.ensures.items c.new-5.ensures.items c.new-6.ensures.items

pub loop-domain-preserved : goal.loop-domain-preserved
loop-domain-preserved c = record {
  first = ap (λ (p : Past). p.first) c.in_ok-add.ensures.ok
      ∙ first_more c.args.domains.now c.loop-domain.domain-index c.domain-item.result c.in_ok-clone.field-0 c.loop-domain.history.first c.loop-domain-test.true c.domain-item.is c.in_ok-clone.ensures.cases c.loop-domain.invariant.first;
  entries = ap (λ (p : Past). p.entries) c.in_ok-add.ensures.ok ∙ c.loop-domain.invariant.entries;
}
