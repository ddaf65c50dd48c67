-- One domain more.
use Rattle.std.proofs.Common.{◌<◌, length, arith, sym, ◌∙◌, ap}
use Rattle.cps_rup.specs.Trailed.{Trailed}
use Rattle.cps_subjects.proofs.Domained.{none_are, domains_next}
use Rattle.cps_cert.proofs.domains.domains_of.Goals as goal

pub loop-variable-init : goal.loop-variable-init
loop-variable-init c = record {
  are = none_are c.new-domains.result.first (ap (λ (t : Trailed). t.first) c.new-domains.ensures);
  same = ap (λ (t : Trailed). t.now) c.new-domains.ensures ∙ sym (ap (λ (t : Trailed). t.first) c.new-domains.ensures);
}

pub loop-variable-preserved : goal.loop-variable-preserved
loop-variable-preserved c =
    let pushed = c.in_ok-push.ensures.ok in
    let k = c.loop-variable.variable-index in
    let l : k < length c.args.variables.now = omega arith in
    record {
      are = domains_next c.loop-variable.domains.first c.push.new.self.first c.args.variables.now k c.variable-item.result c.in_ok-domain_of.field-0 l c.variable-item.is (ap (λ (t : Trailed). t.first) pushed) c.loop-variable.invariant.are c.in_ok-domain_of.ensures;
      same = ap (λ (t : Trailed). t.now) pushed ∙ sym (ap (λ (t : Trailed). t.first) pushed);
    }
