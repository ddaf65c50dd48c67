-- One domain more.
use Rattle.std.proofs.Common.{◌<◌, length, arith, ◌∙◌, ap}
use Rattle.cps_rup.specs.Known.{Known}
use Rattle.cps_subjects.proofs.Domained.{none_are, domains_next}
use Rattle.cps_tracer.proofs.tracer.checker_of.Goals as goal

pub loop-variable-init : goal.loop-variable-init
loop-variable-init c = record {
  are = none_are c.new-checker.result.domains (ap (λ (k : Known). k.domains) c.new-checker.ensures);
  none = ap (λ (k : Known). k.clauses) c.new-checker.ensures;
}

pub loop-variable-preserved : goal.loop-variable-preserved
loop-variable-preserved c =
    let pushed = c.in_ok-add_subject.ensures.ok in
    let k = c.loop-variable.variable-index in
    let l : k < length c.args.variables.now = omega arith in
    record {
      are = domains_next c.loop-variable.checker.domains c.add_subject.new.self.domains c.args.variables.now k c.variable-item.result c.in_ok-domain_of.field-0 l c.variable-item.is (ap (λ (n : Known). n.domains) pushed) c.loop-variable.invariant.are c.in_ok-domain_of.ensures;
      none = ap (λ (n : Known). n.clauses) pushed ∙ c.loop-variable.invariant.none;
    }
