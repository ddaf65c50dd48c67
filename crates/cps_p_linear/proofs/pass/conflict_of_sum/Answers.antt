use Rattle.std.proofs.Common.{refl, subst, sym}
use Rattle.cps_trail.specs.Trail.{Trail}
use Rattle.cps_p_linear.specs.Measuring.{Asks, reads}
use Rattle.cps_p_linear.specs.Supporting.{AreGrounds}
use Rattle.cps_p_linear.specs.Passing.{IsMeasured, ExcludesSums}
use Rattle.cps_p_linear.proofs.Explained.{conflict_of, none_given, facts_speak}
use Rattle.cps_propagate.proofs.Speaking.{about_itself}
use Rattle.cps_p_linear.proofs.pass.conflict_of_sum.Goals as goal

pub explain_none-requires-clause-measured : goal.explain_none-requires-clause-measured
explain_none-requires-clause-measured c = subst (λ (s : Trail). IsMeasured s c.args.measured.now.task.terms.now c.args.measured.now.task.admitted.now c.args.measured.now.values.now c.args.measured.now.sum) (sym c.present.ensures) c.requires.measured

pub explain_none-requires-clause-facts : goal.explain_none-requires-clause-facts
explain_none-requires-clause-facts c = subst (λ (s : Trail). AreGrounds s c.begin.new.facts.atoms.items) (sym c.present.ensures) (subst (λ us. AreGrounds c.args.store.now us) (sym c.in_ok-begin.ensures.atoms) c.requires.enforced)

pub returns : goal.returns
returns c =
    let m = c.args.measured.now in
    let s = c.args.store.now in
    let x = subst (λ (s : Trail). ExcludesSums s c.args.measured.now.task.terms.now c.args.measured.now.task.admitted.now c.begin.new.facts c.explain_none.new.facts) c.present.ensures c.in_ok-explain_none.ensures in
    conflict_of (Asks m.task) (reads m.task) s c.explain_none.new.facts.atoms.items c.deny_facts.new.facts.atoms.items c.deny_facts.new.facts.reason.items c.deny_facts.new.facts.reason.items
    c.in_ok-deny_facts.ensures.atoms c.in_ok-deny_facts.ensures.reason refl x.extends.facts
    (facts_speak m.task.enforcement.now m.task.enforcement.now m.task.terms.now s c.begin.new.facts c.explain_none.new.facts c.in_ok-begin.ensures.atoms (about_itself m.task.enforcement.now) x.extends)
    (none_given s m.task.enforcement.now m.task.terms.now m.task.admitted.now c.begin.new.facts c.explain_none.new.facts c.in_ok-begin.ensures.atoms x)
