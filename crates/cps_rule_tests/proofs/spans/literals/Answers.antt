use Rattle.std.proofs.Common.{List, arith, sym, subst}
use Rattle.std.proofs.lemmas.Grind.{common_steps}
use Rattle.std.specs.List.{All}
use Rattle.std.proofs.lemmas.List.Elements.{All-push}
use Rattle.cps_literal.specs.declared.atom.Atom.{Atom}
use Rattle.cps_instance.specs.Fitting.{IsLiteral}
use Rattle.cps_rule_tests.proofs.spans.literals.Goals as goal

pub loop-subject-preserved : goal.loop-subject-preserved
loop-subject-preserved c = record {
  fit = subst (λ (us : List Atom). All (IsLiteral c.args.store.now.first) us) (sym c.in_ok-push.ensures.items)
      (All-push (IsLiteral c.args.store.now.first) c.loop-subject.atoms.items c.in_ok-atom.atom c.loop-subject.invariant.fit c.in_ok-atom.ensures);
  count = grind (arith, common_steps, c.loop-subject.invariant.count, c.in_ok-push.ensures.items);
}
