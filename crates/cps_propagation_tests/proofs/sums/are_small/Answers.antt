use Rattle.std.proofs.Common.{◌≤◌, pos, List, refl, subst, length, arith}
use Rattle.std.specs.List.{All}
use Rattle.std.proofs.lemmas.List.{take_all}
use Rattle.std.proofs.lemmas.List.Elements.{All-more}
use Rattle.cps_instance.specs.declared.term.Term.{Term}
use Rattle.cps_propagation_tests.specs.Sums.{IsSmallTerm, AreSmallTerms}
use Rattle.cps_propagation_tests.proofs.sums.are_small.Goals as goal

zero_term : Term
zero_term = record { coeff = pos 0; subject = 0 }

pub loop-term-preserved : goal.loop-term-preserved
unfolding zero_term
loop-term-preserved c = All-more IsSmallTerm c.args.terms.now c.loop-term.term-index zero_term c.loop-term-test.true c.loop-term.invariant (c.if-not-is_small.ensures refl)

pub returns : goal.returns
returns c = λ _. record {
  few = omega arith;
  small = subst (λ (l : List Term). All IsSmallTerm l) (take_all c.loop-term.term-index c.args.terms.now c.loop-term-test.false) c.loop-term.invariant;
}
