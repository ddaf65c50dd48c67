use Rattle.std.proofs.Common.{pos, List, refl, subst}
use Rattle.std.specs.List.{All}
use Rattle.std.proofs.lemmas.List.{take_all}
use Rattle.std.proofs.lemmas.List.Elements.{All-more}
use Rattle.cps_literal.specs.declared.atom.Atom.{Atom}
use Rattle.cps_literal.specs.declared.atom.Op.TheVariants.{Le}
use Rattle.cps_propagation_tests.specs.Bits.{IsBit}
use Rattle.cps_propagation_tests.proofs.stores.are_bits.Goals as goal

zero_atom : Atom
zero_atom = record { subject = 0; op = Le; value = pos 0 }

pub loop-atom-preserved : goal.loop-atom-preserved
unfolding zero_atom
loop-atom-preserved c = All-more (IsBit c.args.from c.args.to) c.args.atoms.now c.loop-atom.atom-index zero_atom c.loop-atom-test.true c.loop-atom.invariant (c.if-not-is_bit.ensures refl)

pub returns : goal.returns
returns c = λ _. subst (λ (l : List Atom). All (IsBit c.args.from c.args.to) l) (take_all c.loop-atom.atom-index c.args.atoms.now c.loop-atom-test.false) c.loop-atom.invariant
