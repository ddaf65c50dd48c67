use Rattle.std.proofs.Common.{List, pos, subst}
use Rattle.std.specs.List.{All}
use Rattle.std.proofs.lemmas.List.{take_all}
use Rattle.std.proofs.lemmas.List.Elements.{All-more}
use Rattle.cps_literal.specs.declared.atom.Atom.{Atom}
use Rattle.cps_literal.specs.declared.atom.Op.TheVariants.{Le}
use Rattle.cps_trail.specs.Trail.{IsTrueNow}
use Rattle.cps_p_cumulative.proofs.measure.are_true.Goals as goal

abbrev no_atom : Atom
no_atom = record { subject = 0; op = Le; value = pos 0 }

pub returns-clause-yes : goal.returns-clause-yes
returns-clause-yes c yes' = subst (λ (us : List Atom). All (IsTrueNow c.args.past.now) us) (take_all c.loop-atom.atom-index c.args.atoms.now c.loop-atom-test.false) c.loop-atom.invariant

pub loop-atom-preserved : goal.loop-atom-preserved
loop-atom-preserved c = All-more (IsTrueNow c.args.past.now) c.args.atoms.now c.loop-atom.atom-index no_atom c.loop-atom-test.true c.loop-atom.invariant (c.truth.ensures.yes.0 c.in-Yes.is)
