-- Each atom that is seen adds its subject; all were seen at the end.
use Rattle.std.proofs.Common.{◌≡◌, ◌++◌, List}
use Rattle.cps_literal.specs.declared.atom.Atom.{Atom}
use Rattle.cps_instance.specs.Tasks.{atom_subjects}
use Rattle.cps_propagate.proofs.Past.{none}
use Rattle.cps_propagate.proofs.Ending.{at_end, gains_more}
use Rattle.cps_propagate.proofs.subjects.push_atom_subjects.Goals as goal

pub loop-atom-preserved : goal.loop-atom-preserved
loop-atom-preserved c =
    gains_more (λ (u : Atom). u.subject) c.args.atoms.now c.loop-atom.atom-index none c.args.subjects.now.items c.loop-atom.subjects.items c.push.new.self.items c.loop-atom-test.true c.in_ok-push.ensures.items c.loop-atom.invariant

pub returns : goal.returns
returns c = at_end (λ (seen : List Atom). c.loop-atom.subjects.items ≡ c.args.subjects.now.items ++ atom_subjects seen) c.args.atoms.now c.loop-atom.atom-index c.loop-atom-test.false c.loop-atom.invariant
