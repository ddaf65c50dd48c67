-- Each atom but those that the target denies is cited; all were seen at the end.
use Rattle.std.proofs.Common.{pos, refl, rules}
use Rattle.std.proofs.lemmas.List.{take_all}
use Rattle.cps_literal.specs.declared.atom.Atom.{Atom}
use Rattle.cps_literal.specs.declared.atom.Op.TheVariants.{Le}
use Rattle.cps_p_span.proofs.Citing.{cites_none}
use Rattle.cps_p_span.proofs.Citing.{others_more, others_whole}
use Rattle.cps_instance.specs.Tasks.{atom_subjects}
use Rattle.cps_p_span.proofs.Refusing.{refused}
use Rattle.cps_p_span.proofs.facts.cite_others.Goals as goal

abbrev no_atom : Atom
no_atom = record { subject = 0; op = Le; value = pos 0 }

pub loop-atom-init : goal.loop-atom-init
loop-atom-init c = cites_none c.args.past.now (atom_subjects c.args.atoms.now) c.args.facts.now.items _ (λ xs n. refl)

pub loop-atom-preserved : goal.loop-atom-preserved
loop-atom-preserved c = others_more c.args.past.now c.args.facts.now.items c.loop-atom.facts.items c.cite_unless_denied.new.facts.items c.args.atoms.now c.loop-atom.atom-index no_atom c.args.target c.loop-atom-test.true c.loop-atom.invariant (search rules)

pub returns : goal.returns
returns c e = others_whole c.args.past.now c.args.facts.now.items c.loop-atom.facts.items c.args.atoms.now c.loop-atom.atom-index c.args.target (take_all c.loop-atom.atom-index c.args.atoms.now c.loop-atom-test.false) c.loop-atom.invariant

pub returns-then-not-branch : goal.returns-then-not-branch
returns-then-not-branch c e = refused e
