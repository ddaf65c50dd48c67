-- One atom more is true, and in the end all.
use Rattle.std.proofs.Common.{◌≡◌, true, pos, refl, subst, List}
use Rattle.std.specs.List.{All}
use Rattle.std.specs.Prelude.{Ok}
use Rattle.std.proofs.lemmas.List.{take_all}
use Rattle.cps_literal.specs.declared.atom.Atom.{Atom}
use Rattle.cps_literal.specs.declared.atom.Op.TheVariants.{Le}
use Rattle.cps_literal.specs.Truth.{atom_holds}
use Rattle.cps_instance.specs.Tasks.{atom_subjects}
use Rattle.cps_p_cumulative.specs.Relying.{Relies}
use Rattle.cps_p_cumulative.proofs.Levelled.{ok_true, no_yes}
use Rattle.cps_p_cumulative.proofs.Relied.{Relies-more}
use Rattle.cps_p_cumulative.proofs.charge.rely_all.Goals as goal

abbrev no_atom : Atom
no_atom = record { subject = 0; op = Le; value = pos 0 }

pub loop-atom-preserved : goal.loop-atom-preserved
loop-atom-preserved c =
    let ok : c.rely.result ≡ Ok true = ok_true c.rely.result c.in_ok-rely.field-0 c.in_ok-rely.was c.if-not-branch.false in
    Relies-more c.args.past.now c.args.case.assumed c.args.atoms.now c.loop-atom.atom-index no_atom c.args.facts.now.items c.loop-atom.facts.items c.rely.new.facts.items c.loop-atom-test.true c.loop-atom.invariant (c.rely.ensures ok)

pub returns : goal.returns
returns c = λ ok. subst (λ (us : List Atom). Relies c.args.past.now c.args.case.assumed (atom_subjects c.args.atoms.now) (λ xs. All (λ u. atom_holds xs u ≡ true) us) c.args.facts.now.items c.loop-atom.facts.items) (take_all c.loop-atom.atom-index c.args.atoms.now c.loop-atom-test.false) c.loop-atom.invariant

pub returns-then-not-branch : goal.returns-then-not-branch
returns-then-not-branch c = λ ok. no_yes _ _ ok refl
