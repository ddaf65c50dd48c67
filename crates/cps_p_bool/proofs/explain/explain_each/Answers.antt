-- A literal of the list is given by the enforcement literals alone.
use Rattle.std.proofs.Common.{◌<◌, length, arith}
use Rattle.cps_instance.specs.declared.task.Body.TheVariants.{BoolAnd}
use Rattle.cps_instance.specs.Tasks.{HoldsTask}
use Rattle.cps_trail.specs.Notes.{ByTask}
use Rattle.cps_trail.proofs.Inferring.{Infers-refl}
use Rattle.cps_propagate.proofs.Past.{none}
use Rattle.cps_p_bool.specs.Denying.{task_of, IsFit}
use Rattle.cps_p_bool.proofs.Conjunctions.{GivesAtom-and}
use Rattle.std.proofs.lemmas.List.Elements.{All-nil}
use Rattle.cps_p_bool.proofs.explain.explain_each.Goals as goal

pub returns : goal.returns
returns c = λ is.
    let l : c.args.noted.place < length c.args.atoms.now = omega (arith, c.if-noted-atoms.false) in
    c.explain_as.ensures is (BoolAnd c.args.atoms.now)
    (GivesAtom-and c.args.past.now c.args.past.now c.args.enforcement.now c.args.atoms.now c.args.noted.place none (Infers-refl (ByTask 0 (HoldsTask (task_of c.args.enforcement.now (BoolAnd c.args.atoms.now)))) c.args.past.now) c.requires.enforced l)

pub explain_as-requires-clause-used_fit : goal.explain_as-requires-clause-used_fit
explain_as-requires-clause-used_fit c = All-nil (IsFit c.args.past.now.first)

pub explain_as-requires-clause-subject : goal.explain_as-requires-clause-subject
explain_as-requires-clause-subject c = (c.requires.atoms_fit c.args.noted.place none (omega (arith, c.if-noted-atoms.false))).subject
