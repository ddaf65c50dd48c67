-- The literal that was false is one of the list.
use Rattle.std.proofs.Common.{◌<◌, List, length, sym, subst, arith}
use Rattle.cps_literal.specs.declared.atom.Atom.{Atom}
use Rattle.cps_instance.specs.declared.task.Body.TheVariants.{BoolAnd}
use Rattle.cps_propagate.proofs.Past.{none}
use Rattle.cps_p_bool.specs.Denying.{Excludes, IsFit}
use Rattle.cps_p_bool.proofs.Conjunctions.{Excludes-and}
use Rattle.cps_p_bool.proofs.AtomPlaces.{one_used}
use Rattle.cps_p_bool.proofs.explain.deny_failed.Goals as goal

pub returns : goal.returns
returns c = λ _.
    let l : c.args.place < length c.args.atoms.now = omega (arith, c.if-place-atoms.false) in
    record {
      used = c.as_slice.result.now;
      excludes = subst (λ (used : List Atom). Excludes c.args.past.now (BoolAnd c.args.atoms.now) used) (sym c.as_slice.ensures) (Excludes-and c.args.past.now c.args.atoms.now c.args.place none l (c.truth.ensures.no.0 (c.is_no.ensures.0 c.if-not-is_no.false)));
      denies = c.in_ok-deny_antecedents.ensures;
    }

pub deny_antecedents-requires-clause-used_fit : goal.deny_antecedents-requires-clause-used_fit
deny_antecedents-requires-clause-used_fit c = one_used (IsFit c.args.past.now.first) c.args.atoms.now c.as_slice.result.now c.args.place none c.as_slice.ensures c.requires.atoms_fit (omega (arith, c.if-place-atoms.false))
