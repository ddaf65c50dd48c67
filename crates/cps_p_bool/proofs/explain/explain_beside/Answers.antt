-- The literal beside a true one is given its opposite.
use Rattle.std.proofs.Common.{◌<◌, List, length, sym, subst, arith, ℕ}
use Rattle.std.proofs.lemmas.List.{get_or_default}
use Rattle.cps_literal.specs.declared.atom.Atom.{Atom}
use Rattle.cps_trail.specs.Trail.{IsTrueNow}
use Rattle.cps_propagate.proofs.Past.{none}
use Rattle.cps_p_bool.specs.Denying.{GivesAtom, task_of, IsFit}
use Rattle.cps_p_bool.proofs.AtMostOne.{Gives-not}
use Rattle.cps_p_bool.proofs.NegatableLiterals.{negatable_low, negatable_high, negatable_above, negatable_below}
use Rattle.cps_p_bool.proofs.AtomPlaces.{one_used}
use Rattle.cps_p_bool.proofs.explain.explain_beside.Goals as goal

pub returns : goal.returns
returns c = λ is body n.
    let l : c.args.noted.place < length c.args.atoms.now = omega (arith, c.if-place-atoms.false) in
    let m : c.args.noted.other < length c.args.atoms.now = omega (arith, c.if-chosen-atoms.false) in
    c.explain_as.ensures is body
    (subst (λ (used : List Atom). GivesAtom c.args.past.now (task_of c.args.enforcement.now body) used c.negate-given.result) (sym c.as_slice.ensures)
    (Gives-not body c.args.atoms.now n c.args.past.now c.args.enforcement.now c.args.noted.other c.args.noted.place none c.negate-given.result c.requires.enforced m l (λ same. c.if-place-chosen.false same)
    (λ d. subst (λ (u : Atom). IsTrueNow c.args.past.now u) (get_or_default c.args.atoms.now c.args.noted.other none d m) (c.truth.ensures.yes.0 (c.is_yes.ensures.0 c.if-not-is_yes.false)))
    (record { subject = c.negate-given.ensures.subject; negated = c.negate-given.ensures.negated })))

pub negate-given-requires-clause-low : goal.negate-given-requires-clause-low
negate-given-requires-clause-low c = negatable_low (c.requires.atoms_fit c.args.noted.place none (omega (arith, c.if-place-atoms.false)))

pub negate-given-requires-clause-high : goal.negate-given-requires-clause-high
negate-given-requires-clause-high c = negatable_high (c.requires.atoms_fit c.args.noted.place none (omega (arith, c.if-place-atoms.false)))

pub negate-given-requires-clause-above : goal.negate-given-requires-clause-above
negate-given-requires-clause-above c = λ _. negatable_above (c.requires.atoms_fit c.args.noted.place none (omega (arith, c.if-place-atoms.false)))

pub negate-given-requires-clause-below : goal.negate-given-requires-clause-below
negate-given-requires-clause-below c = λ _. negatable_below (c.requires.atoms_fit c.args.noted.place none (omega (arith, c.if-place-atoms.false)))

pub explain_as-requires-clause-used_fit : goal.explain_as-requires-clause-used_fit
explain_as-requires-clause-used_fit c = one_used (IsFit c.args.past.now.first) c.args.atoms.now c.as_slice.result.now c.args.noted.other none c.as_slice.ensures c.requires.atoms_fit (omega (arith, c.if-chosen-atoms.false))

pub explain_as-requires-clause-subject : goal.explain_as-requires-clause-subject
explain_as-requires-clause-subject c = subst (λ (k : ℕ). k < length c.args.past.now.first) (sym c.negate-given.ensures.subject) (c.requires.atoms_fit c.args.noted.place none (omega (arith, c.if-place-atoms.false))).subject
