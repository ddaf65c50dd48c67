-- The two literals that were true are of the list.
use Rattle.std.proofs.Common.{◌<◌, List, length, sym, subst, arith}
use Rattle.cps_literal.specs.declared.atom.Atom.{Atom}
use Rattle.cps_propagate.proofs.Past.{none}
use Rattle.cps_p_bool.specs.Denying.{Excludes, IsFit}
use Rattle.cps_p_bool.proofs.AtMostOne.{Excludes-two}
use Rattle.cps_p_bool.proofs.AtomPlaces.{two_used}
use Rattle.cps_p_bool.proofs.explain.deny_two.Goals as goal

pub returns : goal.returns
returns c = λ _ body n.
    let a : c.args.noted.place < c.args.noted.other = omega (arith, c.if-first-second.false) in
    let l : c.args.noted.other < length c.args.atoms.now = omega (arith, c.if-second-atoms.false) in
    record {
      used = c.as_slice.result.now;
      excludes = subst (λ (used : List Atom). Excludes c.args.past.now body used) (sym c.as_slice.ensures)
          (Excludes-two body c.args.atoms.now n c.args.past.now c.args.noted.place c.args.noted.other none a l (c.truth.ensures.yes.0 (c.is_yes.ensures.0 c.if-not-is_yes.false)) (c.truth-2.ensures.yes.0 (c.is_yes-2.ensures.0 c.if-not-is_yes-2.false)));
      denies = c.in_ok-deny_antecedents.ensures;
    }

pub deny_antecedents-requires-clause-used_fit : goal.deny_antecedents-requires-clause-used_fit
deny_antecedents-requires-clause-used_fit c =
    let a : c.args.noted.place < c.args.noted.other = omega (arith, c.if-first-second.false) in
    let l : c.args.noted.other < length c.args.atoms.now = omega (arith, c.if-second-atoms.false) in
    two_used (IsFit c.args.past.now.first) c.args.atoms.now c.as_slice.result.now c.args.noted.place c.args.noted.other none c.as_slice.ensures c.requires.atoms_fit (omega (arith, a, l)) l
