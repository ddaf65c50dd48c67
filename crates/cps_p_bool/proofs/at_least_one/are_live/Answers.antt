-- Each of the two atoms is not false at whichever atom stands for one beyond the list.
use Rattle.std.proofs.Common.{◌<◌, length, arith}
use Rattle.cps_literal.specs.declared.atom.Atom.{Atom}
use Rattle.cps_trail.specs.Trail.{IsFalseNow}
use Rattle.cps_p_bool.proofs.AtomPlaces.{at_place}
use Rattle.cps_propagate.proofs.Past.{none}
use Rattle.cps_p_bool.proofs.at_least_one.are_live.Goals as goal

pub returns-then-is_live : goal.returns-then-is_live
returns-then-is_live c = λ t.
    let us = c.args.atoms.now in
    let p = c.args.watches.first in
    let q = c.args.watches.second in
    let a : p < q = omega (arith, c.if-first-second.false) in
    let l : q < length us = omega (arith, c.if-second-atoms.false) in
    record {
      apart = a;
      within = l;
      first_not = λ d. at_place (λ (u : Atom). IsFalseNow c.args.store.now u → ⊥) us p none (c.is_live.ensures c.if-is_live.true) d (omega (arith, a, l));
      second_not = λ d. at_place (λ (u : Atom). IsFalseNow c.args.store.now u → ⊥) us q none (c.is_live-then-is_live.ensures t) d l;
    }
