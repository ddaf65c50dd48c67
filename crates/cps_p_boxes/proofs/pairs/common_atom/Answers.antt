-- The same atom is the last of both spans.
use Rattle.std.proofs.Common.{◌≡◌, sym, subst, rules}
use Rattle.cps_literal.specs.declared.atom.Atom.{Atom}
use Rattle.cps_p_boxes.specs.Boxes.{MakesPresent}
use Rattle.cps_p_boxes.proofs.pairs.common_atom.Goals as goal

pub returns-then-eq-clause-present : goal.returns-then-eq-clause-present
returns-then-eq-clause-present c = λ s is has.
    let same : c.in_ok-one.one ≡ c.in_ok-other.other = search rules in
    record {
      along = c.in_ok-one.ensures.present s is;
      across = subst (λ (u : Atom). MakesPresent s c.args.across.now.spans c.args.place u) (sym same) (c.in_ok-other.ensures.present s has);
    }
