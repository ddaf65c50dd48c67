-- Each assumption before the one that is looked at is not false.
use Rattle.std.proofs.Common.{rules, FitsSigned, w32, ◌∙◌, pos, get_or, ap}
use Rattle.std.proofs.lemmas.Int.{to_z-of_z}
use Rattle.cps_literal.specs.declared.atom.Atom.{Atom}
use Rattle.cps_instance.specs.Posting.{atom_of}
use Rattle.cps_trail.specs.Trail.{IsFalseNow}
use Rattle.cps_search.proofs.Firsts.{one_more}
use Rattle.cps_search.proofs.assumptions.first_failed.Goals as goal

pub loop-number-preserved : goal.loop-number-preserved
loop-number-preserved c =
    let r = get_or c.args.assumptions.now c.loop-number.number (pos 0) in
    let fits : FitsSigned w32 r = search rules in
    one_more (λ (t : Atom). IsFalseNow c.args.store.now t) c.args.assumptions.now c.loop-number.number c.atom_of.result c.is_false.result c.loop-number-test.true (c.atom_of.ensures ∙ ap atom_of (to_z-of_z w32 r fits)) c.is_false.ensures c.if-is_false.false c.loop-number.invariant
