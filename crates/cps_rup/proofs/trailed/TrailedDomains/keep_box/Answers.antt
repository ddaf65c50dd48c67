-- An atom that is true at all that is left empties the box.
use Rattle.std.proofs.Common.{pos}
use Rattle.cps_literal.specs.declared.atom.Atom.{Atom}
use Rattle.cps_literal.specs.declared.atom.Op.TheVariants.{Le}
use Rattle.cps_rup.specs.Domains.{box_in}
use Rattle.cps_rup.proofs.Denying.{empty_box}
use Rattle.cps_rup.proofs.trailed.TrailedDomains.keep_box.Goals as goal

abbrev blank : Atom
blank = record { subject = 0; op = Le; value = pos 0 }

pub returns-then-not-branch-clause-none : goal.returns-then-not-branch-clause-none
returns-then-not-branch-clause-none c = λ _. (
    let before = c.loop-atom.invariant in
    empty_box _ (box_in c.args.self.now.now) (box_in c.loop-atom.self.now) c.args.clause.now c.loop-atom.atom-index blank c.loop-atom-test.true c.requires before.kept (c.in_ok-deny.ensures.none c.if-not-branch.true))
