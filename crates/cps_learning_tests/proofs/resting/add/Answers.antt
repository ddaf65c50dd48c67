use Rattle.std.proofs.Common.{pos, List, subst}
use Rattle.cps_model.specs.declared.bound.Bound.TheVariants.{At}
use Rattle.cps_literal.specs.declared.atom.Atom.{Atom}
use Rattle.cps_clauses.specs.Quiet.{Fits}
use Rattle.cps_learning_tests.proofs.Settling.{IsBaseReady-added}
use Rattle.cps_learning_tests.proofs.resting.add.Goals as goal

pub returns : goal.returns
returns c = λ from ready.
    IsBaseReady-added c.args.base.now c.add.new.self c.args.store.now c.in_ok-clause.clause (At (pos 7)) c.args.origin from c.in_ok-add.ensures.adds c.requires
    (subst (λ (ts : List Atom). Fits c.args.store.now.first ts) c.as_slice.ensures (c.fits.ensures c.if-not-fits.false)) ready
