use Rattle.std.proofs.Common.{get_or, arith}
use Rattle.cps_trail.proofs.Times.{IsFalseAfter-take}
use Rattle.cps_clauses.specs.Watches.{clause_of}
use Rattle.cps_clauses.proofs.Guards.{still_later}
use Rattle.cps_clauses.proofs.propagate.wakes_some.Goals as goal

pub loop-entry-init : goal.loop-entry-init
loop-entry-init c = λ clauses watching. record { each = λ i p d b two watched f. f }

pub returns-then-wakes-clause-yes : goal.returns-then-wakes-clause-yes
returns-then-wakes-clause-yes c = λ _ clauses watching still.
    c.wakes.ensures.yes c.if-wakes.true clauses watching (still_later clauses c.args.watching.now.watches.items c.args.store.now c.args.from c.loop-entry.entry (omega (arith, c.loop-entry.auto.entry)) still)

pub loop-entry-preserved : goal.loop-entry-preserved
loop-entry-preserved c = λ clauses watching. record {
  each = λ i p d b two watched f. (c.loop-entry.invariant clauses watching).each i p d b two watched (c.wakes.ensures.no c.if-wakes.false clauses watching i p d b two watched f);
}

pub returns-clause-no : goal.returns-clause-no
returns-clause-no c = λ _ clauses watching. record {
  each = λ i p d b two watched f. (c.loop-entry.invariant clauses watching).each i p d b two watched (IsFalseAfter-take c.args.store.now.first c.args.store.now.entries c.args.to c.loop-entry.entry (get_or (clause_of clauses i) p d) (omega (arith, c.loop-entry-test.false)) f);
}
