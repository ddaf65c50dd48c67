-- All entries by which the atom fell are passed.
use Rattle.std.proofs.Common.{ℕ, ◌≡◌, ◌-◌, length, take, subst, arith, length-take-le}
use Rattle.cps_trail.proofs.Walks.{step_back}
use Rattle.cps_conflict.specs.Antecedents.{PassedSoFar}
use Rattle.cps_conflict.proofs.Certifying.{past, Passed-none, Passed-more, refuted_by_all}
use Rattle.cps_conflict.proofs.certifier.Certifier.is_worn_away.Goals as goal

pub loop-found-init : goal.loop-found-init
loop-found-init c = record {
  within = omega arith;
  so_far = Passed-none c.args.store.now c.args.self.now.clause.items c.args.self.now.known.items c.args.atom c.falsified-count.result c.last_within-last.result c.falsified-count.ensures.within c.last_within-last.ensures;
}

pub loop-found-smaller : goal.loop-found-smaller
loop-found-smaller c =
    (step_back c.args.store.now.entries c.args.atom.subject c.loop-found.found c.last_before-found.result (omega (arith, c.loop-found-test.true)) (omega (arith, c.loop-found.invariant.so_far.within, c.falsified-count.ensures.within)) c.loop-found.invariant.so_far.here c.last_before-found.ensures).lower

pub loop-found-preserved : goal.loop-found-preserved
loop-found-preserved c =
    let s = c.args.store.now in
    let count = c.falsified-count.result in
    let found = c.loop-found.found in
    let last = c.last_within-last.result in
    let i = c.loop-found.invariant in
    let some = c.loop-found-test.true in
    let step = step_back s.entries c.args.atom.subject found c.last_before-found.result (omega (arith, some)) (omega (arith, i.so_far.within, c.falsified-count.ensures.within)) i.so_far.here c.last_before-found.ensures in
    let len : length (take count s.entries) ≡ count = length-take-le count s.entries c.falsified-count.ensures.within in
    record {
      within = omega (arith, step.lower, i.within);
      so_far = Passed-more s c.args.self.now.clause.items c.args.self.now.known.items c.args.atom count found c.last_before-found.result c.falsified-count.ensures.within (omega (arith, some)) i.so_far c.last_before-found.ensures
          (c.is_passed.ensures c.if-not-is_passed.false (λ other. i.so_far.passed (last - 1) (past found last (omega (arith, some)) i.within other) (omega (arith, c.last_within-last.ensures.within, len, some, i.within))));
    }

pub returns : goal.returns
returns c = λ yes.
    refuted_by_all c.args.store.now c.args.self.now.clause.items c.args.self.now.known.items c.args.atom c.falsified-count.result c.falsified-count.ensures
    (subst (λ (n : ℕ). PassedSoFar c.args.store.now c.args.self.now.clause.items c.args.self.now.known.items c.args.atom c.falsified-count.result n) (omega (arith, c.loop-found-test.false)) c.loop-found.invariant.so_far)
