-- Each term before the one that is looked at has no false assumption.
use Rattle.std.proofs.Common.{arith, pos, false, true≢false}
use Rattle.cps_trail.specs.Trail.{IsFalseNow}
use Rattle.cps_reform.specs.declared.held.Held.{Held}
use Rattle.cps_reform.specs.Forms.{no_term}
use Rattle.cps_reform.specs.Marks.{assumed}
use Rattle.cps_core_guided.proofs.Openings.{found-here, found-weighs, passed-more}
use Rattle.cps_core_guided.proofs.assume.first_failed.Goals as goal

abbrev none : Held
none = record { weight = 0; subject = 0; bound = pos 0; in_core = false }

pub fails-requires : goal.fails-requires
fails-requires c = c.requires c.loop-place.place none (omega (arith, c.loop-place-test.true))

pub loop-place-preserved : goal.loop-place-preserved
loop-place-preserved c = passed-more (λ (t : Held). IsFalseNow c.args.store.now (assumed t)) c.args.terms.now c.loop-place.place none c.loop-place-test.true c.fails.result c.fails.ensures c.if-fails.false c.loop-place.invariant

pub returns-then-fails-clause-some : goal.returns-then-fails-clause-some
returns-then-fails-clause-some c =
    let ts = c.args.terms.now in
    let n = c.loop-place.place in
    record {
      within = c.loop-place-test.true;
      weighs = found-weighs (λ (t : Held). IsFalseNow c.args.store.now (assumed t)) ts n none c.loop-place-test.true c.fails.result c.fails.ensures c.if-fails.true no_term;
      false_now = found-here (λ (t : Held). IsFalseNow c.args.store.now (assumed t)) ts n none c.loop-place-test.true c.fails.result c.fails.ensures c.if-fails.true no_term;
      first = λ i l weighs falls. c.loop-place.invariant i no_term l weighs falls;
    }

pub returns-then-fails-clause-none : goal.returns-then-fails-clause-none
returns-then-fails-clause-none c = λ found. absurd (true≢false found)

pub returns-clause-none : goal.returns-clause-none
returns-clause-none c = λ _ k d l weighs falls. c.loop-place.invariant k d (omega (arith, l, c.loop-place-test.false)) weighs falls
