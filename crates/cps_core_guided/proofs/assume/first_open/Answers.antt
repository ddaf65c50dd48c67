-- Each term before the one that is looked at has no assumption that is undecided.
use Rattle.std.proofs.Common.{arith, pos, false, get_or, true≢false}
use Rattle.cps_branch.specs.Choice.{IsUndecided}
use Rattle.cps_reform.specs.declared.held.Held.{Held}
use Rattle.cps_reform.specs.Forms.{no_term}
use Rattle.cps_reform.specs.Marks.{assumed}
use Rattle.cps_core_guided.proofs.Openings.{found-here, found-weighs, passed-more, true-now}
use Rattle.cps_core_guided.proofs.assume.first_open.Goals as goal

abbrev none : Held
none = record { weight = 0; subject = 0; bound = pos 0; in_core = false }

pub is_open-requires : goal.is_open-requires
is_open-requires c = c.requires c.loop-place.place none (omega (arith, c.loop-place-test.true))

pub loop-place-preserved : goal.loop-place-preserved
loop-place-preserved c = passed-more (λ (t : Held). IsUndecided c.args.store.now (assumed t)) c.args.terms.now c.loop-place.place none c.loop-place-test.true c.is_open.result c.is_open.ensures c.if-is_open.false c.loop-place.invariant

pub returns-then-is_open-clause-some : goal.returns-then-is_open-clause-some
returns-then-is_open-clause-some c =
    let ts = c.args.terms.now in
    let n = c.loop-place.place in
    record {
      within = c.loop-place-test.true;
      weighs = found-weighs (λ (t : Held). IsUndecided c.args.store.now (assumed t)) ts n none c.loop-place-test.true c.is_open.result c.is_open.ensures c.if-is_open.true no_term;
      left_open = found-here (λ (t : Held). IsUndecided c.args.store.now (assumed t)) ts n none c.loop-place-test.true c.is_open.result c.is_open.ensures c.if-is_open.true no_term;
      first = λ i l weighs undecided. c.loop-place.invariant i no_term l weighs undecided;
    }

pub returns-then-is_open-clause-none : goal.returns-then-is_open-clause-none
returns-then-is_open-clause-none c = λ found. absurd (true≢false found)

pub returns-clause-none : goal.returns-clause-none
returns-clause-none c = λ no_place none_fails k d l weighs.
    let s = c.args.store.now in
    let t = get_or c.args.terms.now k d in
    true-now s (assumed t) (λ not_true. c.loop-place.invariant k d (omega (arith, l, c.loop-place-test.false)) weighs (record { subject = c.requires k d l; not_true = not_true; not_false = none_fails k d l weighs }))
