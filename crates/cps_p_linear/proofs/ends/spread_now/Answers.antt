use Rattle.std.proofs.Common.{pos, get_or, arith, [], ◌∷◌, ◌++◌}
use Rattle.std.proofs.lemmas.Int.{ints}
use Rattle.std.proofs.lemmas.List.{get_or_default}
use Rattle.cps_instance.specs.declared.term.Term.{Term}
use Rattle.cps_p_linear.proofs.Reaches.{term_reach, more_room, measured_more, wider_more, spread_none, spread_all}
use Rattle.cps_p_linear.proofs.ends.spread_now.Goals as goal

none : Term
none = record { coeff = pos 0; subject = 0 }

pub term_ends-own-requires : goal.term_ends-own-requires
unfolding none
term_ends-own-requires c = term_reach c.args.store.now c.args.terms.now c.loop-term.term-index none c.ends_now-ends.result c.requires c.loop-term-test.true c.ends_now-ends.ensures.bounded

pub sum_ends-sum-requires-clause-low : goal.sum_ends-sum-requires-clause-low
unfolding none
sum_ends-sum-requires-clause-low c =
    let k = c.loop-term.term-index in
    let t = get_or c.args.terms.now k none in
    (more_room c.args.store.now c.args.terms.now k c.loop-term.invariant.values c.loop-term.sum t c.ends_now-ends.result c.term_ends-own.result c.requires c.loop-term.invariant.measured c.loop-term-test.true (get_or_default c.args.terms.now k none t c.loop-term-test.true) c.ends_now-ends.ensures c.term_ends-own.ensures.low c.term_ends-own.ensures.high).1

pub sum_ends-sum-requires-clause-high : goal.sum_ends-sum-requires-clause-high
unfolding none
sum_ends-sum-requires-clause-high c =
    let k = c.loop-term.term-index in
    let t = get_or c.args.terms.now k none in
    (more_room c.args.store.now c.args.terms.now k c.loop-term.invariant.values c.loop-term.sum t c.ends_now-ends.result c.term_ends-own.result c.requires c.loop-term.invariant.measured c.loop-term-test.true (get_or_default c.args.terms.now k none t c.loop-term-test.true) c.ends_now-ends.ensures c.term_ends-own.ensures.low c.term_ends-own.ensures.high).2

pub loop-term-init : goal.loop-term-init
loop-term-init c = spread_none c.args.store.now c.args.terms.now

pub loop-term-preserved : goal.loop-term-preserved
unfolding none
loop-term-preserved c =
    let k = c.loop-term.term-index in
    let t = get_or c.args.terms.now k none in
    let is = get_or_default c.args.terms.now k none t c.loop-term-test.true in
    record {
      values = c.loop-term.invariant.values ++ c.ends_now-ends.result ∷ [];
      measured = measured_more c.args.store.now c.args.terms.now k c.loop-term.invariant.values c.loop-term.sum c.sum_ends-sum.result t c.ends_now-ends.result c.term_ends-own.result c.loop-term.invariant.measured c.loop-term-test.true is c.ends_now-ends.ensures
          c.term_ends-own.ensures.low c.term_ends-own.ensures.high c.sum_ends-sum.ensures.low c.sum_ends-sum.ensures.high;
      widths = wider_more c.args.store.now c.args.terms.now k c.loop-term.invariant.values c.loop-term.widest _ t c.ends_now-ends.result c.loop-term.invariant.measured.hulls c.loop-term.invariant.widths c.loop-term-test.true is (omega arith) (omega (arith, ints));
    }

pub returns : goal.returns
returns c = let over = c.loop-term-test.false in spread_all c.args.store.now c.args.terms.now c.loop-term.term-index c.loop-term.sum c.loop-term.widest (omega arith) c.loop-term.invariant
