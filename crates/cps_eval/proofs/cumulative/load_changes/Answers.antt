-- Two changes more, or none, and none that is left.
use Rattle.std.proofs.Common.{get_or, arith, rules, FitsSigned, w64, ◌<ℤ◌, ◌≤ℤ◌, refl}
use Rattle.std.proofs.lemmas.Int.{to_z-of_z, ints}
use Rattle.cps_model.proofs.Pairs.{All-from_test}
use Rattle.cps_eval.specs.Levels.{has_small_demand, load_changes}
use Rattle.cps_eval.proofs.Computing.{all_done}
use Rattle.cps_eval.proofs.Loads.{no_use, beginning, ending, changes-more, changes-less, changes-small}
use Rattle.cps_eval.proofs.cumulative.load_changes.Goals as goal

pub loop-used-preserved : goal.loop-used-preserved
loop-used-preserved c =
    let us = c.args.uses.now in
    let k = c.loop-used.used-index in
    let u = get_or us k no_use in
    let fs : FitsSigned w64 u.start = search rules in
    let fe : FitsSigned w64 u.end = search rules in
    let fd : FitsSigned w64 u.demand = search rules in
    let fn : FitsSigned w64 c.negated.result = search rules in
    let forward = simp to_z-of_z at c.if-used.false in
    let up : u.start <ℤ u.end = grind (arith, ints) in
    let negated = simp to_z-of_z at c.negated.ensures in
    let first = simp to_z-of_z at c.in_ok-push.ensures.items in
    let plain = simp to_z-of_z at c.in_ok-push-2.ensures.items in
    let second = simp negated at plain in
    rw (second, first)
    (record {
      whole = changes-more us k c.loop-used.changes.items _ (beginning u) (ending u) (omega arith) up refl refl c.loop-used.invariant.whole;
      small = changes-small us k c.loop-used.changes.items (beginning u) (ending u) (omega arith) c.requires refl refl c.loop-used.invariant.small;
    })

pub loop-used-preserved-then-used : goal.loop-used-preserved-then-used
loop-used-preserved-then-used c =
    let us = c.args.uses.now in
    let k = c.loop-used.used-index in
    let u = get_or us k no_use in
    let fs : FitsSigned w64 u.start = search rules in
    let fe : FitsSigned w64 u.end = search rules in
    let backward = simp to_z-of_z at c.if-used.true in
    let down : u.end ≤ℤ u.start = grind (arith, ints) in
    record {
      whole = changes-less us k c.loop-used.changes.items _ (omega arith) down c.loop-used.invariant.whole;
      small = c.loop-used.invariant.small;
    }

pub negated-requires : goal.negated-requires
negated-requires c =
    let us = c.args.uses.now in
    let k = c.loop-used.used-index in
    let fd : FitsSigned w64 (get_or us k no_use).demand = search rules in
    rw (to_z-of_z w64 _ fd) (All-from_test has_small_demand us c.requires k no_use (omega arith))

pub returns-clause-value : goal.returns-clause-value
returns-clause-value c = all_done load_changes c.args.uses.now c.loop-used.changes.items _ c.loop-used.used-index refl (omega arith) c.loop-used.invariant.whole
