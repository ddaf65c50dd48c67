-- The level after the last event of a time is the sum so far.
use Rattle.std.proofs.Common.{get_or, refl, rules, arith, sym, ◌∙◌, subst, FitsSigned, w64}
use Rattle.std.specs.Int.{w128}
use Rattle.std.proofs.lemmas.Int.{to_z-of_z}
use Rattle.cps_eval.specs.Levels.{no_event}
use Rattle.cps_eval.proofs.LevelsInOrder.{all_lie_between, level_after_last, lie_between_more, sum_more, near_more, small_change, Within}
use Rattle.cps_eval.proofs.levels.ordered_levels_lie_between.Goals as goal
use Rattle.cps_eval.proofs.levels.ordered_levels_lie_between.Goals.{else-is_last_of_time-via-then-is_last_of_time+else-not-lies_between, else-is_last_of_time-via-else-is_last_of_time}

pub returns : goal.returns
returns c =
    let fl : FitsSigned w128 c.args.least = c.ranges.least in
    let fg : FitsSigned w128 c.args.greatest = c.ranges.greatest in
    let kept = simp to_z-of_z at c.loop-k.invariant.kept in
    (λ _. all_lie_between c.args.events.now c.args.least c.args.greatest c.requires.order (λ j l e. kept j (omega arith) e), λ _. refl)

pub returns-then-not-lies_between : goal.returns-then-not-lies_between
returns-then-not-lies_between c =
    let es = c.args.events.now in
    let k = c.loop-k.k in
    let next = c.after_change-level.result in
    let fits : FitsSigned w64 (get_or es k no_event).change = search rules in
    let fn : FitsSigned w128 next = search rules in
    let fl : FitsSigned w128 c.args.least = c.ranges.least in
    let fg : FitsSigned w128 c.args.greatest = c.ranges.greatest in
    let step = simp to_z-of_z at c.after_change-level.ensures in
    let sum = sum_more es k _ _ (omega arith) step c.loop-k.invariant.sum in
    let here = level_after_last es k c.requires.order (omega arith) (sym c.is_last_of_time.ensures ∙ c.if-is_last_of_time.true) in
    let out = simp to_z-of_z at c.if-not-lies_between.ensures in
    (λ t. cc, λ h. out.1 (subst (Within c.args.least c.args.greatest) (here ∙ sym sum) (h k no_event (omega arith))))

pub loop-k-preserved : goal.loop-k-preserved
loop-k-preserved c =
    let es = c.args.events.now in
    let k = c.loop-k.k in
    let e = get_or es k no_event in
    let fits : FitsSigned w64 e.change = search rules in
    let next = c.after_change-level.result in
    let fits_next : FitsSigned w128 next = search rules in
    let step = simp to_z-of_z at c.after_change-level.ensures in
    let sum = sum_more es k _ _ (omega arith) step c.loop-k.invariant.sum in
    let fl : FitsSigned w128 c.args.least = c.ranges.least in
    let fg : FitsSigned w128 c.args.greatest = c.ranges.greatest in
    record {
      sum = rw (to_z-of_z w128 next fits_next) sum;
      near = rw (to_z-of_z w128 next fits_next) (near_more k _ e.change next step c.loop-k.invariant.near (small_change es k c.requires.small (omega arith)));
      kept =
          lie_between_more es _ _ k c.loop-k.invariant.kept
          (elim c.else-is_last_of_time.branch [
            | else-is_last_of_time-via-then-is_last_of_time+else-not-lies_between w ↦ λ last.
                subst (Within _ _) (to_z-of_z w128 next fits_next ∙ sum ∙ sym (level_after_last es k c.requires.order (omega arith) last)) (w.lies_between.ensures.0 w.if-not-lies_between.false)
            | else-is_last_of_time-via-else-is_last_of_time w ↦ λ last. (let other = c.is_last_of_time.ensures in let false_here = w.if-is_last_of_time.false in cc)
          ]);
    }

pub after_change-level-requires-clause-change : goal.after_change-level-requires-clause-change
after_change-level-requires-clause-change c =
    let es = c.args.events.now in
    let k = c.loop-k.k in
    let fits : FitsSigned w64 (get_or es k no_event).change = search rules in
    rw (to_z-of_z w64 _ fits) (small_change es k c.requires.small (omega arith))
