-- Each value is tried, and no other is left.
use Rattle.std.specs.Prelude.{Contains}
use Rattle.std.proofs.Common.{◌≡◌, ℕ, ◌+◌, ◌<◌, ℤ, pos, List, length, drop, get_or, true, refl, sym, subst, arith, to_z, w64}
use Rattle.std.proofs.lemmas.Int.{ints}
use Rattle.cps_model.specs.Values.{variable_value}
use Rattle.cps_model.proofs.Inside.{length-are_within}
use Rattle.cps_domain.specs.Window.{is_among}
use Rattle.cps_rup.specs.Domains.{box_in}
use Rattle.cps_cert.specs.Trying.{IsGood}
use Rattle.cps_subjects.proofs.SumEnds.{box_is}
use Rattle.cps_cert.proofs.Steps.{within_set}
use Rattle.cps_cert.proofs.Trials.{is_tried, none_reached, at_any, if_ok, here_either, first_named, others_named, tried, reached_more, same_after, all_left, entered, passed, behind, none_left, low_bits, end_fits, end_bits}
use Rattle.cps_cert.proofs.trying.+can_reach.Goals as goal

pub returns-in_default-clause-reached : goal.returns-in_default-clause-reached
returns-in_default-clause-reached t c =
    if_ok c.is_good.result (λ yes h d. here_either (box_in c.args.trial.now.domains.now) (IsGood c.args.trial.now.model.now c.args.trial.now.sums.now c.args.trial.now.clause.now (box_in c.args.trial.now.domains.now) (get_or c.args.trial.now.model.now.constraints c.args.trial.now.constraint d)) c.args.values.now c.args.unfixed.now yes c.in_default.ensures.cases (h d)) c.is_good.ensures

pub loop-least-init : goal.loop-least-init
loop-least-init t c =
    let domains = c.args.trial.now.domains.now in
    let m = c.args.trial.now.model.now in
    let v = c.in-Some.variable.now in
    let e = c.in-Some.ensures.cases.0 in
    let d = get_or domains v c.index-trial-variable.result in
    let below = first_named (length m.variables) v c.in-Some.others.now c.args.unfixed.now e c.requires.named in
    let many = c.requires.left.many in
    let inside : v < length domains = omega arith in
    let same = box_is domains v v d inside refl (at_any domains v d c.index-trial-variable.result d inside refl) in
    record {
      within = c.requires.within;
      same = λ u n. refl;
      left = λ k r. subst (λ (qs : List (ℤ × ℤ)). is_among qs (variable_value r.assignment v) ≡ true) (sym c.intervals-least-items.ensures.list) (all_left domains d v (variable_value r.assignment v) same (r.reached.inside v (subst (λ (us : List ℕ). Contains us v) (sym e) (0, omega arith, refl))));
    }

pub overflow_add-value-end : goal.overflow_add-value-end
overflow_add-value-end t c = end_fits _ c.intervals-least-items.result.now c.loop-least.least-index (pos 0, pos 0) c.intervals-least-items.ensures.domain c.intervals-least-items.ensures.list c.loop-least-test.true

pub loop-value-init : goal.loop-value-init
loop-value-init t c =
    let ps = c.intervals-least-items.result.now in
    let k = c.loop-least.least-index in
    let low = low_bits _ ps k (pos 0, pos 0) c.intervals-least-items.ensures.domain c.intervals-least-items.ensures.list c.loop-least-test.true in
    let end = end_bits _ ps k (pos 0, pos 0) c.intervals-least-items.ensures.domain c.intervals-least-items.ensures.list c.loop-least-test.true in
    record {
      within = c.loop-least.invariant.within;
      same = c.loop-least.invariant.same;
      from = omega (arith, ints, low);
      left = λ d r. rw (low, end) (entered ps k (pos 0, pos 0) (variable_value r.assignment c.in-Some.variable.now) c.loop-least-test.true (c.loop-least.invariant.left d r));
    }

pub overflow_step-value : goal.overflow_step-value
overflow_step-value t c =
    let long = length-are_within c.args.trial.now.model.now.variables c.loop-value.values c.loop-value.invariant.within in
    let below = first_named (length c.args.trial.now.model.now.variables) c.in-Some.variable.now c.in-Some.others.now c.args.unfixed.now c.in-Some.ensures.cases.0 c.requires.named in
    omega arith

pub can_reach-requires : goal.can_reach-requires
can_reach-requires t c =
    let m = c.args.trial.now.model.now in
    let v = c.in-Some.variable.now in
    let x = to_z w64 c.loop-value.value-bits in
    let h = is_tried c.args.trial.now.domains.now m v c.in-Some.others.now c.args.unfixed.now c.intervals-least-items.result.now c.loop-least.least-index x c.args.values.now c.loop-value.values c.index-trial-variable.result c.in-Some.ensures.cases.0 c.requires.named c.requires.left.many c.intervals-least-items.ensures.list c.intervals-least-items.ensures.domain c.loop-least-test.true c.loop-value.invariant.from c.loop-value-test.true c.requires.within c.loop-value.invariant.within in
    let falls = c.decreases in
    let shorter = c.in-Some.ensures.cases.1 in
    (omega (arith, falls, shorter), (c.requires.exists, (c.requires.definable, (c.requires.over, (c.requires.left, (others_named (length m.variables) v c.in-Some.others.now c.args.unfixed.now c.in-Some.ensures.cases.0 c.requires.named, within_set m.variables c.loop-value.values v x c.loop-value.invariant.within h.below (c.requires.left.at v x h.below h.left)))))))

pub loop-value-preserved : goal.loop-value-preserved
loop-value-preserved t c =
    let m = c.args.trial.now.model.now in
    let v = c.in-Some.variable.now in
    let others = c.in-Some.others.now in
    let unfixed = c.args.unfixed.now in
    let e = c.in-Some.ensures.cases.0 in
    let box = box_in c.args.trial.now.domains.now in
    let old = c.args.values.now in
    let current = c.loop-value.values in
    let x = to_z w64 c.loop-value.value-bits in
    let h = is_tried c.args.trial.now.domains.now m v others unfixed c.intervals-least-items.result.now c.loop-least.least-index x old current c.index-trial-variable.result e c.requires.named c.requires.left.many c.intervals-least-items.ensures.list c.intervals-least-items.ensures.domain c.loop-least-test.true c.loop-value.invariant.from c.loop-value-test.true c.requires.within c.loop-value.invariant.within in
    let low = c.loop-value.invariant.from in
    record {
      within = c.in_ok-can_reach.ensures.within;
      same = same_after box (λ a. a ≡ a) v others unfixed e old current c.can_reach.new.values x c.loop-value.invariant.same c.in_ok-can_reach.ensures.same;
      from = rw h.next (omega (arith, ints));
      left = λ d r. rw h.next (passed _ (variable_value r.assignment v) x _ (tried box (λ a. IsGood m c.args.trial.now.sums.now c.args.trial.now.clause.now box (get_or m.constraints c.args.trial.now.constraint d) a) v others unfixed e old current x h.long h.here c.loop-value.invariant.same (none_reached c.in_ok-can_reach.field-0 c.if-branch.false (c.in_ok-can_reach.ensures.reached d).1) r) (c.loop-value.invariant.left d r));
    }

pub loop-least-preserved : goal.loop-least-preserved
loop-least-preserved t c =
    let ps = c.intervals-least-items.result.now in
    let k = c.loop-least.least-index in
    let test = c.loop-value-test.false in
    record {
      within = c.loop-value.invariant.within;
      same = c.loop-value.invariant.same;
      left = λ d r. behind (is_among (drop (k + 1) ps) (variable_value r.assignment c.in-Some.variable.now) ≡ true) (variable_value r.assignment c.in-Some.variable.now) (to_z w64 c.loop-value.value-bits) _ (omega (arith, ints, test)) (c.loop-value.invariant.left d r);
    }

pub returns-in_err-can_reach-clause-same : goal.returns-in_err-can_reach-clause-same
returns-in_err-can_reach-clause-same t c = same_after (box_in c.args.trial.now.domains.now) (λ a. a ≡ a) c.in-Some.variable.now c.in-Some.others.now c.args.unfixed.now c.in-Some.ensures.cases.0 c.args.values.now c.loop-value.values c.can_reach.new.values (to_z w64 c.loop-value.value-bits) c.loop-value.invariant.same c.in_err-can_reach.ensures.same

pub returns-then-branch-clause-same : goal.returns-then-branch-clause-same
returns-then-branch-clause-same t c = same_after (box_in c.args.trial.now.domains.now) (λ a. a ≡ a) c.in-Some.variable.now c.in-Some.others.now c.args.unfixed.now c.in-Some.ensures.cases.0 c.args.values.now c.loop-value.values c.can_reach.new.values (to_z w64 c.loop-value.value-bits) c.loop-value.invariant.same c.in_ok-can_reach.ensures.same

pub returns-then-branch-clause-reached : goal.returns-then-branch-clause-reached
returns-then-branch-clause-reached t c =
    let m = c.args.trial.now.model.now in
    let v = c.in-Some.variable.now in
    let others = c.in-Some.others.now in
    let unfixed = c.args.unfixed.now in
    let e = c.in-Some.ensures.cases.0 in
    let box = box_in c.args.trial.now.domains.now in
    let old = c.args.values.now in
    let current = c.loop-value.values in
    let x = to_z w64 c.loop-value.value-bits in
    let h = is_tried c.args.trial.now.domains.now m v others unfixed c.intervals-least-items.result.now c.loop-least.least-index x old current c.index-trial-variable.result e c.requires.named c.requires.left.many c.intervals-least-items.ensures.list c.intervals-least-items.ensures.domain c.loop-least-test.true c.loop-value.invariant.from c.loop-value-test.true c.requires.within c.loop-value.invariant.within in
    λ d. ((λ y. reached_more box (λ a. IsGood m c.args.trial.now.sums.now c.args.trial.now.clause.now box (get_or m.constraints c.args.trial.now.constraint d) a) v others unfixed e old current x h.long h.here c.loop-value.invariant.same h.left ((c.in_ok-can_reach.ensures.reached d).0 c.if-branch.true)), λ r. refl)

pub returns-clause-reached : goal.returns-clause-reached
returns-clause-reached t c = λ d. ((λ e. cc), λ r. absurd (none_left c.intervals-least-items.result.now c.loop-least.least-index (variable_value r.assignment c.in-Some.variable.now) (let l = c.loop-least-test.false in omega arith) (c.loop-least.invariant.left d r)))
