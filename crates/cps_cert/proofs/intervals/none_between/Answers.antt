-- The first interval and the others.
use Rattle.std.proofs.Common.{get_or, pos, rules, FitsSigned, w64, refl, to_z, of_z}
use Rattle.std.proofs.lemmas.Int.{to_z-of_z}
use Rattle.cps_cert.proofs.Apart.{rest_if, rest_only, first_apart}
use Rattle.cps_cert.proofs.Pairs.{not_true}
use Rattle.cps_cert.proofs.intervals.none_between.Goals as goal

pub returns-then-not-are_apart : goal.returns-then-not-are_apart
returns-then-not-are_apart c =
    let rest = c.loop-rest.rest.now in
    let one : FitsSigned w64 (get_or rest 0 (pos 0)) = search rules in
    let two : FitsSigned w64 (get_or rest 1 (pos 0)) = search rules in
    let low = to_z-of_z w64 c.args.low c.ranges.low in
    let high = to_z-of_z w64 c.args.high c.ranges.high in
    let said = rw (to_z-of_z w64 (get_or rest 0 (pos 0)) one, to_z-of_z w64 (get_or rest 1 (pos 0)) two) at c.are_apart.ensures in
    let kept = c.loop-rest.invariant.rest in (
      λ h. absurd (not_true _ refl h),
      λ h. absurd (not_true c.are_apart.result c.if-not-are_apart.true (said.1 (first_apart (to_z w64 (of_z w64 c.args.low)) (to_z w64 (of_z w64 c.args.high)) rest c.in-len2-up.len_at_least (kept (rw (low, high) h))))),
    )

pub loop-rest-preserved : goal.loop-rest-preserved
loop-rest-preserved c =
    let rest = c.loop-rest.rest.now in
    let low = to_z w64 (of_z w64 c.args.low) in
    let high = to_z w64 (of_z w64 c.args.high) in
    let one : FitsSigned w64 (get_or rest 0 (pos 0)) = search rules in
    let two : FitsSigned w64 (get_or rest 1 (pos 0)) = search rules in
    let said = rw (to_z-of_z w64 (get_or rest 0 (pos 0)) one, to_z-of_z w64 (get_or rest 1 (pos 0)) two) at c.are_apart.ensures in
    record {
      all = λ h. c.loop-rest.invariant.all (rest_if low high rest c.in-len2-up.len_at_least (said.0 c.if-not-are_apart.false) h);
      rest = λ h. rest_only low high rest c.in-len2-up.len_at_least (c.loop-rest.invariant.rest h);
    }
