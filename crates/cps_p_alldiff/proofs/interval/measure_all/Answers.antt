-- The ends so far are those of the subjects so far.
use mir.Val.{to_z, of_z}
use Rattle.std.proofs.Common.{rules, ℕ, ◌+◌, ◌<◌, ◌≤◌, ℤ, List, length, take, sym, subst, FitsSigned, w64, arith}
use Rattle.std.proofs.Math.ListN.{set}
use Rattle.std.proofs.lemmas.Int.{ints, to_z-of_z}
use Rattle.std.proofs.lemmas.List.{take_all, take_more_set}
use Rattle.cps_trail.specs.Trail.{IsInside}
use Rattle.cps_p_alldiff.specs.declared.interval.Interval.{Interval}
use Rattle.cps_p_alldiff.specs.Intervals.{AreTightIntervals}
use Rattle.cps_p_alldiff.proofs.Ends.{AreTightIntervals-more}
use Rattle.cps_p_alldiff.proofs.interval.measure_all.Goals as goal

pub loop-place-preserved : goal.loop-place-preserved
loop-place-preserved c =
    let s = c.args.store.now in
    let is = c.args.subjects.now in
    let es = c.loop-place.ends in
    let k = c.loop-place.place in
    let m = c.min.result in
    let n = c.max.result in
    let fm : FitsSigned w64 m = search rules in
    let fn : FitsSigned w64 n = search rules in
    let a = c.min.ensures.low in
    let b = c.max.ensures.high in
    let o = c.min.ensures.least n c.max.ensures.within in
    let low : IsInside m = record { low = a; high = omega (arith, ints) } in
    let high : IsInside n = record { low = omega (arith, ints); high = b } in
    let l : k < length is = c.loop-place-test.true in
    let here : k < length es = omega arith in
    let P : ℤ → ℤ → Type 0 = λ x y. AreTightIntervals s (take (k + 1) is) (take (k + 1) (set es k (record { low = x; high = y }))) in
    let more = AreTightIntervals-more s is (take k es) k c.domain-domain.result.now m n l c.domain-domain.ensures
    c.min.ensures.within c.min.ensures.least c.max.ensures.within c.max.ensures.greatest (record { low = low; high = high }) c.loop-place.invariant in
    let written : P m n = subst (λ (gs : List Interval). AreTightIntervals s (take (k + 1) is) gs) (sym (take_more_set es k (record { low = m; high = n }) here)) more in
    subst (λ (x : ℤ). P x (to_z w64 (of_z w64 n))) (sym (to_z-of_z w64 m fm)) (subst (λ (y : ℤ). P m y) (sym (to_z-of_z w64 n fn)) written)

pub returns : goal.returns
returns c =
    let s = c.args.store.now in
    let is = c.args.subjects.now in
    let es = c.loop-place.ends in
    let k = c.loop-place.place in
    let past : length is ≤ k = c.loop-place-test.false in
    let beyond : length es ≤ k = omega arith in
    subst (λ (gs : List Interval). AreTightIntervals s is gs) (take_all k es beyond) (subst (λ (js : List ℕ). AreTightIntervals s js (take k es)) (take_all k is past) c.loop-place.invariant)
