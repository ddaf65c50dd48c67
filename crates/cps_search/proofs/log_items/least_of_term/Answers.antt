use Rattle.std.proofs.Common.{rules, FitsSigned, w64, ◌*ℤ◌, ◌∙◌}
use Rattle.std.proofs.lemmas.Int.{to_z-of_z}
use Rattle.cps_domain.specs.Window.{intervals}
use Rattle.cps_instance.proofs.Intervals.{least-intervals, greatest-intervals}
use Rattle.cps_instance.proofs.Boundings.{times_least, times_greatest, fits_small}
use Rattle.cps_search.proofs.log_items.least_of_term.Goals as goal

pub overflow_mul-first : goal.overflow_mul-first
overflow_mul-first c =
    let k = c.args.term.now.coeff in
    let v = c.min.result in
    let fk : FitsSigned w64 k = search rules in
    let fv : FitsSigned w64 v = search rules in
    rw (to_z-of_z w64 k fk, to_z-of_z w64 v fv) (fits_small (k *ℤ v) (times_least k (intervals c.args.domain.now) v c.requires (c.min.ensures.is ∙ least-intervals c.args.domain.now c.min.ensures.domain)))

pub overflow_mul-second : goal.overflow_mul-second
overflow_mul-second c =
    let k = c.args.term.now.coeff in
    let v = c.max.result in
    let fk : FitsSigned w64 k = search rules in
    let fv : FitsSigned w64 v = search rules in
    rw (to_z-of_z w64 k fk, to_z-of_z w64 v fv) (fits_small (k *ℤ v) (times_greatest k (intervals c.args.domain.now) v c.requires (c.max.ensures.is ∙ greatest-intervals c.args.domain.now c.max.ensures.domain)))

pub returns : goal.returns
returns c =
    let k = c.args.term.now.coeff in
    let x = c.min.result in
    let y = c.max.result in
    let r = c.min-2.result in
    let fk : FitsSigned w64 k = search rules in
    let fx : FitsSigned w64 x = search rules in
    let fy : FitsSigned w64 y = search rules in
    let fr : FitsSigned w64 r = search rules in
    let least_is = c.min.ensures.is ∙ least-intervals c.args.domain.now c.min.ensures.domain in
    let greatest_is = c.max.ensures.is ∙ greatest-intervals c.args.domain.now c.max.ensures.domain in
    let fp = fits_small (k *ℤ x) (times_least k (intervals c.args.domain.now) x c.requires least_is) in
    let fq = fits_small (k *ℤ y) (times_greatest k (intervals c.args.domain.now) y c.requires greatest_is) in
    let value = simp to_z-of_z at c.min-2.ensures.value in
    rw (to_z-of_z w64 r fr, ← least_is, ← greatest_is) value
