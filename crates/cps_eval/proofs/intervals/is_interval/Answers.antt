-- Equal words are equal numbers.
use Rattle.std.proofs.Common.{◌+ℤ◌, ◌≤ℤ◌, pos, arith, FitsSigned, w64}
use Rattle.std.proofs.lemmas.Int.{ints, fits_signed_from_abs, to_z-of_z}
use Rattle.cps_eval.proofs.Computing.{int_le_is}
use Rattle.cps_eval.proofs.Words.{same_words, words_same}
use Rattle.cps_eval.proofs.intervals.is_interval.Goals as goal

pub returns-then-size-ge0 : goal.returns-then-size-ge0
returns-then-size-ge0 c =
    let s = c.args.start in
    let e = c.args.end in
    let z = c.args.size in
    let fs : FitsSigned w64 s = c.ranges.start in
    let fe : FitsSigned w64 e = c.ranges.end in
    let fz : FitsSigned w64 z = c.ranges.size in
    let fits : FitsSigned w64 (s +ℤ z) = fits_signed_from_abs w64 (s +ℤ z) (let near = c.requires in omega (arith, ints)) in
    let test = simp to_z-of_z at c.if-size-ge0.true in
    let long : pos 0 ≤ℤ z = int_le_is (pos 0) z test in
    simp to_z-of_z (λ t. (long, same_words w64 (s +ℤ z) e fits fe t), λ h. words_same w64 (s +ℤ z) e h.1)
