-- The greater of the lower ends against the lesser of the upper ones.
use Rattle.std.proofs.Common.{w64, FitsSigned}
use Rattle.std.proofs.lemmas.Int.{to_z-of_z}
use Rattle.cps_cert.proofs.Apart.{apart_if, apart_only}
use Rattle.cps_cert.proofs.intervals.are_apart.Goals as goal

pub returns : goal.returns
returns c =
    let a = c.ranges.least in
    let b = c.ranges.greatest in
    let d = c.ranges.low in
    let e = c.ranges.high in
    let more : FitsSigned w64 c.max.result = record { sfits = c.max.type_inv } in
    let less : FitsSigned w64 c.min.result = record { sfits = c.min.type_inv } in
    let greater = simp to_z-of_z at c.max.ensures.value in
    let lesser = simp to_z-of_z at c.min.ensures.value in
    rw (to_z-of_z w64 c.max.result more, to_z-of_z w64 c.min.result less) (
      λ h. apart_if c.args.least c.args.greatest c.args.low c.args.high c.max.result c.min.result greater lesser h,
      λ h. apart_only c.args.least c.args.greatest c.args.low c.args.high c.max.result c.min.result greater lesser h,
    )
