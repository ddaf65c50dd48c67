-- A product below 2^62 fits, where its weight does.
use Rattle.std.proofs.Common.{◌≡◌, ◌≤◌, ℤ, pos, ◌*ℤ◌, ◌∙◌, ap, arith, to_z, w64}
use Rattle.std.specs.Prelude.{unsigned_abs}
use Rattle.std.proofs.lemmas.Int.{ints, to_z-of_z, unsigned_abs-mul}
use Rattle.cps_instance.proofs.Boundings.{fits_small}
use Rattle.cps_reform.proofs.Rooms.{weight-small}
use Rattle.cps_reform.proofs.Words.{fits-product, some_size}
use Rattle.cps_reform.proofs.reform.product.Goals as goal

pub returns-clause-is : goal.returns-clause-is
returns-clause-is c =
    let w = c.args.weight in
    let b = c.args.bound in
    let fb = c.ranges.bound in
    let some : 1 ≤ unsigned_abs b = some_size b c.if-bound-eq0.false in
    let small = weight-small w (unsigned_abs b) some c.requires in
    let e : to_z w64 w ≡ pos w = omega (arith, ints) in
    let size = unsigned_abs-mul (pos w) b in
    let need = c.requires in
    let fits = fits_small (pos w *ℤ b) (omega arith) in
    rw (e, to_z-of_z w64 b fb) (to_z-of_z w64 (pos w *ℤ b) fits)

pub returns-clause-size : goal.returns-clause-size
returns-clause-size c = ap (λ (z : ℤ). unsigned_abs z) (returns-clause-is c) ∙ unsigned_abs-mul (pos c.args.weight) c.args.bound

pub overflow_mul-result : goal.overflow_mul-result
overflow_mul-result c =
    fits-product c.args.weight c.args.bound c.ranges.bound (some_size c.args.bound c.if-bound-eq0.false) c.requires
