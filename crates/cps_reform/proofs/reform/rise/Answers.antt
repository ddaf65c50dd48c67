-- A bound that rises does so by a whole number, and a weight times that has room.
use Rattle.std.proofs.Common.{◌≡◌, ◌*◌, ◌<◌, ◌^◌, ◌*ℤ◌, ◌-ℤ◌, ℤ, pos, arith, subst, sym, unsigned_abs, w64}
use mir.Val.{Fits}
use Rattle.cps_reform.proofs.Words.{gap-is, gap-small, read-gap}
use Rattle.cps_reform.proofs.reform.rise.Goals as goal

pub overflow_mul-result : goal.overflow_mul-result
overflow_mul-result c =
    let f = c.args.from in
    let t = c.args.to in
    let read = read-gap f t c.requires.from c.requires.to in
    subst (λ (x : ℤ). Fits w64 (c.args.weight * unsigned_abs x)) (sym read) (let small = gap-small c.args.weight f t c.requires.small in record { fits = omega (arith, small) })

pub returns-clause-small : goal.returns-clause-small
returns-clause-small c =
    let f = c.args.from in
    let t = c.args.to in
    let read = read-gap f t c.requires.from c.requires.to in
    subst (λ (x : ℤ). c.args.weight * unsigned_abs x < 2 ^ 63) (sym read) (gap-small c.args.weight f t c.requires.small)

pub returns-clause-is : goal.returns-clause-is
returns-clause-is c =
    let f = c.args.from in
    let t = c.args.to in
    let read = read-gap f t c.requires.from c.requires.to in
    subst (λ (x : ℤ). pos (c.args.weight * unsigned_abs x) ≡ pos c.args.weight *ℤ (t -ℤ f)) (sym read) (gap-is c.args.weight f t c.requires.rises)
