use Rattle.std.proofs.Common.{◌≡◌, min, ◌∙◌, arith}
use Rattle.cps_schema.proofs.Floats.{enough_zeros}
use Rattle.cps_schema.proofs.float.with_zeros.Goals as goal

pub returns : goal.returns
returns c =
    let end : c.loop.counter ≡ min c.args.zeros 20 = omega arith in
    c.loop.invariant ∙ rw end (enough_zeros c.args.number c.args.zeros)
