-- A fixed length that is no less than what is asked for is taken.
use Rattle.std.proofs.Common.{◌≤ℤ◌, pos, arith, rules, FitsSigned}
use Rattle.std.proofs.lemmas.Int.{ints}
use mir.Syntax.{w64}
use Rattle.cps_p_nooverlap.proofs.Lasting.{lasts_far}
use Rattle.cps_p_nooverlap.proofs.windows.lasts.Goals as goal

pub returns-then-needed-taken : goal.returns-then-needed-taken
returns-then-needed-taken c = λ t xs.
    let f : FitsSigned w64 c.in-Some.far = search rules in
    let enough : pos c.args.weight ≤ℤ c.in-Some.far = omega (arith, ints, c.if-needed-taken.true) in
    lasts_far xs c.args.span.now c.args.weight c.in-Some.far c.in-Some.is enough
