use Rattle.std.proofs.Common.{arith}
use Rattle.std.proofs.lemmas.Int.{ints}
use Rattle.cps_p_arith.proofs.Holding.{free_high}
use Rattle.cps_p_arith.proofs.facts.support_high.Goals as goal

pub returns-then-high-ge-LIMIT : goal.returns-then-high-ge-LIMIT
returns-then-high-ge-LIMIT c = λ _.
    let a = c.if-high-ge-LIMIT.true in
    free_high c.args.past.now c.args.supposed c.args.high c.args.facts.now.items c.requires.facts c.requires.subject c.requires.op c.requires.sound (omega (arith, ints))
