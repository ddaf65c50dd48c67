use Rattle.std.proofs.Common.{arith}
use Rattle.std.proofs.lemmas.Int.{ints}
use Rattle.cps_p_arith.proofs.Holding.{free_low}
use Rattle.cps_p_arith.proofs.facts.support_low.Goals as goal

pub returns-then-low : goal.returns-then-low
returns-then-low c = λ _.
    let a = c.if-low.true in
    free_low c.args.past.now c.args.supposed c.args.low c.args.facts.now.items c.requires.facts c.requires.subject c.requires.op c.requires.sound (omega (arith, ints))
