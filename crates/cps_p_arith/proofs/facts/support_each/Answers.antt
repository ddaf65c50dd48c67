use Rattle.std.proofs.Common.{true, ◌≡◌, ap, Ok, arith}
use Rattle.cps_p_arith.proofs.Holding.{supports_more}
use Rattle.cps_p_arith.proofs.facts.support_each.Goals as goal

pub loop-k-preserved : goal.loop-k-preserved
loop-k-preserved c =
    let t : c.in_ok-support.field-0 ≡ true = grind arith in
    supports_more c.args.past.now c.args.supposed c.args.exprs.now c.args.ends.now c.loop-k.k _ c.args.facts.now.items c.loop-k.facts.items c.support.new.facts.items c.loop-k-test.true c.requires.len
    c.loop-k.invariant (c.in_ok-support.ensures (ap Ok t))
