use Rattle.std.proofs.Common.{pos, [], arith, ◌∙◌}
use Rattle.std.proofs.lemmas.Int.{ints}
use Rattle.cps_gen.proofs.Lists.{made_more}
use Rattle.cps_gen.proofs.parts.references.Goals as goal

pub loop-number-preserved : goal.loop-number-preserved
loop-number-preserved c = c.in_ok-push.ensures.items ∙ made_more pos c.loop-number.number [] c.loop-number.refs.items _ (omega (arith, ints)) c.loop-number.invariant
