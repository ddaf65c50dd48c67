use Rattle.std.proofs.Common.{neg_ℤ, arith}
use Rattle.std.proofs.lemmas.Int.{ints}
use Rattle.cps_p_arith.proofs.Dividing.{divided_neg, turned_reach}
use Rattle.cps_p_arith.proofs.quotient.all_below.Goals as goal

pub returns-clause-sound : goal.returns-clause-sound
returns-clause-sound c = λ t n d q r hn hd h.
    let low = c.negated.ensures.high in
    let high = c.negated-2.ensures.low in
    let past = c.all_above.ensures.sound t (neg_ℤ n) d (neg_ℤ q) (neg_ℤ r) (omega (arith, ints)) hd (divided_neg n d q r h) in
    omega (arith, ints)

pub returns-clause-exact : goal.returns-clause-exact
returns-clause-exact c = λ f o.
    turned_reach c.args.quotient.low c.args.number.high c.negated.result.high c.negated-2.result.low c.args.divisor.low c.args.divisor.high c.negated.ensures.high c.negated-2.ensures.low (c.all_above.ensures.exact f o)
