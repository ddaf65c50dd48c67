use Rattle.std.proofs.Common.{rules, FitsSigned, w64, ◌*ℤ◌}
use Rattle.std.proofs.lemmas.Int.{to_z-of_z}
use Rattle.cps_p_arith.proofs.Scaling.{times_between, corner}
use Rattle.cps_p_arith.proofs.product.times.Goals as goal

pub returns-clause-sound : goal.returns-clause-sound
returns-clause-sound c = λ x y p b.
    let f : FitsSigned w64 c.args.factor.low = search rules in
    let g : FitsSigned w64 c.args.factor.high = search rules in
    let one = rw (to_z-of_z w64 c.args.factor.low f) at c.scaled-one.ensures.sound y b in
    let other = rw (to_z-of_z w64 c.args.factor.high g) at c.scaled-other.ensures.sound y b in
    times_between c.args.factor.low c.args.factor.high x y c.scaled-one.result.low c.scaled-one.result.high c.scaled-other.result.low c.scaled-other.result.high c.joined.result.low c.joined.result.high
    p one other c.joined.ensures.low (search rules) c.joined.ensures.other_low c.joined.ensures.other_high

pub returns-clause-exact : goal.returns-clause-exact
returns-clause-exact c = λ x y p b.
    let f : FitsSigned w64 c.args.factor.low = search rules in
    let g : FitsSigned w64 c.args.factor.high = search rules in
    let one = rw (to_z-of_z w64 c.args.factor.low f, p.from) at c.scaled-one.ensures.exact y b in
    let other = rw (to_z-of_z w64 c.args.factor.high g, p.to) at c.scaled-other.ensures.exact y b in
    c.joined.ensures.exact (x *ℤ y) one other

pub returns-clause-low : goal.returns-clause-low
returns-clause-low c =
    let f : FitsSigned w64 c.args.factor.low = search rules in
    let g : FitsSigned w64 c.args.factor.high = search rules in
    let one = rw (to_z-of_z w64 c.args.factor.low f) at c.scaled-one.ensures.low in
    let other = rw (to_z-of_z w64 c.args.factor.high g) at c.scaled-other.ensures.low in
    corner c.args.factor c.args.range c.joined.result.low c.scaled-one.result.low c.scaled-other.result.low c.joined.ensures.one_of_low one other

pub returns-clause-high : goal.returns-clause-high
returns-clause-high c =
    let f : FitsSigned w64 c.args.factor.low = search rules in
    let g : FitsSigned w64 c.args.factor.high = search rules in
    let one = rw (to_z-of_z w64 c.args.factor.low f) at c.scaled-one.ensures.high in
    let other = rw (to_z-of_z w64 c.args.factor.high g) at c.scaled-other.ensures.high in
    corner c.args.factor c.args.range c.joined.result.high c.scaled-one.result.high c.scaled-other.result.high c.joined.ensures.one_of_high one other
