use Rattle.std.proofs.Common.{arith}
use Rattle.std.proofs.lemmas.Int.{ints}
use Rattle.cps_p_linear.proofs.Explained.{goal_between, rooms_of_width}
use Rattle.cps_p_linear.proofs.Strong.{hulls_bound, strong_of_rooms}
use Rattle.cps_p_linear.proofs.pass.is_at_rest.Goals as goal

pub is_roomy-requires-clause-low : goal.is_roomy-requires-clause-low
is_roomy-requires-clause-low c =
    let b = goal_between c.args.task.now.admitted.now c.spread_now-whole.result.sum c.in-Some.goal c.in-Some.ensures in
    let x = b.low in
    let y = b.ordered in
    omega (arith, ints)

pub returns-in-Some : goal.returns-in-Some
returns-in-Some c e =
    let s = c.args.store.now in
    let ts = c.args.task.now.terms.now in
    let whole = c.spread_now-whole.result in
    let here = c.spread_now-whole.ensures in
    let wide = c.is_roomy.ensures e in
    strong_of_rooms s ts here.values c.args.task.now.admitted.now whole.sum c.in-Some.goal here.hulls here.ends c.in-Some.ensures
    (rooms_of_width s whole.sum c.in-Some.goal ts here.values whole.widest (hulls_bound s ts here.values here.hulls) here.widths wide.above wide.below)
