-- The level at an event's greatest time passes the limit, or leaves room there.
use Rattle.std.proofs.Common.{true≢false, ◌<ℤ◌, ◌≤ℤ◌, rules, FitsSigned, w64}
use Rattle.std.specs.Int.{w128}
use Rattle.std.proofs.lemmas.Int.{ints, to_z-of_z}
use Rattle.cps_p_cumulative.proofs.Levelled.{over_limit, room_after}
use Rattle.cps_p_cumulative.proofs.level.passes.Goals as goal

pub returns-then-limit-level-clause-over : goal.returns-then-limit-level-clause-over
returns-then-limit-level-clause-over c = λ e.
    let t = c.ends-time.result.1 in
    let v = c.least_level-level.result in
    let lim = c.limit-limit.result in
    let f : FitsSigned w64 t = search rules in
    let g : FitsSigned w128 v = search rules in
    let h : FitsSigned w128 lim = search rules in
    let l : lim <ℤ v = (let o = c.if-limit-level.true in search (rules, ints)) in
    let level = rw (to_z-of_z w64 t f) at c.least_level-level.ensures in
    over_limit c.args.past.now c.args.tank.now c.args.side t v lim c.requires.zero c.requires.tank c.limit-limit.ensures l level

pub returns-clause-room : goal.returns-clause-room
returns-clause-room c = λ e.
    let t = c.ends-time.result.1 in
    let v = c.least_level-level.result in
    let lim = c.limit-limit.result in
    let f : FitsSigned w64 t = search rules in
    let g : FitsSigned w128 v = search rules in
    let h : FitsSigned w128 lim = search rules in
    let l : v ≤ℤ lim = (let o = c.if-limit-level.false in search (rules, ints)) in
    let level = rw (to_z-of_z w64 t f) at c.least_level-level.ensures in
    room_after c.args.past.now c.args.tank.now c.args.side t v lim c.args.event.now c.limit-limit.ensures l level c.ends-time.ensures.high c.ends-time.ensures.greatest

pub least_level-level-requires : goal.least_level-level-requires
least_level-level-requires c = c.requires.tank

pub returns-then-limit-level-clause-room : goal.returns-then-limit-level-clause-room
returns-then-limit-level-clause-room c = λ e. absurd (true≢false e)
