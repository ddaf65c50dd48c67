use Rattle.std.proofs.Common.{arith}
use Rattle.std.proofs.lemmas.Int.{ints, clamps}
use Rattle.cps_p_interval.proofs.Bounding.{given, gives_offered, keeps_within, below_of, least_is, most_is}
use Rattle.cps_p_interval.specs.Intervals.{least_end, most_end}
use Rattle.cps_p_interval.proofs.interval.offer_end.Goals as goal

pub overflow_add-least : goal.overflow_add-least
overflow_add-least c =
    let a = c.requires.start_low in
    let b = c.requires.start_high in
    let d = c.requires.end_low in
    let e = c.requires.end_high in
    let f = c.requires.size_low in
    let g = c.requires.size_high in
    omega (arith, ints, clamps)

pub returns-clause-rest : goal.returns-clause-rest
returns-clause-rest c =
    let a = c.requires.start_low in
    let b = c.requires.start_high in
    let d = c.requires.end_low in
    let e = c.requires.end_high in
    let f = c.requires.size_low in
    let g = c.requires.size_high in
    keeps_within c.args.places.end c.args.hulls.end c.at_least.result c.at_most.result _ _ (least_end c.args.hulls) (most_end c.args.hulls) c.args.found.now.items c.offer.new.found.items c.offer-2.new.found.items
    c.at_least.ensures (omega (arith, ints, clamps)) c.at_most.ensures (omega (arith, ints, clamps)) c.in_ok-offer.ensures c.in_ok-offer-2.ensures

pub returns-clause-given : goal.returns-clause-given
returns-clause-given c = λ s l m h.
    let p = c.args.places in
    let u = c.args.hulls in
    let a = m.start.low_inside in
    let b = m.start.high_inside in
    let d = m.end.low_inside in
    let e = m.end.high_inside in
    let f = m.size.low_inside in
    let g = m.size.high_inside in
    let low = given s p u c.at_least.result l m (below_of _ _ _ _ _ c.at_least.ensures l.end)
    (λ xs w i. least_is xs c.at_least.result _ _ c.at_least.ensures (let q = i.0 in let r = i.1 in omega (arith, ints, clamps))) in
    let high = given s p u c.at_most.result l m (below_of _ _ _ _ _ c.at_most.ensures l.end)
    (λ xs w i. most_is xs c.at_most.result _ _ c.at_most.ensures (let q = i.0 in let r = i.1 in omega (arith, ints, clamps))) in
    gives_offered _ s u.end c.at_most.result c.offer.new.found.items c.offer-2.new.found.items high c.in_ok-offer-2.ensures
    (gives_offered _ s u.end c.at_least.result c.args.found.now.items c.offer.new.found.items low c.in_ok-offer.ensures h)
