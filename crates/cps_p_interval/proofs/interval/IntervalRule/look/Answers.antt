-- The bounds that are offered follow from the ends that were measured.
use Rattle.std.proofs.Common.{ℤ, Option, refl, subst}
use Rattle.std.specs.Prelude.{IfSome}
use Rattle.cps_p_interval.specs.Intervals.{body_of, LeavesNoInterval}
use Rattle.cps_p_interval.proofs.Bounding.{inside_of, places_of, gives_three, keeps_all, may_be, at_rest}
use Rattle.cps_p_interval.proofs.interval.IntervalRule.look.Goals as goal

pub contradiction-requires : goal.contradiction-requires
contradiction-requires c = inside_of c.args.store.now c.args.self.now.places c.measure-hulls.result c.measure-hulls.ensures

pub offer_size-requires : goal.offer_size-requires
offer_size-requires c = inside_of c.args.store.now c.args.self.now.places c.measure-hulls.result c.measure-hulls.ensures

pub offer_end-requires : goal.offer_end-requires
offer_end-requires c = inside_of c.args.store.now c.args.self.now.places c.measure-hulls.result c.measure-hulls.ensures

pub offer_start-requires : goal.offer_start-requires
offer_start-requires c = inside_of c.args.store.now c.args.self.now.places c.measure-hulls.result c.measure-hulls.ensures

pub returns-in-Some-clause-seen : goal.returns-in-Some-clause-seen
returns-in-Some-clause-seen c =
    let leaves = subst (λ (o : Option ℤ). IfSome o (λ k. LeavesNoInterval c.measure-hulls.result)) c.in-Some.is c.contradiction.ensures.some in
    leaves c.args.store.now c.args.self.now.places (places_of c.args.store.now.first c.args.self.now.places c.requires.fits) c.measure-hulls.ensures

pub returns-clause-given : goal.returns-clause-given
returns-clause-given c =
    let s = c.args.store.now in
    let l = places_of c.args.store.now.first c.args.self.now.places c.requires.fits in
    let m = c.measure-hulls.ensures in
    gives_three (body_of c.args.self.now.places) c.args.store.now c.clear.new.self.items c.offer_size.new.found.items c.offer_end.new.found.items c.offer_start.new.found.items
    c.clear.ensures.items (c.in_ok-offer_size.ensures.given s l m) (c.in_ok-offer_end.ensures.given s l m) (c.in_ok-offer_start.ensures.given s l m)

pub returns-clause-rest : goal.returns-clause-rest
returns-clause-rest c e all =
    let s = c.args.store.now in
    let p = c.args.self.now.places in
    let m = c.measure-hulls.ensures in
    at_rest s p c.measure-hulls.result m (c.in_default.ensures.none refl)
    (keeps_all s p c.measure-hulls.result c.clear.new.self.items c.offer_size.new.found.items c.offer_end.new.found.items c.offer_start.new.found.items m
    c.in_ok-offer_size.ensures.rest c.in_ok-offer_end.ensures.rest c.in_ok-offer_start.ensures.rest all)

pub returns-clause-seen : goal.returns-clause-seen
returns-clause-seen c = λ excluded. excluded (may_be c.args.store.now c.args.self.now.places c.measure-hulls.result c.measure-hulls.ensures (c.in_default.ensures.none refl))
