-- What the sides give is given, and so is what keeps the positions at their places.
use Rattle.std.proofs.Common.{sym}
use Rattle.cps_p_sequence.proofs.Inverting.{even_of, seen_direct, seen_inverse, seen_direct_places, seen_inverse_places, seen_paired, seen_rests}
use Rattle.cps_p_sequence.proofs.Apart.{fits_direct, fits_inverse, side_direct, side_inverse, sides_room, sides_seen, sides_kept, denied_seen, ok_possible, possible_of}
use Rattle.cps_p_sequence.proofs.inverse.InverseRule.look.Goals as goal

pub look-requires-clause-fits_direct : goal.look-requires-clause-fits_direct
look-requires-clause-fits_direct c = fits_direct c.args.self.now c.self.inside.direct.items c.self.inside.inverse.items c.self.inside.sides.direct c.self.inside.sides.inverse c.self.view_is c.self.invariant c.args.store.now.first c.requires.fits

pub look-requires-clause-fits_inverse : goal.look-requires-clause-fits_inverse
look-requires-clause-fits_inverse c = fits_inverse c.args.self.now c.self.inside.direct.items c.self.inside.inverse.items c.self.inside.sides.direct c.self.inside.sides.inverse c.self.view_is c.self.invariant c.args.store.now.first c.requires.fits

pub returns-then-not-is_possible-clause-given : goal.returns-then-not-is_possible-clause-given
returns-then-not-is_possible-clause-given c =
    let b = c.args.self.now in
    let direct = side_direct b c.self.inside.direct.items c.self.inside.inverse.items c.self.inside.sides.direct c.self.inside.sides.inverse c.self.view_is c.self.invariant c.args.store.now.first c.requires.fits in
    let inverse = side_inverse b c.self.inside.direct.items c.self.inside.inverse.items c.self.inside.sides.direct c.self.inside.sides.inverse c.self.view_is c.self.invariant c.args.store.now.first c.requires.fits in
    c.in_ok-judged.ensures.given b direct inverse

pub returns-then-not-is_possible-clause-seen : goal.returns-then-not-is_possible-clause-seen
returns-then-not-is_possible-clause-seen c =
    let b = c.args.self.now in
    let direct = side_direct b c.self.inside.direct.items c.self.inside.inverse.items c.self.inside.sides.direct c.self.inside.sides.inverse c.self.view_is c.self.invariant c.args.store.now.first c.requires.fits in
    let inverse = side_inverse b c.self.inside.direct.items c.self.inside.inverse.items c.self.inside.sides.direct c.self.inside.sides.inverse c.self.view_is c.self.invariant c.args.store.now.first c.requires.fits in
    denied_seen b c.args.store.now c.in_ok-judged.judged (c.is_possible.ensures.no c.if-not-is_possible.true) (c.in_ok-judged.ensures.denied b direct inverse)

pub keep_places-requires-clause-direct : goal.keep_places-requires-clause-direct
keep_places-requires-clause-direct c =
    seen_direct c.args.self.now c.self.inside.direct.items c.self.inside.inverse.items c.as_slice-direct.result.now c.as_slice-inverse.result.now c.self.view_is c.as_slice-direct.ensures.value c.as_slice-inverse.ensures.value (even_of c.args.self.now c.self.inside.direct.items c.self.inside.inverse.items (sym c.self.view_is) c.args.store.now.first c.requires.fits) c.args.store.now.first
    c.requires.fits

pub keep_places-requires-clause-inverse : goal.keep_places-requires-clause-inverse
keep_places-requires-clause-inverse c =
    seen_inverse c.args.self.now c.self.inside.direct.items c.self.inside.inverse.items c.as_slice-direct.result.now c.as_slice-inverse.result.now c.self.view_is c.as_slice-direct.ensures.value c.as_slice-inverse.ensures.value (even_of c.args.self.now c.self.inside.direct.items c.self.inside.inverse.items (sym c.self.view_is) c.args.store.now.first c.requires.fits) c.args.store.now.first
    c.requires.fits

pub returns-clause-given : goal.returns-clause-given
returns-clause-given c =
    let b = c.args.self.now in
    let ds = c.as_slice-direct.result.now in
    let js = c.as_slice-inverse.result.now in
    let even = even_of b c.self.inside.direct.items c.self.inside.inverse.items (sym c.self.view_is) c.args.store.now.first c.requires.fits in
    let direct = side_direct b c.self.inside.direct.items c.self.inside.inverse.items c.self.inside.sides.direct c.self.inside.sides.inverse c.self.view_is c.self.invariant c.args.store.now.first c.requires.fits in
    let inverse = side_inverse b c.self.inside.direct.items c.self.inside.inverse.items c.self.inside.sides.direct c.self.inside.sides.inverse c.self.view_is c.self.invariant c.args.store.now.first c.requires.fits in
    c.in_ok-keep_places.ensures.given b
    (seen_direct_places b c.self.inside.direct.items c.self.inside.inverse.items ds js c.self.view_is c.as_slice-direct.ensures.value c.as_slice-inverse.ensures.value even)
    (seen_inverse_places b c.self.inside.direct.items c.self.inside.inverse.items ds js c.self.view_is c.as_slice-direct.ensures.value c.as_slice-inverse.ensures.value even)
    (seen_paired b c.self.inside.direct.items c.self.inside.inverse.items ds js c.self.view_is c.as_slice-direct.ensures.value c.as_slice-inverse.ensures.value even)
    (c.in_ok-judged.ensures.given b direct inverse)

pub returns-clause-rest : goal.returns-clause-rest
returns-clause-rest c e all =
    let b = c.args.self.now in
    let ds = c.as_slice-direct.result.now in
    let js = c.as_slice-inverse.result.now in
    let even = even_of b c.self.inside.direct.items c.self.inside.inverse.items (sym c.self.view_is) c.args.store.now.first c.requires.fits in
    let k = c.in_ok-keep_places.ensures in
    seen_rests b c.self.inside.direct.items c.self.inside.inverse.items ds js c.self.view_is c.as_slice-direct.ensures.value c.as_slice-inverse.ensures.value even c.args.store.now (k.mirrored all) (k.direct all) (k.inverse all)
    (sides_room c.self.inside.direct.items c.self.inside.inverse.items c.self.inside.sides.direct c.self.inside.sides.inverse c.self.invariant c.args.store.now
    (c.in_ok-judged.ensures.strong (ok_possible c.in_ok-judged.judged (c.is_possible.ensures.yes c.if-not-is_possible.false)) (k.kept all)))

pub returns-clause-seen : goal.returns-clause-seen
returns-clause-seen c =
    sides_seen c.args.self.now c.self.inside.direct.items c.self.inside.inverse.items c.self.inside.sides.direct c.self.inside.sides.inverse c.self.view_is c.self.invariant c.args.store.now
    (c.in_ok-judged.ensures.seen (ok_possible c.in_ok-judged.judged (c.is_possible.ensures.yes c.if-not-is_possible.false)))

pub returns-then-not-is_possible-clause-rest : goal.returns-then-not-is_possible-clause-rest
returns-then-not-is_possible-clause-rest c e all = absurd (c.is_possible.ensures.no c.if-not-is_possible.true (possible_of _ e))

pub invariant_of-self-then-not-is_possible : goal.invariant_of-self-then-not-is_possible
invariant_of-self-then-not-is_possible c = sides_kept _ _ _ _ _ _ c.self.invariant c.in_ok-judged.ensures.keeps_direct c.in_ok-judged.ensures.keeps_inverse

pub invariant_of-self-in_err-keep_places : goal.invariant_of-self-in_err-keep_places
invariant_of-self-in_err-keep_places c = sides_kept _ _ _ _ _ _ c.self.invariant c.in_ok-judged.ensures.keeps_direct c.in_ok-judged.ensures.keeps_inverse

pub invariant_of-self-2 : goal.invariant_of-self-2
invariant_of-self-2 c = sides_kept _ _ _ _ _ _ c.self.invariant c.in_ok-judged.ensures.keeps_direct c.in_ok-judged.ensures.keeps_inverse
