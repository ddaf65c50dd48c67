use Rattle.cps_p_sequence.proofs.Apart.{fits_direct, fits_inverse, side_direct, side_inverse}
use Rattle.cps_p_sequence.proofs.inverse.InverseRule.refute.Goals as goal

pub refute-requires-clause-fits_direct : goal.refute-requires-clause-fits_direct
refute-requires-clause-fits_direct c = fits_direct c.args.self.now c.self.inside.direct.items c.self.inside.inverse.items c.self.inside.sides.direct c.self.inside.sides.inverse c.self.view_is c.self.invariant c.args.past.now.first c.requires.fits

pub refute-requires-clause-fits_inverse : goal.refute-requires-clause-fits_inverse
refute-requires-clause-fits_inverse c = fits_inverse c.args.self.now c.self.inside.direct.items c.self.inside.inverse.items c.self.inside.sides.direct c.self.inside.sides.inverse c.self.view_is c.self.invariant c.args.past.now.first c.requires.fits

pub returns : goal.returns
returns c e =
    let b = c.args.self.now in
    let direct = side_direct b c.self.inside.direct.items c.self.inside.inverse.items c.self.inside.sides.direct c.self.inside.sides.inverse c.self.view_is c.self.invariant c.args.past.now.first c.requires.fits in
    let inverse = side_inverse b c.self.inside.direct.items c.self.inside.inverse.items c.self.inside.sides.direct c.self.inside.sides.inverse c.self.view_is c.self.invariant c.args.past.now.first c.requires.fits in
    c.in_ok-is_refuted.ensures e b direct inverse
