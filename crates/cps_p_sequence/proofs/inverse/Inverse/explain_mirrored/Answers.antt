-- An atom is given by a fact of the other list, or by the number of places.
use Rattle.std.proofs.Common.{◌<◌, ◌^◌, ℤ, length, sym, subst, pos, rules, w64, true≢false}
use Rattle.std.proofs.lemmas.Int.{to_z_pos}
use Rattle.cps_p_sequence.specs.Inverses.{HasPlace}
use Rattle.cps_p_sequence.proofs.Finding.{is_yes, place_explained}
use Rattle.cps_p_sequence.proofs.Inverting.{even_of, seen_direct, seen_inverse, seen_direct_places, seen_inverse_places, seen_paired, seen_paired_back, placed}
use Rattle.cps_p_sequence.proofs.inverse.Inverse.explain_mirrored.Goals as goal

pub explain_from-requires-clause-others : goal.explain_from-requires-clause-others
explain_from-requires-clause-others c =
    seen_inverse c.args.self.now c.self.inside.direct.items c.self.inside.inverse.items c.as_slice-direct.result.now c.as_slice-inverse.result.now c.self.view_is c.as_slice-direct.ensures.value c.as_slice-inverse.ensures.value (even_of c.args.self.now c.self.inside.direct.items c.self.inside.inverse.items (sym c.self.view_is) c.args.past.now.first c.requires.fits) c.args.past.now.first
    c.requires.fits

pub explain_from-requires-in-Ne-clause-others : goal.explain_from-requires-in-Ne-clause-others
explain_from-requires-in-Ne-clause-others c =
    seen_direct c.args.self.now c.self.inside.direct.items c.self.inside.inverse.items c.as_slice-direct.result.now c.as_slice-inverse.result.now c.self.view_is c.as_slice-direct.ensures.value c.as_slice-inverse.ensures.value (even_of c.args.self.now c.self.inside.direct.items c.self.inside.inverse.items (sym c.self.view_is) c.args.past.now.first c.requires.fits) c.args.past.now.first
    c.requires.fits

pub returns-then-branch : goal.returns-then-branch
returns-then-branch c e =
    c.in_ok-explain_from-in-Ne.ensures c.if-branch.true c.args.self.now
    (seen_paired c.args.self.now c.self.inside.direct.items c.self.inside.inverse.items c.as_slice-direct.result.now c.as_slice-inverse.result.now c.self.view_is c.as_slice-direct.ensures.value c.as_slice-inverse.ensures.value (even_of c.args.self.now c.self.inside.direct.items c.self.inside.inverse.items (sym c.self.view_is) c.args.past.now.first c.requires.fits))

pub returns-in_ok-known-in-Ne : goal.returns-in_ok-known-in-Ne
returns-in_ok-known-in-Ne c e =
    c.in_ok-known-in-Ne.ensures (is_yes c.in_ok-known-in-Ne.known e) c.args.self.now
    (seen_paired_back c.args.self.now c.self.inside.direct.items c.self.inside.inverse.items c.as_slice-direct.result.now c.as_slice-inverse.result.now c.self.view_is c.as_slice-direct.ensures.value c.as_slice-inverse.ensures.value (even_of c.args.self.now c.self.inside.direct.items c.self.inside.inverse.items (sym c.self.view_is) c.args.past.now.first c.requires.fits))

pub returns-then-is_among : goal.returns-then-is_among
returns-then-is_among c e =
    let b = c.args.self.now in
    let ds = c.as_slice-direct.result.now in
    let js = c.as_slice-inverse.result.now in
    let t = c.args.target in
    let small : length ds < 2 ^ 63 = search rules in
    let count = to_z_pos w64 (length ds) small in
    let place = placed b (pos (length ds)) ds t.subject (c.is_among.ensures c.if-is_among.true)
    (seen_direct_places b c.self.inside.direct.items c.self.inside.inverse.items ds js c.self.view_is c.as_slice-direct.ensures.value c.as_slice-inverse.ensures.value (even_of c.args.self.now c.self.inside.direct.items c.self.inside.inverse.items (sym c.self.view_is) c.args.past.now.first c.requires.fits)) in
    place_explained b c.args.past.now t _ c.clear.new.self.items c.clear.ensures.items (c.is_wide.ensures.wide c.if-not-is_wide.false) (subst (λ (z : ℤ). HasPlace b t.subject z) (sym count) place)

pub returns-else-is_among : goal.returns-else-is_among
returns-else-is_among c e =
    let b = c.args.self.now in
    let ds = c.as_slice-direct.result.now in
    let js = c.as_slice-inverse.result.now in
    let t = c.args.target in
    let small : length ds < 2 ^ 63 = search rules in
    let count = to_z_pos w64 (length ds) small in
    let place = placed b (pos (length ds)) js t.subject (c.is_among-in_default.ensures (is_yes c.is_among-in_default.result e))
    (seen_inverse_places b c.self.inside.direct.items c.self.inside.inverse.items ds js c.self.view_is c.as_slice-direct.ensures.value c.as_slice-inverse.ensures.value (even_of c.args.self.now c.self.inside.direct.items c.self.inside.inverse.items (sym c.self.view_is) c.args.past.now.first c.requires.fits)) in
    place_explained b c.args.past.now t _ c.clear.new.self.items c.clear.ensures.items (c.is_wide.ensures.wide c.if-not-is_wide.false) (subst (λ (z : ℤ). HasPlace b t.subject z) (sym count) place)

pub returns-then-not-is_wide : goal.returns-then-not-is_wide
returns-then-not-is_wide c e = absurd (true≢false (sym (is_yes _ e)))
