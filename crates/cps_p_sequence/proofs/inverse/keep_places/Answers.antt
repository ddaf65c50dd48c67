-- Each part keeps what is found so far, and the number of places is the length of the first list.
use Rattle.std.proofs.Common.{◌<◌, ◌^◌, ℤ, length, sym, subst, rules, w64}
use Rattle.std.specs.List.{All}
use Rattle.std.proofs.lemmas.Int.{to_z_pos}
use Rattle.std.proofs.lemmas.Result.{on_ok_weaker}
use Rattle.cps_p_sequence.specs.Inverses.{HasPlace, IsWithinPlaces}
use Rattle.cps_p_sequence.proofs.inverse.keep_places.Goals as goal

pub returns-clause-given : goal.returns-clause-given
returns-clause-given c = on_ok_weaker c.mirror.result (λ given b direct inverse pairs start.
    let n = length c.args.direct.now in
    let small : n < 2 ^ 63 = search rules in
    let count = to_z_pos w64 n small in
    let first = subst (λ (z : ℤ). All (λ i. HasPlace b i z) c.args.direct.now) (sym count) direct in
    let second = subst (λ (z : ℤ). All (λ i. HasPlace b i z) c.args.inverse.now) (sym count) inverse in
    given b pairs (c.in_ok-keep_within-2.ensures.given b second (c.in_ok-keep_within.ensures.given b first start)))
    c.mirror.ensures.given

pub returns-clause-kept : goal.returns-clause-kept
returns-clause-kept c = on_ok_weaker c.mirror.result (λ kept all. c.in_ok-keep_within.ensures.kept (c.in_ok-keep_within-2.ensures.kept (kept all))) c.mirror.ensures.kept

pub returns-clause-direct : goal.returns-clause-direct
returns-clause-direct c = on_ok_weaker c.mirror.result (λ kept all.
    let n = length c.args.direct.now in
    let small : n < 2 ^ 63 = search rules in
    subst (λ (z : ℤ). All (λ i. IsWithinPlaces c.args.store.now i z) c.args.direct.now) (to_z_pos w64 n small) (c.in_ok-keep_within.ensures.within (c.in_ok-keep_within-2.ensures.kept (kept all))))
    c.mirror.ensures.kept

pub returns-clause-inverse : goal.returns-clause-inverse
returns-clause-inverse c = on_ok_weaker c.mirror.result (λ kept all.
    let n = length c.args.direct.now in
    let small : n < 2 ^ 63 = search rules in
    subst (λ (z : ℤ). All (λ i. IsWithinPlaces c.args.store.now i z) c.args.inverse.now) (to_z_pos w64 n small) (c.in_ok-keep_within-2.ensures.within (kept all)))
    c.mirror.ensures.kept

pub returns-clause-mirrored : goal.returns-clause-mirrored
returns-clause-mirrored c = c.mirror.ensures.mirrored
