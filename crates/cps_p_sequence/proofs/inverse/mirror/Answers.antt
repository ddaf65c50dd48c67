-- Each position so far and those of the other list are kept off each other's numbers.
use Rattle.std.proofs.Common.{◌<◌, ◌^◌, refl, rules, w64}
use Rattle.std.proofs.lemmas.Int.{to_z_pos}
use Rattle.cps_p_sequence.proofs.Finding.{mirrors_more, mirrors_whole}
use Rattle.cps_p_sequence.proofs.inverse.mirror.Goals as goal

pub loop-place-preserved : goal.loop-place-preserved
loop-place-preserved c =
    let small : c.loop-place.place < 2 ^ 63 = search rules in
    mirrors_more c.args.store.now c.args.direct.now c.args.inverse.now c.loop-place.place c.args.found.now.items c.loop-place.found.items c.keep_apart.new.found.items _ _ c.loop-place-test.true refl (to_z_pos w64 c.loop-place.place small)
    c.in_ok-keep_apart.ensures.given c.in_ok-keep_apart.ensures.kept c.in_ok-keep_apart.ensures.mirrored c.loop-place.invariant

pub returns-clause-mirrored : goal.returns-clause-mirrored
returns-clause-mirrored c = mirrors_whole c.args.store.now c.args.direct.now c.args.inverse.now c.loop-place.place c.args.found.now.items c.loop-place.found.items c.loop-place-test.false c.loop-place.invariant
