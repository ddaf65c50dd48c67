-- The position and each of the list so far are kept off each other's numbers.
use Rattle.cps_p_sequence.proofs.Finding.{apart_more, apart_whole}
use Rattle.std.proofs.Common.{◌<◌, ◌^◌, refl, rules, w64}
use Rattle.std.proofs.lemmas.Int.{to_z_pos}
use Rattle.cps_p_sequence.proofs.inverse.keep_apart.Goals as goal

pub loop-place-preserved : goal.loop-place-preserved
loop-place-preserved c =
    let small : c.loop-place.place < 2 ^ 63 = search rules in
    apart_more c.args.store.now c.args.one.subject c.args.one.number c.args.others.now c.loop-place.place c.args.found.now.items c.loop-place.found.items c.keep_off.new.found.items c.keep_off-in-loop-place.new.found.items _ _ c.loop-place-test.true refl (to_z_pos w64 c.loop-place.place small)
    c.in_ok-keep_off.ensures.given c.in_ok-keep_off.ensures.kept c.in_ok-keep_off.ensures.mirrored c.in_ok-keep_off-2.ensures.given c.in_ok-keep_off-2.ensures.kept c.in_ok-keep_off-2.ensures.mirrored c.loop-place.invariant

pub returns-clause-mirrored : goal.returns-clause-mirrored
returns-clause-mirrored c = apart_whole c.args.store.now c.args.one.subject c.args.one.number c.args.others.now c.loop-place.place c.args.found.now.items c.loop-place.found.items c.loop-place-test.false c.loop-place.invariant
