use Rattle.std.proofs.Common.{◌<◌, ◌^◌, rules, w64}
use Rattle.std.proofs.lemmas.Int.{to_z_pos}
use Rattle.cps_p_sequence.proofs.Finding.{at_subject}
use Rattle.cps_p_sequence.proofs.inverse.explain_from.Goals as goal

pub returns-then-branch : goal.returns-then-branch
returns-then-branch c yes' b paired =
    let k = c.loop-place.place in
    let small : k < 2 ^ 63 = search rules in
    c.in_ok-explain_by.ensures c.if-branch.true b (at_subject b c.args.own.now c.args.others.now k c.args.target.subject _ c.loop-place-test.true c.if-subject-target.true (to_z_pos w64 k small) paired)
