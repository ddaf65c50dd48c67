-- Each subject so far is kept among the places.
use Rattle.std.proofs.Common.{refl, rules, w64, FitsSigned, arith}
use Rattle.std.proofs.lemmas.Int.{to_z-of_z}
use Rattle.cps_p_sequence.proofs.Finding.{within_begun, within_more}
use Rattle.cps_p_sequence.proofs.inverse.keep_within.Goals as goal

pub loop-subject-init : goal.loop-subject-init
loop-subject-init c = within_begun _ _ _ _

pub loop-subject-preserved : goal.loop-subject-preserved
loop-subject-preserved c =
    within_more c.args.store.now c.args.subjects.now _ c.loop-subject.subject-index c.args.found.now.items c.loop-subject.found.items c.keep_from_zero.new.found.items c.keep_below.new.found.items _ c.loop-subject-test.true refl
    c.in_ok-keep_from_zero.ensures.given c.in_ok-keep_from_zero.ensures.kept c.in_ok-keep_from_zero.ensures.least c.in_ok-keep_below.ensures.given c.in_ok-keep_below.ensures.kept c.in_ok-keep_below.ensures.below c.loop-subject.invariant

pub returns-clause-given : goal.returns-clause-given
returns-clause-given c =
    let fc : FitsSigned w64 c.args.count = search rules in
    let inv = rw (to_z-of_z w64 c.args.count fc) at c.loop-subject.invariant in
    λ b places gs. inv.given b places gs

pub returns-clause-within : goal.returns-clause-within
returns-clause-within c =
    let past = c.loop-subject-test.false in
    let fc : FitsSigned w64 c.args.count = search rules in
    let inv = rw (to_z-of_z w64 c.args.count fc) at c.loop-subject.invariant in
    λ all k d l. inv.within all k d (omega arith) l
