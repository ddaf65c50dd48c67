use Rattle.std.specs.Prelude.{Option}
use Rattle.std.specs.Option.{MatchOption}
use Rattle.std.proofs.Common.{subst}
use Rattle.cps_propagate.specs.Strength.{HasRoom}
use Rattle.cps_p_alldiff.specs.declared.interval.Interval.{Interval}
use Rattle.cps_p_alldiff.specs.Intervals.{IsRoomy, IsOverfull}
use Rattle.cps_p_alldiff.proofs.ImpliedAtoms.{ends_read, bounds_read, room_read, crowded_impossible, seen_impossible, seen_possible, seen_rest, seen_subjects}
use Rattle.cps_p_alldiff.proofs.all_different.AllDifferentRule.look.Goals as goal
use Rattle.cps_p_alldiff.proofs.all_different.AllDifferentRule.look.Goals.{In_ok-clear_halls-in-None}

pub judge-requires : goal.judge-requires
judge-requires c = ends_read c.args.store.now c.as_slice-subjects.result.now c.measure.new.ends.items c.as_slice-ends.result.now c.in_ok-moved.ensures c.as_slice-ends.ensures.value

pub clear_fixed-requires-clause-bounded : goal.clear_fixed-requires-clause-bounded
clear_fixed-requires-clause-bounded c = bounds_read c.args.store.now c.as_slice-subjects.result.now c.measure.new.ends.items c.as_slice-ends.result.now c.in_ok-moved.ensures c.as_slice-ends.ensures.value

pub clear_halls-requires-clause-bounded : goal.clear_halls-requires-clause-bounded
clear_halls-requires-clause-bounded c = bounds_read c.args.store.now c.as_slice-subjects.result.now c.measure.new.ends.items c.as_slice-ends.result.now c.in_ok-moved.ensures c.as_slice-ends.ensures.value

pub returns-in-Some-clause-seen : goal.returns-in-Some-clause-seen
returns-in-Some-clause-seen c =
    let s = c.args.store.now in
    let b = c.args.self.now in
    let is = c.as_slice-subjects.result.now in
    let es = c.as_slice-ends.result.now in
    let bounded = bounds_read s is c.measure.new.ends.items es c.in_ok-moved.ensures c.as_slice-ends.ensures.value in
    let over : IsOverfull es c.in-Some.hall = subst (λ (found : Option Interval). MatchOption found (IsRoomy es) (IsOverfull es)) c.in-Some.is c.in_ok-hall.ensures in
    seen_impossible b c.self.inside.subjects.items is c.self.view_is c.as_slice-subjects.ensures.value s
    (crowded_impossible s is es c.in-Some.hall (seen_subjects b c.self.inside.subjects.items is c.self.view_is c.as_slice-subjects.ensures.value s.first c.requires.fits) bounded over)

room : (c : In_ok-clear_halls-in-None) → HasRoom c.args.store.now c.as_slice-subjects.result.now
room c =
    let es = c.as_slice-ends.result.now in
    let roomy : IsRoomy es = subst (λ (found : Option Interval). MatchOption found (IsRoomy es) (IsOverfull es)) c.in-None.is c.in_ok-hall.ensures in
    room_read c.args.store.now c.as_slice-subjects.result.now c.measure.new.ends.items es c.in_ok-moved.ensures c.as_slice-ends.ensures.value roomy

pub returns-in_ok-clear_halls-in-None-clause-seen : goal.returns-in_ok-clear_halls-in-None-clause-seen
returns-in_ok-clear_halls-in-None-clause-seen c = seen_possible c.args.self.now c.self.inside.subjects.items c.as_slice-subjects.result.now c.self.view_is c.as_slice-subjects.ensures.value c.args.store.now (room c)

pub returns-in_ok-clear_halls-in-None-clause-rest : goal.returns-in_ok-clear_halls-in-None-clause-rest
returns-in_ok-clear_halls-in-None-clause-rest c e done = seen_rest c.args.self.now c.self.inside.subjects.items c.as_slice-subjects.result.now c.self.view_is c.as_slice-subjects.ensures.value c.args.store.now (room c)
