use Rattle.std.proofs.Common.{◌∙◌, pos, List, arith, sym, ap, subst}
use Rattle.cps_rule.specs.declared.rule.Narrowing.{Narrowing}
use Rattle.cps_p_alldiff.specs.declared.interval.Interval.{Interval}
use Rattle.cps_p_alldiff.specs.Intervals.{IsEnclosed}
use Rattle.cps_p_alldiff.specs.Bars.{AreGivenBars}
use Rattle.cps_p_alldiff.proofs.NoCrowds.{zip_length}
use Rattle.cps_p_alldiff.proofs.ImpliedAtoms.{bar_given, given_more}
use Rattle.cps_p_alldiff.proofs.bars.keep_out.Goals as goal
use Rattle.cps_p_alldiff.proofs.bars.keep_out.Goals.{then-not-covers+in-Some+in_ok-push-in-Some, then-not-covers+in-None, else-not-covers}

abbrev no_ends : Interval
no_ends = record { low = pos 0; high = pos 0 }

pub bounds-subjects-place : goal.bounds-subjects-place
bounds-subjects-place c = let same = zip_length (IsEnclosed c.args.store.now) c.args.subjects.now c.args.ends.now c.requires.bounded in let l = c.loop-place-test.true in omega arith

pub bar_of-requires-clause-subject : goal.bar_of-requires-clause-subject
bar_of-requires-clause-subject c =
    let same = zip_length (IsEnclosed c.args.store.now) c.args.subjects.now c.args.ends.now c.requires.bounded in
    let l = c.loop-place-test.true in
    c.requires.subjects c.loop-place.place 0 (omega arith)

pub loop-place-preserved : goal.loop-place-preserved
loop-place-preserved c =
    let s = c.args.store.now in
    let is = c.args.subjects.now in
    let es = c.args.ends.now in
    let k = c.loop-place.place in
    let same = zip_length (IsEnclosed s) is es c.requires.bounded in
    let l = c.loop-place-test.true in
    elim c.if-not-covers.branch [
      | then-not-covers+in-Some+in_ok-push-in-Some w ↦
          subst (λ (ns : List Narrowing). AreGivenBars s is ns) (sym (ap (λ v. v.items) w.found-is))
          (given_more s is c.loop-place.found.items w.push.new.self.items _ w.in_ok-push-in-Some.ensures.items c.loop-place.invariant
          (bar_given s is es c.args.hall.now k 0 no_ends w.in-Some.target c.requires.subjects c.requires.bounded c.requires.full (omega arith) (sym c.covers.ensures ∙ w.if-not-covers.true) w.in-Some.ensures))
      | then-not-covers+in-None w ↦ subst (λ (ns : List Narrowing). AreGivenBars s is ns) (sym (ap (λ v. v.items) w.found-is)) c.loop-place.invariant
      | else-not-covers w ↦ subst (λ (ns : List Narrowing). AreGivenBars s is ns) (sym (ap (λ v. v.items) w.found-is)) c.loop-place.invariant
    ]
