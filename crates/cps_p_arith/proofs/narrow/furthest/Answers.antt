use Rattle.std.proofs.Common.{rules, ◌≡◌, sym, ◌∙◌, subst, FitsSigned, w64}
use Rattle.std.proofs.lemmas.Int.{to_z-of_z}
use Rattle.cps_p_arith.specs.Demands.{IsMissedAt, IsPossibleAt, IsPast, IsImplied, end_of}
use Rattle.cps_p_arith.proofs.Resting.{found_first, found_next, past_both}
use Rattle.cps_p_arith.proofs.narrow.furthest.Goals as goal
use Rattle.cps_p_arith.proofs.narrow.furthest.Goals.{then-branch, else-branch+else-step-eq1}

pub loop-init : goal.loop-init
loop-init c =
    let side = c.args.side in
    let place = c.args.place in
    let end = c.end_at-end.result in
    let v = c.next_to.result in
    let fits : FitsSigned w64 v = search rules in
    let end-fits : FitsSigned w64 end = search rules in
    let missed : IsMissedAt c.args.bounds.now c.args.demand.now place.subject end = rw (to_z-of_z w64 end end-fits) at (c.is_missed_at.ensures.missed (search rules)) in
    let value : c.bound-best.result.value ≡ v = c.bound-best.ensures.value ∙ to_z-of_z w64 v fits in
    record {
      found = found_first c.args.bounds.now c.args.demand.now place side c.bound-best.result v c.requires.place c.bound-best.ensures.subject
          (rw (to_z-of_z w64 v fits) at c.bound-best.ensures.denies) (rw (to_z-of_z w64 v fits) at c.bound-best.ensures.only) c.next_to.ensures.past c.next_to.ensures.next
          (subst (IsMissedAt c.args.bounds.now c.args.demand.now place.subject) c.end_at-end.ensures missed);
      past = subst (IsPast side (end_of side place.ends)) (sym value) c.next_to.ensures.past;
    }

pub loop-preserved : goal.loop-preserved
loop-preserved c = elim c.if-branch.branch [
  | then-branch w ↦ (
      let side = c.args.side in
      let place = c.args.place in
      let from = c.loop.best.value in
      let next = c.moved-next.result in
      let fits : FitsSigned w64 next = search rules in
      let from-fits : FitsSigned w64 from = search rules in
      let more : IsPast side from next = rw (to_z-of_z w64 next fits, to_z-of_z w64 from from-fits) at (c.is_past.ensures (search rules)) in
      let implied : IsImplied c.args.bounds.now c.args.demand.now c.bound-atom.result = c.gives.ensures (search rules) in
      let value : c.bound-atom.result.value ≡ next = c.bound-atom.ensures.value ∙ to_z-of_z w64 next fits in
      rw w.best-is (record {
        found = found_next c.args.bounds.now c.args.demand.now place side c.bound-atom.result from next implied c.bound-atom.ensures.subject (rw (to_z-of_z w64 next fits) at c.bound-atom.ensures.denies)
            c.loop.invariant.past more;
        past = subst (IsPast side (end_of side place.ends)) (sym value) (past_both side (end_of side place.ends) from next c.loop.invariant.past more);
      }))
  | else-branch+else-step-eq1 w ↦ rw w.best-is c.loop.invariant
]

pub returns-then-not-branch : goal.returns-then-not-branch
returns-then-not-branch c = λ less s m.
    let end = c.end_at-end.result in
    let fits : FitsSigned w64 end = search rules in
    let possible : IsPossibleAt s c.args.demand.now c.args.place.subject end = rw (to_z-of_z w64 end fits) at (c.is_missed_at.ensures.possible (search rules) s m) in
    subst (IsPossibleAt s c.args.demand.now c.args.place.subject) c.end_at-end.ensures possible
