-- One clause more was looked at.
use Rattle.std.proofs.Common.{◌≡◌, ◌∙◌, subst, sym}
use Rattle.cps_rup.specs.Trailed.{Trailed}
use Rattle.cps_rup.specs.Chains.{IsPropagated}
use Rattle.cps_rup.proofs.Propagated.{propagated_next}
use Rattle.cps_rup.proofs.propagation.look_at_each.Goals as goal
use Rattle.cps_rup.proofs.propagation.look_at_each.Goals.{in-Unit+in_ok-force-in-Unit, in-Idle}

pub loop-number-preserved : goal.loop-number-preserved
loop-number-preserved c =
    let before = c.loop-number.invariant in
    let mid = c.loop-number.domains in
    let cs = c.args.clauses.now in
    let l = rw c.len.ensures at c.if-place-len.false in
    record {
      first = elim c.match-state_of.branch [
        | in-Unit+in_ok-force-in-Unit w ↦ subst (λ (d : Trailed). d.first ≡ c.args.domains.now.first) (sym w.domains-is) (w.in_ok-force-in-Unit.ensures.first ∙ before.first)
        | in-Idle w ↦ subst (λ (d : Trailed). d.first ≡ c.args.domains.now.first) (sym w.domains-is) before.first
      ];
      propagated = elim c.match-state_of.branch [
        | in-Unit+in_ok-force-in-Unit w ↦ (
            let forces = rw (c.as_slice.ensures.now, c.clause.ensures) at w.in-Unit.ensures in
            subst (λ (d : Trailed). IsPropagated cs c.args.domains.now d) (sym w.domains-is) (
            propagated_next cs c.args.domains.now mid w.force.new.self _ w.in-Unit.atom l forces w.in_ok-force-in-Unit.ensures.count w.in_ok-force-in-Unit.ensures.kept before.propagated))
        | in-Idle w ↦ subst (λ (d : Trailed). IsPropagated cs c.args.domains.now d) (sym w.domains-is) before.propagated
      ];
    }
