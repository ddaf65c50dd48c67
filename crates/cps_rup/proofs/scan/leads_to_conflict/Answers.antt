-- What the scan found, step by step.
use Rattle.std.specs.Prelude.{Any}
use Rattle.std.proofs.Common.{List, [], ◌∷◌, length, get_or, Bool, refl, subst, ◌∙◌}
use Rattle.std.proofs.lemmas.List.{length-set}
use Rattle.cps_domain.specs.Window.{Window}
use Rattle.cps_literal.specs.declared.atom.Atom.{Atom}
use Rattle.cps_unit.specs.Propagation.{IsFalseClause}
use Rattle.cps_unit.specs.Boxes.{HasValues}
use Rattle.cps_rup.specs.Domains.{box_in, AreIdle, IsOpenIn, ForcesOpen}
use Rattle.cps_rup.proofs.Propagating.{all_idle, forced_over, back_by, unit_at, none_forced, below_next, done_next}
use Rattle.cps_rup.proofs.scan.leads_to_conflict.Goals as goal

pub returns-in-Conflict-clause-leads : goal.returns-in-Conflict-clause-leads
returns-in-Conflict-clause-leads c = (
  λ _. c.loop-done.invariant.back [] (subst (λ (ws : List Window). Any (IsFalseClause (box_in ws)) c.args.clauses.now) c.as_slice.ensures.now c.in-Conflict.ensures),
  λ _. refl,
)

pub force-requires-clause-is_open : goal.force-requires-clause-is_open
force-requires-clause-is_open c = subst (λ (ws : List Window). IsOpenIn (box_in ws) c.in-Forced.atom) c.as_slice.ensures.now (c.in-Forced.ensures.forces []).is_open

pub returns-in-Nothing-clause-leads : goal.returns-in-Nothing-clause-leads
returns-in-Nothing-clause-leads c =
    let before = c.loop-done.invariant in
    let now = c.loop-done.domains.now in
    let box = box_in now in
    let clauses = c.args.clauses.now in
    let count = length c.args.domains.now.now in
    let marked : AreIdle (box_in c.as_slice.result.now) clauses c.loop-done.done.items = subst (λ (marks : List Bool). AreIdle (box_in c.as_slice.result.now) clauses marks) c.deref.ensures.value c.in-Nothing.ensures in
    let found : AreIdle box clauses c.loop-done.done.items = subst (λ (ws : List Window). AreIdle (box_in ws) clauses c.loop-done.done.items) c.as_slice.ensures.now marked in
    let values : HasValues count box = rw before.count at c.as_slice.ensures.values in
    let idle = all_idle count box clauses c.loop-done.done.items values c.requires found before.done_true in
    (λ e. cc, λ leads. absurd (none_forced clauses box (box_in c.args.domains.now.now) leads.forced before.below idle leads.forces))

pub force-requires-clause-subject : goal.force-requires-clause-subject
force-requires-clause-subject c =
    let found = c.in-Forced.ensures in
    rw c.loop-done.invariant.count (forced_over (length c.args.domains.now.now) c.args.clauses.now (box_in c.as_slice.result.now) c.in-Forced.place c.in-Forced.atom found.within c.requires found.forces)

pub loop-done-preserved : goal.loop-done-preserved
loop-done-preserved c =
    let before = c.loop-done.invariant in
    let box = box_in c.loop-done.domains.now in
    let next = box_in c.force.new.self.now in
    let clauses = c.args.clauses.now in
    let t = c.in-Forced.atom in
    let place = c.in-Forced.place in
    let found = c.in-Forced.ensures in
    let forces : (d : List Atom) → ForcesOpen box (get_or clauses place d) t = subst (λ (ws : List Window). (d : List Atom) → ForcesOpen (box_in ws) (get_or clauses place d) t) c.as_slice.ensures.now found.forces in
    let kept = c.in_ok-force-in-Forced.ensures.kept in
    record {
      marks = simp length-set before.marks;
      first = c.in_ok-force-in-Forced.ensures.first ∙ before.first;
      count = c.in_ok-force-in-Forced.ensures.count ∙ before.count;
      below = below_next box (box_in c.args.domains.now.now) next t kept before.below;
      back = λ forced f. before.back (t ∷ forced) (back_by clauses box next t forced kept (unit_at clauses box place t found.within forces) f);
      done_true = done_next clauses box next c.loop-done.done.items place t kept forces before.done_true;
    }
