-- What propagation found in the box of the clause, and what the scan behind it did.
use Rattle.std.specs.Prelude.{◌↔◌, IsTrue}
use Rattle.std.proofs.Common.{rules, length, inr, refl}
use Rattle.std.proofs.lemmas.Result.{IfOk-weaker}
use Rattle.cps_unit.specs.Propagation.{LeadsToConflict}
use Rattle.cps_unit.specs.Boxes.{HasValues}
use Rattle.cps_rup.specs.Domains.{box_in}
use Rattle.cps_unit.proofs.Chains.{leads_at_once}
use Rattle.cps_rup.proofs.Settling.{IsImplied, leads_in_box, scanned}
use Rattle.cps_rup.proofs.checker.follows.Goals as goal

pub returns-then-branch-clause-implied : goal.returns-then-branch-clause-implied
returns-then-branch-clause-implied c =
    let some = c.if-not-branch.false in
    let clauses = c.args.clauses.now in
    let new = c.propagate.new.domains in (
      λ _. inr (leads_in_box clauses c.args.domains.now c.keep_box.new.self new c.args.clause.now (c.in_ok-keep_box.ensures.kept some) c.in_ok-propagate.ensures.propagated
          (leads_at_once clauses (box_in new.now) (c.in_ok-propagate.ensures.conflict (let found = c.if-branch.true in search rules)))),
      λ _. refl,
    )

pub returns-clause-implied : goal.returns-clause-implied
returns-clause-implied c =
    let some = c.if-not-branch.false in
    let clauses = c.args.clauses.now in
    let mid = c.keep_box.new.self in
    let new = c.propagate.new.domains in
    let values : HasValues (length mid.now) (box_in mid.now) = c.as_slice-left.ensures.values in
    IfOk-weaker c.leads_to_conflict.result (λ b. IsTrue b ↔ LeadsToConflict clauses (box_in new.now)) (λ b. IsTrue b ↔ IsImplied c.args.domains.now.now clauses c.args.clause.now)
    (λ b h. scanned clauses c.args.domains.now mid new c.args.clause.now b (c.in_ok-keep_box.ensures.kept some) c.in_ok-keep_box.ensures.count values c.in_ok-propagate.ensures.propagated h)
    c.leads_to_conflict.ensures.leads
