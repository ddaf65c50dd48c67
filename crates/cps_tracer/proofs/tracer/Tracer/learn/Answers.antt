-- What the hints show is a row of the log.
use Rattle.std.proofs.Common.{sym, subst}
use Rattle.cps_log.specs.Subjects.{IsClauseOver}
use Rattle.cps_tracer.specs.Traced.{Traced, subjects_of, HasLearnt}
use Rattle.cps_tracer.proofs.Tracing.{has_learnt}
use Rattle.cps_tracer.proofs.tracer.Tracer.learn.Goals as goal

pub returns-clause-learnt : goal.returns-clause-learnt
returns-clause-learnt c =
    let i = c.self.inside in
    let clause = c.args.clause.now in
    let old : Traced = record { variables = i.variables.now; assumptions = i.assumptions.now; items = i.items.items } in
    let over = subst (λ (t : Traced). IsClauseOver (subjects_of t) clause) (sym c.self.view_is) (c.is_over.ensures.0 c.if-not-is_over.false) in
    let implied = c.in_ok-is_implied_by.ensures.implied c.if-not-branch.false in
    subst (λ (t : Traced). HasLearnt t c.append.new.self clause c.in_ok-number.number) c.self.view_is (
    has_learnt old c.append.new.self i.checker clause c.in_ok-learnt.learnt c.in_ok-number.number c.self.invariant over implied c.in_ok-learnt.ensures.ok c.in_ok-number.ensures.ok c.in_ok-number.ensures.number)
