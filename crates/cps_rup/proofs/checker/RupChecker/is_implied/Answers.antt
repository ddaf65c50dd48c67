-- What the narrowed domains say holds of those given.
use Rattle.std.specs.Prelude.{◌↔◌, IsTrue, IfOk}
use Rattle.std.proofs.Common.{inr, refl, subst, ◌∙◌}
use Rattle.std.proofs.lemmas.Result.{IfOk-weaker}
use Rattle.cps_rup.specs.Known.{Known}
use Rattle.cps_rup.specs.Domains.{box_in}
use Rattle.cps_rup.proofs.Assuming.{leads_denied}
use Rattle.cps_rup.proofs.Settling.{IsImplied, implied_settled}
use Rattle.cps_rup.proofs.checker.RupChecker.is_implied.Goals as goal

pub returns-then-branch-clause-implied : goal.returns-then-branch-clause-implied
returns-then-branch-clause-implied c =
    let known = c.args.self.now in (
      λ _. inr (leads_denied known.clauses (box_in known.domains) c.args.clause.now (c.in_ok-settle.ensures.conflict c.if-branch.true)),
      λ _. refl,
    )

pub returns-clause-implied : goal.returns-clause-implied
returns-clause-implied c =
    let i = c.self.inside in
    let clause = c.args.clause.now in
    subst (λ (k : Known). IfOk c.follows-answer.result (λ b. IsTrue b ↔ IsImplied k.domains k.clauses clause)) (c.self.view_is ∙ c.in_ok-settle.ensures.kept) (
    IfOk-weaker c.follows-answer.result (λ b. IsTrue b ↔ IsImplied i.domains.now i.clauses clause) (λ b. IsTrue b ↔ IsImplied i.given.items i.clauses clause)
    (λ b h. implied_settled i.given.items i.domains i.clauses clause b c.self.invariant h)
    c.follows-answer.ensures.implied)
