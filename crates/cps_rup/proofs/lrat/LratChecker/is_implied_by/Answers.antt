-- What the narrowed domains say holds of those given.
use Rattle.std.specs.Prelude.{IsTrue, IfOk}
use Rattle.std.proofs.Common.{subst}
use Rattle.std.proofs.lemmas.Result.{IfOk-weaker}
use Rattle.cps_rup.specs.Known.{Known}
use Rattle.cps_rup.proofs.Settling.{IsImplied, implied_by_settled}
use Rattle.cps_rup.proofs.lrat.LratChecker.is_implied_by.Goals as goal

pub returns-clause-implied : goal.returns-clause-implied
returns-clause-implied c =
    let i = c.self.inside in
    let clause = c.args.clause.now in
    subst (λ (k : Known). IfOk c.follows_by-answer.result (λ b. IsTrue b → IsImplied k.domains k.clauses clause)) c.self.view_is (
    IfOk-weaker c.follows_by-answer.result (λ b. IsTrue b → IsImplied i.domains.now i.clauses clause) (λ b. IsTrue b → IsImplied i.given.items i.clauses clause)
    (λ b h t. implied_by_settled i.given.items i.domains i.clauses clause c.self.invariant (h t))
    c.follows_by-answer.ensures.implied)
