-- The model keeps every rule.
use Rattle.cps_cert.proofs.Taken.{solved_taken, infeasible_taken}
use Rattle.cps_cert.proofs.laws.a_response_is_taken.Goals as goal

pub returns-clause-optimal : goal.returns-clause-optimal
returns-clause-optimal c = solved_taken c.args.model.now (rw c.model.ensures.same at c.model.ensures.valid)

pub returns-clause-infeasible : goal.returns-clause-infeasible
returns-clause-infeasible c = infeasible_taken c.args.model.now (rw c.model.ensures.same at c.model.ensures.valid)
