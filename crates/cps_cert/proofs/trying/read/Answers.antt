-- Nothing is read at first, then the constraint, and then the sums.
use Rattle.std.proofs.Common.{◌≡◌}
use Rattle.cps_cert.specs.Counting.{sum_variables}
use Rattle.cps_cert.proofs.Steps.{on_ok}
use Rattle.cps_cert.proofs.Trials.{read_all, has_read_none}
use Rattle.cps_cert.proofs.trying.read.Goals as goal

pub returns : goal.returns
returns c =
    let m = c.args.trial.now.model.now in
    let domains = c.args.trial.now.domains.now in
    let vs = m.variables in
    let cs = c.as_slice-constraints.result.now in
    let e : cs ≡ m.constraints = (let a = c.as_slice-constraints.ensures in let b = c.model.ensures.same in cc) in
    on_ok c.read_sums.result (λ g d in_domains within. read_all domains vs cs m.constraints c.args.trial.now.constraint c.index-constraints-trial.result d c.restart.new.self c.read_constraint.new.self c.read_sums.new.assignments (sum_variables vs c.args.trial.now.sums.now c.args.trial.now.clause.now) e c.requires.exists c.index-constraints-trial.is c.in_ok-read_constraint.ensures.read g in_domains (has_read_none domains vs c.restart.new.self (rw c.restart.ensures.values within) c.restart.ensures.unfixed c.restart.ensures.count)) c.read_sums.ensures.read
