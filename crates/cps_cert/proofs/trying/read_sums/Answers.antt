-- The variables of one atom's sum more.
use Rattle.std.proofs.Common.{◌∙◌, refl, arith}
use Rattle.std.specs.Prelude.{Some, None}
use Rattle.cps_cert.specs.Counting.{sum_variables}
use Rattle.cps_cert.proofs.Steps.{read_out, reads_nothing}
use Rattle.cps_cert.proofs.Trials.{atom_step}
use Rattle.cps_cert.proofs.trying.read_sums.Goals as goal
use Rattle.cps_cert.proofs.trying.read_sums.Goals.{in-Some+in_ok-read_sum, in_default}

pub loop-atom-preserved : goal.loop-atom-preserved
loop-atom-preserved c =
    let vs = c.args.trial.now.model.now.variables in
    let sums = c.args.trial.now.sums.now in
    let clause = c.args.trial.now.clause.now in
    let domains = c.args.trial.now.domains.now in
    let k = c.loop-atom.atom-index in
    let s = c.loop-atom.assignments in
    elim c.match-sum_at.branch [
      | in-Some+in_ok-read_sum w ↦ record {
        long = rw w.assignments-is (w.in_ok-read_sum.ensures.long ∙ c.loop-atom.invariant.long);
        rest = λ new g. c.loop-atom.invariant.rest new (atom_step vs sums clause domains s c.match-sum_at.assignments new k _ (Some w.in-Some.sum.now) c.loop-atom-test.true w.in-Some.ensures (rw w.assignments-is w.in_ok-read_sum.ensures.read) g);
      }
      | in_default w ↦ record {
        long = rw w.assignments-is c.loop-atom.invariant.long;
        rest = λ new g. c.loop-atom.invariant.rest new (atom_step vs sums clause domains s c.match-sum_at.assignments new k _ None c.loop-atom-test.true w.in_default.ensures (rw w.assignments-is (reads_nothing domains s)) g);
      }
    ]

pub returns-clause-read : goal.returns-clause-read
returns-clause-read c =
    let vs = c.args.trial.now.model.now.variables in
    let sums = c.args.trial.now.sums.now in
    c.loop-atom.invariant.rest c.loop-atom.assignments (read_out (λ clause. sum_variables vs sums clause) c.args.trial.now.domains.now c.loop-atom.assignments c.args.trial.now.clause.now c.loop-atom.atom-index (let l = c.loop-atom-test.false in omega arith) refl)
