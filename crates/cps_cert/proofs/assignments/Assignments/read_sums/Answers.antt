-- One part after another.
use Rattle.std.specs.List.{flat_map}
use Rattle.std.proofs.Common.{◌∙◌, refl, arith}
use Rattle.cps_cert.specs.Counting.{variables_of_sum}
use Rattle.cps_cert.proofs.Steps.{item_step, read_out}
use Rattle.cps_cert.proofs.assignments.Assignments.read_sums.Goals as goal

pub loop-sum-preserved : goal.loop-sum-preserved
loop-sum-preserved c =
    record {
      long = c.in_ok-read_sum.ensures.long ∙ c.loop-sum.invariant.long;
      rest = λ new g. c.loop-sum.invariant.rest new (item_step variables_of_sum c.args.domains.now c.loop-sum.self c.read_sum.new.self new c.args.sums.now c.loop-sum.sum-index c.sum-item.result c.loop-sum-test.true c.sum-item.is c.in_ok-read_sum.ensures.read g);
    }

pub returns-clause-read : goal.returns-clause-read
returns-clause-read c = c.loop-sum.invariant.rest c.loop-sum.self (read_out (flat_map variables_of_sum) c.args.domains.now c.loop-sum.self c.args.sums.now c.loop-sum.sum-index (let l = c.loop-sum-test.false in omega arith) refl)
