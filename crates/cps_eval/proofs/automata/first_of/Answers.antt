-- A state and a label divide the transitions.
use Rattle.std.proofs.Common.{rules, FitsSigned, w64}
use Rattle.std.proofs.lemmas.List.Sorted.{IsPartitionPoint-from_clause}
use Rattle.cps_eval.specs.Runs.{comes_before}
use Rattle.cps_eval.proofs.Stepping.{divided_before}
use Rattle.cps_eval.proofs.automata.first_of.Goals as goal

pub returns-clause-begin : goal.returns-clause-begin
returns-clause-begin c =
    let steps = c.args.steps.now in
    let state = c.args.state in
    let label = c.args.label in
    let fs : FitsSigned w64 state = c.ranges.state in
    let fl : FitsSigned w64 label = c.ranges.label in
    IsPartitionPoint-from_clause (comes_before state label) steps c.partition_point.result c.partition_point.ensures.partitioned (divided_before steps state label c.requires) (λ a r q k. search rules)
