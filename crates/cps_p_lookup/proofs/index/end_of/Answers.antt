-- A column and a value divide the cells.
use Rattle.std.proofs.Common.{rules, FitsSigned, w64}
use Rattle.std.proofs.lemmas.List.Sorted.{IsPartitionPoint-from_clause}
use Rattle.cps_p_lookup.specs.Cells.{comes_up_to}
use Rattle.cps_p_lookup.proofs.Cells.{divided_up_to}
use Rattle.cps_p_lookup.proofs.index.end_of.Goals as goal

pub returns-clause-end : goal.returns-clause-end
returns-clause-end c =
    let cells = c.args.cells.now in
    let column = c.args.column in
    let value = c.args.value in
    let f : FitsSigned w64 value = c.ranges.value in
    IsPartitionPoint-from_clause (comes_up_to column value) cells c.partition_point.result c.partition_point.ensures.partitioned (divided_up_to cells column value c.requires) (λ a r q k. search rules)
