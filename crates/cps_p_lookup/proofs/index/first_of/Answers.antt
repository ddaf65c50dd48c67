-- A column and a value divide the cells.
use Rattle.std.proofs.Common.{rules, FitsSigned, w64}
use Rattle.std.proofs.lemmas.List.Sorted.{IsPartitionPoint-from_clause}
use Rattle.cps_p_lookup.specs.Cells.{comes_before}
use Rattle.cps_p_lookup.proofs.Cells.{divided_before}
use Rattle.cps_p_lookup.proofs.index.first_of.Goals as goal

pub returns-clause-begin : goal.returns-clause-begin
returns-clause-begin c =
    let cells = c.args.cells.now in
    let column = c.args.column in
    let value = c.args.value in
    let f : FitsSigned w64 value = c.ranges.value in
    IsPartitionPoint-from_clause (comes_before column value) cells c.partition_point.result c.partition_point.ensures.partitioned (divided_before cells column value c.requires) (λ a r q k. search rules)
