-- The cells between the two places are those of the column's values between the two.
use Rattle.std.proofs.Common.{List, sym, subst, length, refl, FitsSigned, w64}
use Rattle.std.proofs.lemmas.Int.{to_z-of_z}
use Rattle.std.specs.Prelude.{Contains}
use Rattle.cps_p_lookup.specs.declared.index.Cell.{Cell}
use Rattle.cps_p_lookup.specs.Cells.{value_in, BeginAt, EndBefore}
use Rattle.cps_p_lookup.proofs.Cells.{in_part, in_word, cells_now}
use Rattle.cps_p_lookup.proofs.index.TupleSet.cells_between.Goals as goal

pub returns-clause-every : goal.returns-clause-every
returns-clause-every c r inside above under =
    let k = c.args.column in
    let w = length c.args.self.now.exprs in
    let values = c.args.self.now.values in
    let fl : FitsSigned w64 c.args.low = c.ranges.low in
    let fh : FitsSigned w64 c.args.high = c.ranges.high in
    let cells = c.as_slice-cells.result.now in
    let begin : BeginAt cells k c.args.low c.first_of-first.result = simp to_z-of_z at c.first_of-first.ensures.begin in
    let stop : EndBefore cells k c.args.high c.end_of-end.result = simp to_z-of_z at c.end_of-end.ensures.end in
    let cell : Cell = record { column = k; value = value_in w values k r; row = r } in
    let i = c.self.inside in
    let all = cells_now c.args.self.now i.exprs i.values i.cells.items c.self.view_is c.self.invariant in
    let has : Contains cells cell = subst (λ (cs : List Cell). Contains cs cell) (sym c.as_slice-cells.ensures.value) (all.listed.every k c.requires r inside) in
    subst (λ (cs : List Cell). Contains cs cell) (sym c.between.ensures) (in_part cells k c.args.low c.args.high c.first_of-first.result c.end_of-end.result begin stop c.end_of-end.ensures.inside cell refl above under has)

pub returns-clause-range : goal.returns-clause-range
returns-clause-range c r inside =
    let i = c.self.inside in
    let all = cells_now c.args.self.now i.exprs i.values i.cells.items c.self.view_is c.self.invariant in
    in_word (length c.args.self.now.exprs) c.args.self.now.values (length c.args.self.now.exprs) i.cells.items all.listed c.args.column c.requires r inside
