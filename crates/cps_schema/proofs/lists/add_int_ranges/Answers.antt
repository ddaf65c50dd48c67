-- Each scalar adds its number, and the list is as it was before room for all of them was made.
use Rattle.std.proofs.Common.{◌∙◌, ◌<◌, ◌++◌, List, ℤ, ap, refl, length, arith}
use Rattle.std.proofs.lemmas.Result.{err_from_is_err_and}
use Rattle.cps_schema.specs.declared.number.Number.TheVariants.{Int64}
use Rattle.cps_schema.specs.Tables.{number}
use Rattle.cps_schema.specs.Inputs.{written_of}
use Rattle.cps_textproto.specs.Trees.{range_values}
use Rattle.cps_schema.specs.Readings.{value_numbers}
use Rattle.cps_schema.proofs.Loops.{no_fault_at, range_passed, range_refused, ranges_passed, number_added, all_added}
use Rattle.cps_schema.proofs.lists.add_int_ranges.Goals as goal

pub loop-token_range-preserved : goal.loop-token_range-preserved
loop-token_range-preserved c =
    let w = written_of c.args.input.now in
    let list = c.args.token_ranges.now in
    let i = c.loop-token_range.token_range-index in
    let h : i < length list = omega arith in (
      range_passed _ w (number Int64) list i h c.loop-token_range.invariant.0 (no_fault_at _ _ c.in_ok-add_int.ensures.fault),
      c.loop-token_range.invariant.1 ∙ number_added _ w _ _ list i h c.in_ok-add_int.ensures.added,
    )

pub returns-in_err-add_int-clause-err : goal.returns-in_err-add_int-clause-err
returns-in_err-add_int-clause-err c =
    let list = c.args.token_ranges.now in
    let i = c.loop-token_range.token_range-index in
    let h : i < length list = omega arith in
    let p = err_from_is_err_and c.from_residual-in_err-add_int.result c.from_residual-in_err-add_int.ensures.1 in
    rw (p.1, p.2) (range_refused _ (written_of c.args.input.now) (number Int64) list i h c.loop-token_range.invariant.0 _ c.in_err-add_int.ensures.err)

pub returns-clause-fault : goal.returns-clause-fault
returns-clause-fault c =
    ranges_passed (written_of c.args.input.now) (number Int64) c.args.token_ranges.now c.loop-token_range.token_range-index (omega arith)
    c.loop-token_range.invariant.0

pub returns-clause-added : goal.returns-clause-added
returns-clause-added c =
    let w = written_of c.args.input.now in
    let list = c.args.token_ranges.now in
    all_added (value_numbers w) c.make_room.new.list.items c.loop-token_range.list.items list c.loop-token_range.token_range-index refl c.loop-token_range-test.false c.loop-token_range.invariant.1
    ∙ ap (λ (before : List ℤ). before ++ value_numbers w (range_values list)) c.make_room.ensures
