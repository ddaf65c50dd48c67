-- Each scalar adds its truth value.
use Rattle.std.proofs.Common.{◌∙◌, ◌<◌, refl, length, arith}
use Rattle.std.proofs.lemmas.Result.{err_from_is_err_and}
use Rattle.cps_schema.specs.Tables.{truth}
use Rattle.cps_schema.specs.Inputs.{written_of}
use Rattle.cps_schema.specs.Readings.{value_truths}
use Rattle.cps_schema.proofs.Loops.{no_fault_at, range_passed, range_refused, ranges_passed, truth_added, all_added}
use Rattle.cps_schema.proofs.truth.add_truth_ranges.Goals as goal

pub loop-token_range-preserved : goal.loop-token_range-preserved
loop-token_range-preserved c =
    let w = written_of c.args.input.now in
    let list = c.args.token_ranges.now in
    let i = c.loop-token_range.token_range-index in
    let h : i < length list = omega arith in (
      range_passed _ w truth list i h c.loop-token_range.invariant.0 (no_fault_at _ _ c.in_ok-add_truth.ensures.fault),
      c.loop-token_range.invariant.1 ∙ truth_added _ w _ _ list i h c.in_ok-add_truth.ensures.added,
    )

pub returns-in_err-add_truth-clause-err : goal.returns-in_err-add_truth-clause-err
returns-in_err-add_truth-clause-err c =
    let list = c.args.token_ranges.now in
    let i = c.loop-token_range.token_range-index in
    let h : i < length list = omega arith in
    let p = err_from_is_err_and c.from_residual.result c.from_residual.ensures.1 in
    rw (p.1, p.2) (range_refused _ (written_of c.args.input.now) truth list i h c.loop-token_range.invariant.0 _ c.in_err-add_truth.ensures.err)

pub returns-clause-fault : goal.returns-clause-fault
returns-clause-fault c =
    ranges_passed (written_of c.args.input.now) truth c.args.token_ranges.now c.loop-token_range.token_range-index (omega arith)
    c.loop-token_range.invariant.0

pub returns-clause-added : goal.returns-clause-added
returns-clause-added c =
    all_added (value_truths (written_of c.args.input.now)) c.args.list.now.items c.loop-token_range.list.items c.args.token_ranges.now c.loop-token_range.token_range-index refl c.loop-token_range-test.false
    c.loop-token_range.invariant.1
