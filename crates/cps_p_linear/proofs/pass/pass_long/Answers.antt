-- What was read is right now, so the sum is measured.
use Rattle.std.proofs.Common.{refl, sym}
use Rattle.std.proofs.lemmas.Result.{on_ok_weaker}
use Rattle.cps_trail.specs.Notes.{ByTask}
use Rattle.cps_p_linear.specs.Measuring.{Asks}
use Rattle.cps_p_linear.specs.Gauging.{memory_of}
use Rattle.cps_p_linear.proofs.Gauges.{fresh_now, recalls_grown}
use Rattle.cps_p_linear.proofs.WideTerms.{fresh_measured, strong_wide, of_ok}
use Rattle.cps_p_linear.proofs.pass.pass_long.Goals as goal

pub conflict_of_sum-requires-clause-measured : goal.conflict_of_sum-requires-clause-measured
conflict_of_sum-requires-clause-measured c = fresh_measured c.args.store.now c.args.task.now.terms.now c.refresh.new.gauge c.args.task.now.admitted.now c.as_slice.result.now c.refresh.new.gauge.spread.sum c.requires.range c.in_ok-refresh.ensures.fresh c.as_slice.ensures.value refl

pub returns-in_default-clause-recalls : goal.returns-in_default-clause-recalls
returns-in_default-clause-recalls c = fresh_now c.args.store.now c.args.task.now.terms.now c.refresh.new.gauge c.in_ok-refresh.ensures.fresh

pub keep_wide-requires-clause-measured : goal.keep_wide-requires-clause-measured
keep_wide-requires-clause-measured c = fresh_measured c.args.store.now c.args.task.now.terms.now c.list_wide.new.gauge c.args.task.now.admitted.now c.as_slice-2.result.now c.refresh.new.gauge.spread.sum c.requires.range c.in_ok-list_wide.ensures.fresh c.as_slice-2.ensures.value (sym c.in_ok-list_wide.ensures.sum)

pub returns-clause-recalls : goal.returns-clause-recalls
returns-clause-recalls c =
    let s = c.args.store.now in
    let ts = c.args.task.now.terms.now in
    on_ok_weaker c.keep_wide.result (λ infers. recalls_grown (ByTask c.args.number (Asks c.args.task.now)) (memory_of ts c.list_wide.new.gauge) s c.keep_wide.new.store infers (fresh_now s ts c.list_wide.new.gauge c.in_ok-list_wide.ensures.fresh)) c.keep_wide.ensures.infers

pub returns-clause-strong : goal.returns-clause-strong
returns-clause-strong c is same =
    let s = c.args.store.now in
    let ts = c.args.task.now.terms.now in
    let infers = of_ok c.keep_wide.result is c.keep_wide.ensures.infers in
    strong_wide (ByTask c.args.number (Asks c.args.task.now)) s c.keep_wide.new.store ts c.list_wide.new.gauge c.args.task.now.admitted.now c.as_slice-2.result.now c.as_slice-3.result.now c.refresh.new.gauge.spread.sum c.in-Some.goal
    c.requires.range c.in_ok-list_wide.ensures.fresh c.as_slice-2.ensures.value (sym c.in_ok-list_wide.ensures.sum) c.as_slice-3.ensures.value c.in-Some.ensures c.in_ok-list_wide.ensures.fits infers (c.keep_wide.ensures.rooms is) same
