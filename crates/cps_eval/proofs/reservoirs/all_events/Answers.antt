-- One event more, and none that is left.
use Rattle.std.proofs.Common.{refl, drop, arith}
use Rattle.cps_model.specs.Ready.{is_ready}
use Rattle.cps_model.specs.Reservoirs.{all_events}
use Rattle.cps_model.proofs.Pairs.{All-from_test}
use Rattle.cps_eval.proofs.ActiveEvents.{all-more, small-more}
use Rattle.cps_eval.proofs.Computing.{all_done}
use Rattle.cps_eval.proofs.reservoirs.all_events.Goals as goal

pub loop-k-preserved : goal.loop-k-preserved
loop-k-preserved c =
    let k = c.loop-k.k in
    let t = c.index-times-k.result in
    let u = c.index-changes-k.result in
    rw c.in_ok-push.ensures.items
    (record {
      whole = all-more c.args.values.now c.args.times.now c.args.changes.now k t u c.event_of.result c.loop-k.found.items _ (omega arith) (omega arith) c.index-times-k.is c.index-changes-k.is c.event_of.ensures.value c.loop-k.invariant.whole;
      small = small-more c.loop-k.found.items c.event_of.result c.loop-k.invariant.small c.event_of.ensures.near;
    })

pub returns-clause-value : goal.returns-clause-value
returns-clause-value c = all_done (λ ts. all_events c.args.values.now ts (drop c.loop-k.k c.args.changes.now)) c.args.times.now c.loop-k.found.items _ c.loop-k.k refl (omega arith) c.loop-k.invariant.whole

pub event_of-requires-clause-time : goal.event_of-requires-clause-time
event_of-requires-clause-time c =
    let ready = is_ready c.args.values.now in
    rw c.index-times-k.is (All-from_test ready c.args.times.now c.requires.times c.loop-k.k c.index-times-k.result (omega arith))

pub event_of-requires-clause-change : goal.event_of-requires-clause-change
event_of-requires-clause-change c =
    let ready = is_ready c.args.values.now in
    rw c.index-changes-k.is (All-from_test ready c.args.changes.now c.requires.changes c.loop-k.k c.index-changes-k.result (omega arith))
