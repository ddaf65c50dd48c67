-- One event more, or one that is not active, and none that is left.
use Rattle.std.proofs.Common.{◌≡◌, ◌∙◌, sym, subst, true, ℤ, length, drop, get_or, pos, refl, arith, rules, FitsSigned, w32}
use Rattle.std.proofs.lemmas.Int.{to_z-of_z}
use Rattle.cps_model.specs.Ready.{is_ready}
use Rattle.cps_model.specs.Reservoirs.{active_events}
use Rattle.cps_model.specs.Rules.{names}
use Rattle.cps_model.proofs.Pairs.{All-from_test}
use Rattle.cps_eval.proofs.ActiveEvents.{active-more, active-less, small-more}
use Rattle.cps_eval.proofs.Computing.{all_done}
use Rattle.cps_eval.proofs.Listing.{named_at}
use Rattle.cps_eval.proofs.reservoirs.active_events.Goals as goal

pub loop-k-preserved-then-not-literal_holds : goal.loop-k-preserved-then-not-literal_holds
loop-k-preserved-then-not-literal_holds c =
    let ls = c.args.active.now in
    let k = c.loop-k.k in
    let t = c.index-times-k.result in
    let fits : FitsSigned w32 (get_or ls k (pos 0)) = search rules in
    let is = simp to_z-of_z at c.literal_holds.ensures in
    record {
      whole = active-less c.args.values.now c.args.times.now c.args.changes.now ls k t t c.loop-k.found.items _ (omega arith) (omega arith) (omega arith) (sym is ∙ c.if-not-literal_holds.true) c.loop-k.invariant.whole;
      small = c.loop-k.invariant.small;
    }

pub event_of-requires-clause-time : goal.event_of-requires-clause-time
event_of-requires-clause-time c =
    let ready = is_ready c.args.values.now in
    rw c.index-times-k.is (All-from_test ready c.args.times.now c.requires.times c.loop-k.k c.index-times-k.result (omega arith))

pub event_of-requires-clause-change : goal.event_of-requires-clause-change
event_of-requires-clause-change c =
    let ready = is_ready c.args.values.now in
    rw c.index-changes-k.is (All-from_test ready c.args.changes.now c.requires.changes c.loop-k.k c.index-changes-k.result (omega arith))

pub loop-k-preserved : goal.loop-k-preserved
loop-k-preserved c =
    let ls = c.args.active.now in
    let k = c.loop-k.k in
    let t = c.index-times-k.result in
    let u = c.index-changes-k.result in
    let fits : FitsSigned w32 (get_or ls k (pos 0)) = search rules in
    let is = simp to_z-of_z at c.literal_holds.ensures in
    rw c.in_ok-push.ensures.items
    (record {
      whole = active-more c.args.values.now c.args.times.now c.args.changes.now ls k t u c.event_of.result c.loop-k.found.items _ (omega arith) (omega arith) (omega arith) c.index-times-k.is c.index-changes-k.is c.event_of.ensures.value (sym is ∙ c.if-not-literal_holds.false) c.loop-k.invariant.whole;
      small = small-more c.loop-k.found.items c.event_of.result c.loop-k.invariant.small c.event_of.ensures.near;
    })

pub literal_holds-requires : goal.literal_holds-requires
literal_holds-requires c =
    let ls = c.args.active.now in
    let k = c.loop-k.k in
    let fits : FitsSigned w32 (get_or ls k (pos 0)) = search rules in
    subst (λ (z : ℤ). names (length c.args.values.now) z ≡ true) (sym (to_z-of_z w32 _ fits)) (named_at (length c.args.values.now) ls k c.requires.named (omega arith))

pub returns-clause-value : goal.returns-clause-value
returns-clause-value c = all_done (λ ts. active_events c.args.values.now ts (drop c.loop-k.k c.args.changes.now) (drop c.loop-k.k c.args.active.now)) c.args.times.now c.loop-k.found.items _ c.loop-k.k refl (omega arith) c.loop-k.invariant.whole
