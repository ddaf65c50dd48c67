-- Each place so far is listed.
use Rattle.std.proofs.Common.{Ok, ap, arith}
use Rattle.cps_p_lookup.proofs.Answering.{no_not_yes}
use Rattle.cps_p_lookup.proofs.Missing.{lists_more}
use Rattle.cps_p_lookup.proofs.places.list_values.Goals as goal

pub loop-place-preserved : goal.loop-place-preserved
loop-place-preserved c = lists_more c.args.store.now c.args.lookup.now.index c.args.lookup.now.target c.args.lookup.now.exprs.now c.loop-place.place c.loop-place.values.items c.list_value.new.values.items c.loop-place.invariant
    (c.in_ok-list_value.ensures (ap Ok c.if-not-branch.false))

pub returns : goal.returns
returns c = λ e. record { at = λ k l. c.loop-place.invariant k (omega arith) }

pub returns-then-not-branch : goal.returns-then-not-branch
returns-then-not-branch c = λ e. no_not_yes _ e
