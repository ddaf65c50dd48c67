use Rattle.std.proofs.Common.{sym, subst, arith, ◌+◌}
use Rattle.cps_p_linear.specs.declared.gauge.Gauge.{Gauge}
use Rattle.cps_p_linear.proofs.Gauges.{GoneSoFar, gone_begins, gone_renewed, gone_passed, since_at, all_gone}
use Rattle.cps_p_linear.proofs.gauge.renew_gone.Goals.{then-index-count, else-index-count}
use Rattle.cps_p_linear.proofs.gauge.renew_gone.Goals as goal

pub loop-place-init : goal.loop-place-init
loop-place-init c = gone_begins c.args.store.now c.args.terms.now c.args.gauge.now c.args.count c.requires.held c.requires.here

pub loop-place-preserved : goal.loop-place-preserved
loop-place-preserved c =
    let s = c.args.store.now in
    let ts = c.args.terms.now in
    let so = c.loop-place.invariant in
    elim c.if-index-count.branch [
      | then-index-count w ↦ subst (λ (g : Gauge). GoneSoFar s ts c.args.gauge.now.is_read c.args.count (c.loop-place.place + 1) g) (sym w.gauge-is) (gone_renewed s ts c.args.gauge.now.is_read c.args.count c.loop-place.place c.loop-place.gauge w.renew.new.gauge c.loop-place-test.true so w.renew.ensures)
      | else-index-count w ↦ subst (λ (g : Gauge). GoneSoFar s ts c.args.gauge.now.is_read c.args.count (c.loop-place.place + 1) g) (sym w.gauge-is) (gone_passed s ts c.args.gauge.now.is_read c.args.count c.loop-place.place c.loop-place.gauge c.loop-place-test.true so
          (since_at s ts c.loop-place.gauge so.held c.loop-place.place c.args.count c.index.result.now c.loop-place-test.true c.index.ensures (omega (arith, w.if-index-count.false))))
    ]

pub returns-clause-due : goal.returns-clause-due
returns-clause-due c = all_gone c.args.store.now c.args.terms.now c.args.gauge.now.is_read c.args.count c.loop-place.place c.loop-place.gauge (omega (arith, c.loop-place-test.false)) c.loop-place.invariant
