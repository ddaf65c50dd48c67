-- What is behind the place that comes next in the chain was read anew, or is about other subjects.
use Rattle.std.proofs.Common.{sym, subst, arith, ap, ◌∙◌, ◌+◌, ◌-◌, ◌<◌, ◌≡◌, length, ℕ}
use Rattle.std.proofs.lemmas.List.{get_or_default}
use Rattle.cps_instance.specs.declared.term.Term.{Term}
use Rattle.cps_p_linear.specs.declared.gauge.Gauge.{Gauge}
use Rattle.cps_p_linear.specs.declared.places.Places.{Places}
use Rattle.cps_p_linear.specs.Chains.{IsIndexed, IsOnChain}
use Rattle.cps_p_linear.specs.Gauging.{Renews}
use Rattle.cps_p_linear.proofs.Gauges.{OnSoFar, on_begins, on_passed, on_renewed, all_on}
use Rattle.cps_p_linear.proofs.gauge.renew_on.Goals.{then-terms-place, else-terms-place}
use Rattle.cps_p_linear.proofs.gauge.renew_on.Goals as goal

pub loop-above-init : goal.loop-above-init
loop-above-init c =
    let h = c.requires.held in
    on_begins c.args.store.now c.args.terms.now c.args.gauge.now c.args.subject c.last-above.result h (c.last-above.ensures.chain c.args.terms.now h.gauge.indexed) (c.last-above.ensures.none c.args.terms.now h.gauge.indexed)

pub loop-above-preserved : goal.loop-above-preserved
loop-above-preserved c =
    let s = c.args.store.now in
    let ts = c.args.terms.now in
    let g = c.loop-above.gauge in
    let g' = c.if-terms-place.gauge in
    let subject = c.args.subject in
    let place = c.loop-above.above - 1 in
    let here : c.loop-above.above ≡ place + 1 = omega (arith, c.loop-above-test.true) in
    let so = subst (λ (n : ℕ). OnSoFar s ts c.args.gauge.now subject n g) here c.loop-above.invariant in
    let l : place < length ts = omega (arith, so.chain.within) in
    elim c.if-terms-place.branch [
      | then-terms-place w ↦
          let renews = subst (λ (x : Gauge). Renews s ts g x place) (sym w.gauge-is) w.renew.ensures in
          let indexed = subst (IsIndexed ts) (sym renews.places) so.held.gauge.indexed in
          let on = subst (λ (q : Places). IsOnChain ts q subject (place + 1)) (sym renews.places) so.chain in
          on_renewed s ts c.args.gauge.now g g' subject place c.before-above.result l so renews (c.before-above.ensures.chain ts subject indexed on) (c.before-above.ensures.none ts subject indexed on)
      | else-terms-place w ↦
          let so' = subst (λ (x : Gauge). OnSoFar s ts c.args.gauge.now subject (place + 1) x) (sym w.gauge-is) so in
          on_passed s ts c.args.gauge.now g' subject place c.before-above.result so' (λ t e. w.if-terms-place.false (ap (λ (u : Term). u.subject) (get_or_default ts place _ t l) ∙ e))
          (c.before-above.ensures.chain ts subject so'.held.gauge.indexed so'.chain) (c.before-above.ensures.none ts subject so'.held.gauge.indexed so'.chain)
    ]

pub returns-clause-now : goal.returns-clause-now
returns-clause-now c = all_on c.args.store.now c.args.terms.now c.args.gauge.now c.loop-above.gauge c.args.subject c.loop-above.above (omega (arith, c.loop-above-test.false)) c.loop-above.invariant
