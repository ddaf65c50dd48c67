use Rattle.std.proofs.Common.{arith, ap, sym, subst, ◌∙◌, ◌+◌, ◌<◌, ◌≤◌, ℕ, length, get_or}
use Rattle.std.proofs.lemmas.Int.{ints}
use Rattle.cps_p_linear.specs.declared.ends.Ends.{Ends}
use Rattle.cps_p_linear.specs.declared.gauge.Gauge.{Gauge}
use Rattle.cps_p_linear.specs.Ends.{reach_of, IsNoWider}
use Rattle.cps_p_linear.proofs.Gauges.{SortedSoFar, fresh_reach, sorted_wide, sorted_narrow, no_term}
use Rattle.cps_p_linear.proofs.gauge.sort_out.Goals.{then-width-limit+in_ok-push, else-width-limit}
use Rattle.cps_p_linear.proofs.gauge.sort_out.Goals as goal

pub term_ends-requires : goal.term_ends-requires
term_ends-requires c =
    let ts = c.args.terms.now in
    let g = c.args.gauge.now in
    let p = c.loop-place.place in
    let r = fresh_reach c.args.store.now ts g p no_term c.index.result.now c.requires.measurable c.requires.fresh c.loop-place-test.true in
    let same = c.index.ensures ∙ ap (λ (v : _). get_or v.items p c.index.result.now) c.loop-place.invariant.values in
    omega (arith, r, ap (λ (x : Ends). reach_of (get_or ts p no_term) x) same)

pub loop-place-preserved : goal.loop-place-preserved
loop-place-preserved c =
    let ts = c.args.terms.now in
    let g = c.loop-place.gauge in
    let g' = c.if-width-limit.gauge in
    let p = c.loop-place.place in
    let so = c.loop-place.invariant in
    let l = c.loop-place-test.true in
    elim c.if-width-limit.branch [
      | then-width-limit+in_ok-push w ↦
          subst (λ (n : ℕ). SortedSoFar ts c.args.gauge.now g' c.args.limit n (p + 1)) (sym w.widest-is)
          (sorted_wide ts c.args.gauge.now g g' c.args.limit c.loop-place.widest p l so (ap (λ (x : Gauge). x.is_read) w.gauge-is) (ap (λ (x : Gauge). x.values) w.gauge-is) (ap (λ (x : Gauge). x.since) w.gauge-is) (ap (λ (x : Gauge). x.count) w.gauge-is)
          (ap (λ (x : Gauge). x.newest) w.gauge-is) (ap (λ (x : Gauge). x.spread) w.gauge-is) (ap (λ (x : Gauge). x.places) w.gauge-is) (ap (λ (x : Gauge). x.is_wide.items) w.gauge-is) (ap (λ (x : Gauge). x.wide.items) w.gauge-is ∙ w.in_ok-push.ensures.items))
      | else-width-limit w ↦
          let d = c.width-width.ensures.le in
          let a = c.term_ends.ensures.low in
          let b = c.term_ends.ensures.high in
          let up : c.width-width.result ≤ w.max-widest.result = omega (arith, w.max-widest.ensures) in
          let own' : IsNoWider w.max-widest.result (get_or ts p no_term) c.index.result.now = omega (arith, ints) in
          let own = subst (λ (e : Ends). IsNoWider w.max-widest.result (get_or ts p no_term) e) c.index.ensures own' in
          let sized : p < length g.values.items = omega (arith, l, ap (λ (v : _). length v.items) so.values, c.requires.fresh.whole.gauge.values) in
          subst (λ (n : ℕ). SortedSoFar ts c.args.gauge.now g' c.args.limit n (p + 1)) (sym w.widest-is)
          (sorted_narrow ts c.args.gauge.now g g' c.args.limit c.loop-place.widest w.max-widest.result p no_term c.index.result.now l sized so (ap (λ (x : Gauge). x.is_read) w.gauge-is) (ap (λ (x : Gauge). x.values) w.gauge-is) (ap (λ (x : Gauge). x.since) w.gauge-is)
          (ap (λ (x : Gauge). x.count) w.gauge-is) (ap (λ (x : Gauge). x.newest) w.gauge-is) (ap (λ (x : Gauge). x.spread) w.gauge-is) (ap (λ (x : Gauge). x.places) w.gauge-is) (ap (λ (x : Gauge). x.is_wide.items) w.gauge-is) (ap (λ (x : Gauge). x.wide) w.gauge-is)
          (omega (arith, w.max-widest.ensures)) (omega (arith, w.max-widest.ensures, w.if-width-limit.false, so.within)) own)
    ]
