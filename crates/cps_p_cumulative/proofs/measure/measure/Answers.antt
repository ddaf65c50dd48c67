-- Each part of a span goes into the profile, unless it demands nothing.
use Rattle.std.proofs.Common.{◌≡◌, ◌+◌, ◌<◌, ap, subst, sym, List, length, get_or, arith}
use Rattle.cps_instance.specs.declared.task.Span.{Span}
use Rattle.cps_p_cumulative.specs.declared.part.Part.{Part}
use Rattle.cps_p_cumulative.specs.Running.{IsSpanOf}
use Rattle.cps_p_cumulative.specs.Measuring.{IsPartMeasured}
use Rattle.cps_p_cumulative.proofs.SpanDemands.{span-inside}
use Rattle.cps_p_cumulative.proofs.Relied.{min_past}
use Rattle.cps_p_cumulative.proofs.Profiled.{IsProfileTo, profile-begun, profile-more, profile-same, profile-all}
use Rattle.cps_p_cumulative.proofs.measure.measure.Goals as goal
use Rattle.cps_p_cumulative.proofs.measure.measure.Goals.{then-part-gt0+in_ok-push, else-part-gt0}

pub part_of-part-requires-clause-span : goal.part_of-part-requires-clause-span
part_of-part-requires-clause-span c =
    let q = c.index-spans-k.result in
    let first = c.args.past.now.first in
    let l : c.loop-k.k < length c.args.spans.now = (let a = c.min-count.ensures in let b = c.loop-k-test.true in omega arith) in
    subst (λ (p : Span). IsSpanOf first p) (sym c.index-spans-k.is) (span-inside first c.args.spans.now c.loop-k.k q l c.requires.spans)

pub loop-k-preserved : goal.loop-k-preserved
loop-k-preserved c =
    let s = c.args.past.now in
    let ps = c.args.spans.now in
    let ds = c.args.demands.now in
    let k = c.loop-k.k in
    let q = c.index-spans-k.result in
    let part = c.part_of-part.result in
    let l : k < length ps = (let a = c.min-count.ensures in let b = c.loop-k-test.true in omega arith) in
    let m : k < length ds = (let a = c.min-count.ensures in let b = c.loop-k-test.true in omega arith) in
    let here : IsPartMeasured s (get_or ps k q) (get_or ds k 0) part = subst (λ (p : Span). IsPartMeasured s p (get_or ds k 0) part) c.index-spans-k.is c.part_of-part.ensures in
    elim c.if-part-gt0.branch [
      | then-part-gt0+in_ok-push w ↦ subst (λ (v : List Part). IsProfileTo s ps ds (k + 1) v) (ap (λ v. v.items) (sym w.parts-is)) (profile-more s ps ds k q 0 part c.loop-k.parts.items w.push.new.self.items l m here w.in_ok-push.ensures.items c.loop-k.invariant)
      | else-part-gt0 w ↦
          let none : part.demand ≡ 0 = (let a = w.if-part-gt0.false in omega arith) in
          subst (λ (v : List Part). IsProfileTo s ps ds (k + 1) v) (ap (λ v. v.items) (sym w.parts-is)) (profile-same s ps ds k q 0 part c.loop-k.parts.items l m here none c.loop-k.invariant)
    ]

pub returns : goal.returns
returns c = profile-all c.args.past.now c.args.spans.now c.args.demands.now c.loop-k.k c.loop-k.parts.items (min_past (length c.args.spans.now) (length c.args.demands.now) c.loop-k.k c.min-count.result c.min-count.ensures c.loop-k-test.false) c.loop-k.invariant

pub loop-k-init : goal.loop-k-init
loop-k-init c = profile-begun c.args.past.now c.args.spans.now c.args.demands.now c.clear.new.self.items c.clear.ensures.items
