-- Each span takes from what is left, and all that is needed is taken once nothing is left.
use Rattle.std.proofs.Common.{◌≡◌, ◌<◌, ℤ, ◌≤ℤ◌, subst, sym, refl, List, length, get_or, arith, rules, FitsSigned}
use Rattle.std.specs.Prelude.{Ok, Some}
use Rattle.std.specs.Int.{w128}
use Rattle.std.proofs.lemmas.Int.{ints, to_z-of_z}
use Rattle.cps_instance.specs.declared.task.Span.{Span}
use Rattle.cps_p_cumulative.specs.Running.{IsSpanOf}
use Rattle.cps_p_cumulative.proofs.SpanDemands.{span-inside}
use Rattle.cps_p_cumulative.proofs.Relied.{charge-begun, charge-step, charge-done, min_past}
use Rattle.cps_p_cumulative.proofs.Levelled.{ok_is, no_yes}
use Rattle.cps_p_cumulative.proofs.charge.charge_all.Goals as goal

least : (a : ℤ) → a ≤ℤ a
least a = omega (arith, ints)

pub charge_one-requires-clause-span : goal.charge_one-requires-clause-span
charge_one-requires-clause-span c =
    let q = c.index-spans-k.result in
    let first = c.args.past.now.first in
    let rs = c.as_slice-spans.result.now in
    let l : c.loop-k.k < length rs = (let a = c.min-count.ensures in let b = c.loop-k-test.true in omega arith) in
    let l' : c.loop-k.k < length c.args.resource.now.spans = subst (λ (ps : List Span). c.loop-k.k < length ps) c.as_slice-spans.ensures l in
    let here : IsSpanOf first (get_or c.args.resource.now.spans c.loop-k.k q) = span-inside first c.args.resource.now.spans c.loop-k.k q l' c.requires.resource.spans in
    subst (λ (p : Span). IsSpanOf first p) (sym c.index-spans-k.is) (subst (λ (ps : List Span). IsSpanOf first (get_or ps c.loop-k.k q)) (sym c.as_slice-spans.ensures) here)

pub loop-k-preserved : goal.loop-k-preserved
loop-k-preserved c =
    let after = c.in-Some.after in
    let ok : c.charge_one.result ≡ Ok (Some after) = ok_is c.charge_one.result _ (Some after) c.in_ok-after.was c.in-Some.is in
    let falls = c.charge_one.ensures.falls after ok in
    let l : c.loop-k.k < length c.as_slice-spans.result.now = (let a = c.min-count.ensures in let b = c.loop-k-test.true in omega arith) in
    let m : c.loop-k.k < length c.as_slice-demands.result.now = (let a = c.min-count.ensures in let b = c.loop-k-test.true in omega arith) in
    record {
      low = (let a = falls.0 in search (rules, ints));
      high = (let a = falls.1 in let b = c.loop-k.invariant.high in search (rules, ints));
      charged = charge-step c.args.past.now c.args.case.assumed c.args.case.time c.args.case.width c.args.resource.now.spans c.as_slice-spans.result.now c.args.resource.now.demands c.as_slice-demands.result.now _ _ c.loop-k.k c.index-spans-k.result _ _ _ after _ c.args.facts.now.items c.loop-k.facts.items c.charge_one.new.facts.items
          l m c.as_slice-spans.ensures c.as_slice-demands.ensures c.index-spans-k.is refl c.loop-k.invariant.charged (c.charge_one.ensures.charged after ok) (search (rules, ints)) (search (rules, ints)) (search (rules, ints));
    }

pub returns : goal.returns
returns c = λ ok.
    let past = c.loop-k-test.false in
    let a = min_past (length c.as_slice-spans.result.now) (length c.as_slice-demands.result.now) c.loop-k.k c.min-count.result c.min-count.ensures past in
    let b = rw c.as_slice-spans.ensures at a in
    let d = rw c.as_slice-demands.ensures at b in
    charge-done c.args.past.now c.args.case.assumed c.args.case.time c.args.case.width c.args.resource.now.spans c.args.resource.now.demands _ c.args.need c.loop-k.k _ c.args.facts.now.items c.loop-k.facts.items d c.loop-k.invariant.charged (search (rules, ints)) (search (rules, ints))

pub loop-k-init : goal.loop-k-init
loop-k-init c =
    let f : FitsSigned w128 c.args.need = search rules in
    rw (to_z-of_z w128 c.args.need f) (record {
      low = c.requires.need;
      high = least c.args.need;
      charged = charge-begun c.args.past.now c.args.case.assumed c.args.case.time c.args.case.width c.args.resource.now.spans c.args.resource.now.demands c.args.need c.args.facts.now.items c.requires.facts;
    })

pub charge_one-requires-clause-facts : goal.charge_one-requires-clause-facts
charge_one-requires-clause-facts c = c.loop-k.invariant.charged.facts

pub returns-in-None : goal.returns-in-None
returns-in-None c = λ ok. no_yes _ _ ok refl

pub returns-then-left-gt0 : goal.returns-then-left-gt0
returns-then-left-gt0 c = λ ok. no_yes _ _ ok refl
