-- Each span that was gone past was seen; all were at the end.
use Rattle.std.proofs.Common.{◌≡◌, ◌++◌, ◌∷◌, [], List, sym, subst, get_or, take}
use Rattle.std.specs.List.{AllZip}
use Rattle.std.proofs.lemmas.List.{take_more, take_all}
use Rattle.cps_instance.specs.declared.task.Span.{Span}
use Rattle.cps_p_span.specs.declared.seen.Seen.{Seen}
use Rattle.cps_p_span.specs.Spans.{IsSpanSeen}
use Rattle.cps_p_span.proofs.Timing.{zip_push}
use Rattle.cps_p_span.proofs.seen.see.Goals as goal

pub loop-span-preserved : goal.loop-span-preserved
loop-span-preserved c =
    let s = c.args.store.now in
    let ps = c.args.spans.now in
    let k = c.loop-span.span-index in
    let q = c.span-item.result in
    let same : q ≡ get_or ps k q = c.span-item.is in
    subst (λ (qs : List Span). AllZip (IsSpanSeen s) qs c.push.new.self.items) (sym (take_more ps k q c.loop-span-test.true))
    (subst (λ (vs : List Seen). AllZip (IsSpanSeen s) (take k ps ++ get_or ps k q ∷ []) vs) (sym c.in_ok-push.ensures.items)
    (zip_push (IsSpanSeen s) (take k ps) c.loop-span.seen.items (get_or ps k q) c.seen_of.result c.loop-span.invariant (subst (λ (z : Span). IsSpanSeen s z c.seen_of.result) same c.seen_of.ensures)))

pub returns : goal.returns
returns c =
    subst (λ (qs : List Span). AllZip (IsSpanSeen c.args.store.now) qs c.loop-span.seen.items) (take_all c.loop-span.span-index c.args.spans.now c.loop-span-test.false) c.loop-span.invariant
