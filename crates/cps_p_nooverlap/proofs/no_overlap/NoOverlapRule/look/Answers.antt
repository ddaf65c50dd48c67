use Rattle.std.proofs.Common.{◌≡◌, Ok, None, List, length, sym, subst, rules}
use Rattle.std.specs.List.{AllZip}
use Rattle.cps_instance.specs.declared.task.Span.{Span}
use Rattle.cps_p_span.specs.declared.seen.Seen.{Seen}
use Rattle.cps_p_span.specs.Spans.{AreSpans, AreSeen, IsSpanSeen, AreAllowed, ArePairsSettled}
use Rattle.cps_p_span.proofs.Ordering.{has_orders}
use Rattle.cps_p_span.proofs.Resting.{are_spans, at_rest}
use Rattle.cps_p_nooverlap.proofs.no_overlap.NoOverlapRule.look.Goals as goal

pub see-requires : goal.see-requires
see-requires c = subst (λ (ps : List Span). AreSpans c.args.store.now.first ps) (sym c.as_slice.ensures) (are_spans c.args.store.now.first c.args.self.now.spans c.requires.fits)

pub meet_both-requires : goal.meet_both-requires
meet_both-requires c =
    let s = c.args.store.now in
    let are = are_spans c.args.store.now.first c.args.self.now.spans c.requires.fits in
    let seen = subst (λ (qs : List Span). AllZip (IsSpanSeen s) qs c.see.new.seen.items) c.as_slice.ensures c.in_ok-see.ensures in
    subst (λ (qs : List Span). AreSeen s qs c.as_slice-seen.result.now) (sym c.as_slice-spans.ensures)
    (subst (λ (vs : List Seen). AreSeen s c.args.self.now.spans vs) (sym c.as_slice-seen.ensures.value) (record { spans = are; seen = seen }))

pub returns-in-None-clause-rest : goal.returns-in-None-clause-rest
returns-in-None-clause-rest c e all =
    let s = c.args.store.now in
    let ps = c.args.self.now.spans in
    let none : c.meet_both.result ≡ Ok None = search rules in
    let allowed = c.meet_both.ensures.allowed none in
    let settled = c.meet_both.ensures.rest none all in
    let seen = subst (λ (qs : List Span). AllZip (IsSpanSeen s) qs c.see.new.seen.items) c.as_slice.ensures c.in_ok-see.ensures in
    at_rest s ps c.see.new.seen.items (record { spans = are_spans c.args.store.now.first c.args.self.now.spans c.requires.fits; seen = seen })
    (subst (λ (vs : List Seen). AreAllowed vs (length ps)) c.as_slice-seen.ensures.value (subst (λ (qs : List Span). AreAllowed c.as_slice-seen.result.now (length qs)) c.as_slice-spans.ensures allowed))
    (subst (λ (vs : List Seen). ArePairsSettled s ps vs (length ps)) c.as_slice-seen.ensures.value (subst (λ (qs : List Span). ArePairsSettled s qs c.as_slice-seen.result.now (length qs)) c.as_slice-spans.ensures settled))

pub returns-in-None-clause-seen : goal.returns-in-None-clause-seen
returns-in-None-clause-seen c = λ excluded.
    let s = c.args.store.now in
    let ps = c.args.self.now.spans in
    let none : c.meet_both.result ≡ Ok None = search rules in
    let allowed = c.meet_both.ensures.allowed none in
    let seen = subst (λ (qs : List Span). AllZip (IsSpanSeen s) qs c.see.new.seen.items) c.as_slice.ensures c.in_ok-see.ensures in
    excluded (has_orders s ps c.see.new.seen.items seen
    (subst (λ (vs : List Seen). AreAllowed vs (length ps)) c.as_slice-seen.ensures.value (subst (λ (qs : List Span). AreAllowed c.as_slice-seen.result.now (length qs)) c.as_slice-spans.ensures allowed)))
