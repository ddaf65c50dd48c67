use Rattle.std.proofs.Common.{List, length, sym, subst}
use Rattle.std.proofs.lemmas.Result.{on_ok_weaker}
use Rattle.cps_instance.specs.declared.task.Span.{Span}
use Rattle.cps_p_span.specs.declared.seen.Seen.{Seen}
use Rattle.cps_p_span.specs.Spans.{AddsOrdered, SettlesOrder, AreKnown, IsPair}
use Rattle.cps_p_boxes.proofs.pairs.Direction.follow.Goals as goal

pub follow-requires-clause-known : goal.follow-requires-clause-known
follow-requires-clause-known c =
    subst (λ (vs : List Seen). AreKnown c.as_slice.result.now vs) (sym c.as_slice-2.ensures.value)
    (subst (λ (ps : List Span). AreKnown ps c.args.self.now.seen.items) (sym c.as_slice.ensures) c.requires.known)

pub follow-requires-clause-pair : goal.follow-requires-clause-pair
follow-requires-clause-pair c = subst (λ (ps : List Span). IsPair (length ps) c.args.pair) (sym c.as_slice.ensures) c.requires.pair

pub returns-clause-given : goal.returns-clause-given
returns-clause-given c = on_ok_weaker c.follow.result
    (λ h.
    subst (λ (ps : List Span). AddsOrdered ps c.args.self.now.seen.items c.args.pair c.args.found.now.items c.follow.new.found.items) c.as_slice.ensures
    (subst (λ (vs : List Seen). AddsOrdered c.as_slice.result.now vs c.args.pair c.args.found.now.items c.follow.new.found.items) c.as_slice-2.ensures.value h))
    c.follow.ensures.given

pub returns-clause-rest : goal.returns-clause-rest
returns-clause-rest c = on_ok_weaker c.follow.result
    (λ h.
    subst (λ (ps : List Span). SettlesOrder ps c.args.self.now.seen.items c.args.pair c.args.found.now.items c.follow.new.found.items) c.as_slice.ensures
    (subst (λ (vs : List Seen). SettlesOrder c.as_slice.result.now vs c.args.pair c.args.found.now.items c.follow.new.found.items) c.as_slice-2.ensures.value h))
    c.follow.ensures.rest
