-- What is proposed is on a subject of the span, or on its demand.
use Rattle.std.proofs.Common.{◌<◌, length, List, sym, subst}
use Rattle.std.specs.List.{All}
use Rattle.cps_literal.specs.declared.atom.Atom.{Atom}
use Rattle.cps_p_cumulative.proofs.SpanDemands.{span-read, presence-inside, demand-read, start-proposed, time-proposed, demand-proposed, three-proposed}
use Rattle.cps_p_cumulative.proofs.propose.propose_span.Goals as goal

pub place_of-place-requires-clause-span : goal.place_of-place-requires-clause-span
place_of-place-requires-clause-span c = span-read c.args.past.now.first c.args.resource.now.spans c.as_slice-spans.result.now c.args.k c.index-spans-k.result c.as_slice-spans.ensures c.requires.span c.index-spans-k.is c.requires.resource.spans

pub are_true-requires : goal.are_true-requires
are_true-requires c = subst (λ (us : List Atom). All (λ u. u.subject < length c.args.past.now.first) us) (sym c.as_slice-2.ensures) (presence-inside c.args.past.now.first c.index-spans-k.result (span-read c.args.past.now.first c.args.resource.now.spans c.as_slice-spans.result.now c.args.k c.index-spans-k.result c.as_slice-spans.ensures c.requires.span c.index-spans-k.is c.requires.resource.spans))

pub absent-proposed-requires : goal.absent-proposed-requires
absent-proposed-requires c = subst (λ (us : List Atom). All (λ u. u.subject < length c.args.past.now.first) us) (sym c.as_slice-then-not-are_true.ensures) (presence-inside c.args.past.now.first c.index-spans-k.result (span-read c.args.past.now.first c.args.resource.now.spans c.as_slice-spans.result.now c.args.k c.index-spans-k.result c.as_slice-spans.ensures c.requires.span c.index-spans-k.is c.requires.resource.spans))

pub offer_some-requires-clause-resource : goal.offer_some-requires-clause-resource
offer_some-requires-clause-resource c = c.requires.resource

pub offer_some-requires-clause-subject : goal.offer_some-requires-clause-subject
offer_some-requires-clause-subject c = c.absent-proposed.ensures

pub offer_each-requires-clause-resource : goal.offer_each-requires-clause-resource
offer_each-requires-clause-resource c = c.requires.resource

pub offer_each-requires-clause-subjects : goal.offer_each-requires-clause-subjects
offer_each-requires-clause-subjects c =
    let first = c.args.past.now.first in
    let span = span-read first c.args.resource.now.spans c.as_slice-spans.result.now c.args.k c.index-spans-k.result c.as_slice-spans.ensures c.requires.span c.index-spans-k.is c.requires.resource.spans in
    three-proposed first c.start_later-later.result c.end_earlier-earlier.result c.demand_less-less.result
    (start-proposed first c.index-spans-k.result c.start_later-later.result span c.start_later-later.ensures)
    (time-proposed first c.index-spans-k.result c.end_earlier-earlier.result span c.end_earlier-earlier.ensures)
    (demand-proposed first _ c.demand_less-less.result c.demand_less-less.ensures (demand-read first c.args.resource.now.demands c.as_slice.result.now c.args.k c.as_slice.ensures c.requires.demand c.requires.resource.demands))

pub place_of-place-requires-clause-demand : goal.place_of-place-requires-clause-demand
place_of-place-requires-clause-demand c = demand-read c.args.past.now.first c.args.resource.now.demands c.as_slice.result.now c.args.k c.as_slice.ensures c.requires.demand c.requires.resource.demands
