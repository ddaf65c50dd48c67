-- Where the target is false, both boxes are present and overlap in both directions.
use Rattle.std.proofs.Common.{Ok, ◌≡◌, true, rules, ◌∙◌, ap, sym}
use Rattle.cps_p_boxes.proofs.Box_facts.{cites_absence}
use Rattle.cps_instance.specs.declared.task.Span.{Span}
use Rattle.cps_p_span.proofs.Citing.{span_of, presence_of, small_of}
use Rattle.cps_p_span.proofs.Refusing.{refused}
use Rattle.cps_p_boxes.proofs.explain.explain_absence.Goals as goal

pub returns : goal.returns
returns c e =
    let one : c.cite_others.result ≡ Ok true = search rules in
    let two : c.cite_others-2.result ≡ Ok true = search rules in
    let three : c.cite_present.result ≡ Ok true = search rules in
    let is-us : c.as_slice.result.now ≡ c.index-x-pair.result.presence = c.as_slice.ensures ∙ ap (λ (q : Span). q.presence) (sym c.index-x-pair.is) in
    let is-vs : c.as_slice-2.result.now ≡ c.index-y-pair.result.presence = c.as_slice-2.ensures ∙ ap (λ (q : Span). q.presence) (sym c.index-y-pair.is) in
    cites_absence c.args.x.now c.args.y.now c.args.claim.pair c.requires.pair c.index-x-pair.result c.index-x-pair-2.result c.index-y-pair.result c.index-y-pair-2.result c.index-x-pair.is c.index-x-pair-2.is c.index-y-pair.is c.index-y-pair-2.is c.as_slice.result.now c.as_slice-2.result.now c.args.claim.target is-us is-vs c.args.past.now
    c.args.facts.now.items c.cite_others.new.facts.items c.cite_others-2.new.facts.items c.cite_present.new.facts.items c.cite_overlap.new.facts.items (c.cite_others.ensures one) (c.cite_others-2.ensures two) (c.cite_present.ensures three) (c.cite_overlap.ensures e)

pub cite_others-requires-clause-subjects : goal.cite_others-requires-clause-subjects
cite_others-requires-clause-subjects c = presence_of c.args.past.now.first c.args.x.now c.args.claim.pair.before c.index-x-pair.result c.as_slice.result.now c.requires.x c.requires.pair.along.before c.as_slice.ensures

pub cite_others-requires-clause-small : goal.cite_others-requires-clause-small
cite_others-requires-clause-small c = small_of c.args.past.now.first c.args.x.now c.args.claim.pair.before c.index-x-pair.result c.as_slice.result.now c.requires.x c.requires.pair.along.before c.as_slice.ensures

pub cite_others-requires-2-clause-subjects : goal.cite_others-requires-2-clause-subjects
cite_others-requires-2-clause-subjects c = presence_of c.args.past.now.first c.args.y.now c.args.claim.pair.before c.index-y-pair.result c.as_slice-2.result.now c.requires.y c.requires.pair.across.before c.as_slice-2.ensures

pub cite_others-requires-2-clause-small : goal.cite_others-requires-2-clause-small
cite_others-requires-2-clause-small c = small_of c.args.past.now.first c.args.y.now c.args.claim.pair.before c.index-y-pair.result c.as_slice-2.result.now c.requires.y c.requires.pair.across.before c.as_slice-2.ensures

pub cite_present-requires-clause-one : goal.cite_present-requires-clause-one
cite_present-requires-clause-one c = span_of c.args.past.now.first c.args.x.now c.args.claim.pair.after c.index-x-pair-2.result c.requires.x c.requires.pair.along.after c.index-x-pair-2.is

pub cite_present-requires-clause-other : goal.cite_present-requires-clause-other
cite_present-requires-clause-other c = span_of c.args.past.now.first c.args.y.now c.args.claim.pair.after c.index-y-pair-2.result c.requires.y c.requires.pair.across.after c.index-y-pair-2.is

pub returns-then-not-branch : goal.returns-then-not-branch
returns-then-not-branch c e = refused e

pub returns-then-not-branch-2 : goal.returns-then-not-branch-2
returns-then-not-branch-2 c e = refused e

pub returns-then-not-branch-3 : goal.returns-then-not-branch-3
returns-then-not-branch-3 c e = refused e
