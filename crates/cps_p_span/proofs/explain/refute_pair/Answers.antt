-- Two present spans that clash overlap.
use Rattle.std.proofs.Common.{Ok, ◌≡◌, true, rules}
use Rattle.cps_p_span.proofs.Citing.{cites_refuted, span_of}
use Rattle.cps_p_span.proofs.Refusing.{refused}
use Rattle.cps_p_span.proofs.explain.refute_pair.Goals as goal

pub returns : goal.returns
returns c e =
    let one : c.cite_present.result ≡ Ok true = search rules in
    cites_refuted c.args.spans.now c.args.pair c.requires.pair c.index-spans-pair.result c.index-spans-pair-2.result c.index-spans-pair.is c.index-spans-pair-2.is c.args.past.now c.args.facts.now.items c.cite_present.new.facts.items c.cite_clash.new.facts.items (c.cite_present.ensures one) (c.cite_clash.ensures e)

pub cite_present-requires-clause-one : goal.cite_present-requires-clause-one
cite_present-requires-clause-one c = span_of c.args.past.now.first c.args.spans.now c.args.pair.before c.index-spans-pair.result c.requires.spans c.requires.pair.before c.index-spans-pair.is

pub cite_present-requires-clause-other : goal.cite_present-requires-clause-other
cite_present-requires-clause-other c = span_of c.args.past.now.first c.args.spans.now c.args.pair.after c.index-spans-pair-2.result c.requires.spans c.requires.pair.after c.index-spans-pair-2.is

pub returns-then-not-branch : goal.returns-then-not-branch
returns-then-not-branch c e = refused e
