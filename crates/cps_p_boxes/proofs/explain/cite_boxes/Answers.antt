-- Each of the four spans is present.
use Rattle.std.proofs.Common.{Ok, ◌≡◌, true, rules}
use Rattle.cps_p_boxes.proofs.Box_facts.{cites_boxes}
use Rattle.cps_p_span.proofs.Citing.{span_of}
use Rattle.cps_p_span.proofs.Refusing.{refused}
use Rattle.cps_p_boxes.proofs.explain.cite_boxes.Goals as goal

pub returns : goal.returns
returns c e =
    let one : c.cite_present.result ≡ Ok true = search rules in
    cites_boxes c.args.along.now c.args.across.now c.args.pair c.requires.pair c.index-along-pair.result c.index-along-pair-2.result c.index-across-pair.result c.index-across-pair-2.result c.index-along-pair.is c.index-along-pair-2.is c.index-across-pair.is c.index-across-pair-2.is c.args.past.now c.args.facts.now.items c.cite_present.new.facts.items c.cite_present-2.new.facts.items
    (c.cite_present.ensures one) (c.cite_present-2.ensures e)

pub cite_present-requires-clause-one : goal.cite_present-requires-clause-one
cite_present-requires-clause-one c = span_of c.args.past.now.first c.args.along.now c.args.pair.before c.index-along-pair.result c.requires.along c.requires.pair.along.before c.index-along-pair.is

pub cite_present-requires-clause-other : goal.cite_present-requires-clause-other
cite_present-requires-clause-other c = span_of c.args.past.now.first c.args.along.now c.args.pair.after c.index-along-pair-2.result c.requires.along c.requires.pair.along.after c.index-along-pair-2.is

pub cite_present-requires-2-clause-one : goal.cite_present-requires-2-clause-one
cite_present-requires-2-clause-one c = span_of c.args.past.now.first c.args.across.now c.args.pair.before c.index-across-pair.result c.requires.across c.requires.pair.across.before c.index-across-pair.is

pub cite_present-requires-2-clause-other : goal.cite_present-requires-2-clause-other
cite_present-requires-2-clause-other c = span_of c.args.past.now.first c.args.across.now c.args.pair.after c.index-across-pair-2.result c.requires.across c.requires.pair.across.after c.index-across-pair-2.is

pub returns-then-not-branch : goal.returns-then-not-branch
returns-then-not-branch c e = refused e
