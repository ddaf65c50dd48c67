-- The earlier box ends at such a time at the earliest, and the later one starts after it.
use Rattle.std.proofs.Common.{Ok, ◌≡◌, true, rules}
use Rattle.cps_p_boxes.proofs.Box_facts.{cites_start}
use Rattle.cps_p_span.proofs.Citing.{span_of}
use Rattle.cps_p_span.proofs.Refusing.{refused}
use Rattle.cps_p_boxes.proofs.explain.explain_start.Goals as goal

pub returns : goal.returns
returns c e =
    let one : c.cite_first.result ≡ Ok true = search rules in
    let same = c.same_atom.ensures c.if-not-same_atom.false in
    cites_start c.args.along.now c.args.claim.pair c.requires.pair.along c.index-along-pair-2.result c.index-along-pair.result c.index-along-pair-2.is c.index-along-pair.is c.args.across.now c.args.past.now c.args.facts.now.items c.cite_first.new.facts.items c.cite_end_from.new.facts.items c.in-Some.atom c.args.claim.target _ same c.in-Some.ensures.says
    (c.cite_first.ensures one) (c.cite_end_from.ensures e)

pub cite_end_from-requires : goal.cite_end_from-requires
cite_end_from-requires c = span_of c.args.past.now.first c.args.along.now c.args.claim.pair.before c.index-along-pair-2.result c.requires.along c.requires.pair.along.before c.index-along-pair-2.is

pub returns-then-not-same_atom : goal.returns-then-not-same_atom
returns-then-not-same_atom c e = refused e

pub returns-then-not-branch : goal.returns-then-not-branch
returns-then-not-branch c e = refused e
