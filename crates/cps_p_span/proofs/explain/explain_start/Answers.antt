-- The earlier span ends at such a time at the earliest, and the later one starts after it.
use Rattle.std.proofs.Common.{Ok, ◌≡◌, true, rules}
use Rattle.cps_p_span.proofs.Citing.{cites_start, span_of}
use Rattle.cps_p_span.proofs.Refusing.{refused}
use Rattle.cps_p_span.proofs.explain.explain_start.Goals as goal

pub returns : goal.returns
returns c e =
    let one : c.cite_order.result ≡ Ok true = search rules in
    let same = c.same_atom.ensures c.if-not-same_atom.false in
    cites_start c.args.spans.now c.args.pair c.requires.pair c.index-spans-pair-2.result c.index-spans-pair.result c.index-spans-pair-2.is c.index-spans-pair.is c.args.past.now c.args.facts.now.items c.cite_order.new.facts.items c.cite_end_from.new.facts.items c.in-Some.atom c.args.target _ same c.in-Some.ensures.says (c.cite_order.ensures one) (c.cite_end_from.ensures e)

pub cite_end_from-requires : goal.cite_end_from-requires
cite_end_from-requires c = span_of c.args.past.now.first c.args.spans.now c.args.pair.before c.index-spans-pair-2.result c.requires.spans c.requires.pair.before c.index-spans-pair-2.is

pub returns-then-not-same_atom : goal.returns-then-not-same_atom
returns-then-not-same_atom c e = refused e

pub returns-then-not-branch : goal.returns-then-not-branch
returns-then-not-branch c e = refused e
