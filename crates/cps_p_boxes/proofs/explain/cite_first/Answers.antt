-- Two present boxes that overlap across are in order along.
use Rattle.std.proofs.Common.{Ok, ◌≡◌, true, rules}
use Rattle.cps_p_boxes.proofs.Box_facts.{cites_first}
use Rattle.cps_p_span.proofs.Citing.{span_of}
use Rattle.cps_p_span.proofs.Refusing.{refused}
use Rattle.cps_p_boxes.proofs.explain.cite_first.Goals as goal

pub returns : goal.returns
returns c e =
    let one : c.cite_boxes.result ≡ Ok true = search rules in
    let two : c.cite_clash.result ≡ Ok true = search rules in
    cites_first c.args.along.now c.args.pair c.requires.pair.along c.index-along-pair-2.result c.index-along-pair.result c.index-along-pair-2.is c.index-along-pair.is c.args.across.now c.requires.pair c.args.past.now c.args.facts.now.items c.cite_boxes.new.facts.items c.cite_clash.new.facts.items c.cite_late.new.facts.items
    (c.cite_boxes.ensures one) (c.cite_clash.ensures two) (c.cite_late.ensures e)

pub cite_late-requires-clause-late : goal.cite_late-requires-clause-late
cite_late-requires-clause-late c = span_of c.args.past.now.first c.args.along.now c.args.pair.after c.index-along-pair.result c.requires.along c.requires.pair.along.after c.index-along-pair.is

pub cite_late-requires-clause-early : goal.cite_late-requires-clause-early
cite_late-requires-clause-early c = span_of c.args.past.now.first c.args.along.now c.args.pair.before c.index-along-pair-2.result c.requires.along c.requires.pair.along.before c.index-along-pair-2.is

pub returns-then-not-branch : goal.returns-then-not-branch
returns-then-not-branch c e = refused e

pub returns-then-not-branch-2 : goal.returns-then-not-branch-2
returns-then-not-branch-2 c e = refused e
